use Rattle.std.proofs.Common.{codes, sym, ap, arith}
use Rattle.descriptor_lines.specs.Keywords.{keyword_of}
use Rattle.descriptor_lines.proofs.WordLemmas.{spelled}
use Rattle.descriptor_lines.proofs.words.keyword.Keyword.of_word.Goals as goal

pub returns-in-layout : goal.returns-in-layout
returns-in-layout c =
    sym (ap keyword_of (spelled c.args.word.now (codes "layout") (omega arith) (omega arith, (omega arith, (omega arith, (omega arith, (omega arith, (omega arith, tt))))))))

pub returns-in-script : goal.returns-in-script
returns-in-script c =
    sym (ap keyword_of (spelled c.args.word.now (codes "script") (omega arith) (omega arith, (omega arith, (omega arith, (omega arith, (omega arith, (omega arith, tt))))))))

pub returns-in-cleanup : goal.returns-in-cleanup
returns-in-cleanup c =
    sym (ap keyword_of (spelled c.args.word.now (codes "cleanup") (omega arith) (omega arith, (omega arith, (omega arith, (omega arith, (omega arith, (omega arith, (omega arith, tt)))))))))
