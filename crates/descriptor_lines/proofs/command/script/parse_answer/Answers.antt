use Rattle.std.proofs.Common.{codes, sym, ap, arith}
use Rattle.descriptor_lines.specs.ScriptWords.{answer_in}
use Rattle.descriptor_lines.proofs.WordLemmas.{spelled}
use Rattle.descriptor_lines.proofs.command.script.parse_answer.Goals as goal

pub returns-in-device : goal.returns-in-device
returns-in-device c =
    sym (ap answer_in (spelled c.args.word.now (codes "device") (omega arith) (omega arith, (omega arith, (omega arith, (omega arith, (omega arith, (omega arith, tt))))))))
