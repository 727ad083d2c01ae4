use Rattle.std.proofs.Common.{◌≡◌, rules, arith}
use Rattle.std.specs.List.{list_all}
use Rattle.std.proofs.lemmas.Bool.Decides.{nat_tests}
use Rattle.std.proofs.lemmas.Iterator.{YieldsList-from_slice}
use Rattle.std.proofs.lemmas.Iterator.Search.{all_from_yields_List}
use Rattle.descriptor_lines.specs.Names.{is_name, is_name_byte}
use Rattle.descriptor_lines.proofs.words.text.is_name.Goals as goal

pub returns-then-word-le-MAX_NAME_LEN : goal.returns-then-word-le-MAX_NAME_LEN
unfolding is_name
returns-then-word-le-MAX_NAME_LEN c =
    let all : c.all.result ≡ list_all is_name_byte c.args.word.now = all_from_yields_List is_name_byte _ _ _ c.all.ensures.ran (YieldsList-from_slice c.args.word.now (cc)) (λ x b q k. search rules) in
    grind (arith, nat_tests)

pub returns-else-word-le-MAX_NAME_LEN : goal.returns-else-word-le-MAX_NAME_LEN
unfolding is_name
returns-else-word-le-MAX_NAME_LEN c = grind (arith, nat_tests)
