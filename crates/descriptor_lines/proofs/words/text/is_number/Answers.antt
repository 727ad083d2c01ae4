use Rattle.std.proofs.Common.{◌≡◌, rules, arith}
use Rattle.std.specs.List.{list_all}
use Rattle.std.proofs.lemmas.Bool.Decides.{nat_tests}
use Rattle.std.proofs.lemmas.Iterator.{YieldsList-from_slice}
use Rattle.std.proofs.lemmas.Iterator.Search.{all_from_yields_List}
use Rattle.std.specs.Char.{is_ascii_digit}
use Rattle.descriptor_lines.specs.Numbers.{is_number}
use Rattle.descriptor_lines.proofs.words.text.is_number.Goals as goal

pub returns-then-word-le-MAX_DIGITS : goal.returns-then-word-le-MAX_DIGITS
unfolding is_number
returns-then-word-le-MAX_DIGITS c =
    let all : c.all.result ≡ list_all is_ascii_digit c.args.word.now = all_from_yields_List is_ascii_digit _ _ _ c.all.ensures.ran (YieldsList-from_slice c.args.word.now (cc)) (λ x b q k. search rules) in
    grind (arith, nat_tests)

pub returns-else-word-le-MAX_DIGITS : goal.returns-else-word-le-MAX_DIGITS
unfolding is_number
returns-else-word-le-MAX_DIGITS c = grind (arith, nat_tests)
