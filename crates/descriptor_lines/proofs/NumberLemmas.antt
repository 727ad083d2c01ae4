-- The value of a number, digit by digit: for the loop of `number_within`.
use Rattle.std.proofs.Common.{◌≡◌, ℕ, ◌+◌, ◌-◌, ◌*◌, ◌<◌, true, List, Err, length, take, get_or, nat_le, ◌&&◌, arith, ap, ◌∙◌}
use Rattle.std.specs.Char.{IsAsciiDigit, digit_value, is_ascii_digit}
use Rattle.std.specs.List.{list_all}
use Rattle.std.specs.Str.Parse.{digits_value}
use Rattle.std.proofs.lemmas.Bool.{and_parts}
use Rattle.std.proofs.lemmas.Bool.Decides.{nat_tests}
use Rattle.std.proofs.lemmas.Int.Digits.{digits_value_more}
use Rattle.std.proofs.lemmas.List.Sums.{AllPass-from_list_all}
use Rattle.std.proofs.lemmas.Str.{digit_value_digit}
use Rattle.std.proofs.lemmas.Str.Parse.{digits_value-take-le}
use Rattle.descriptor_lines.specs.Numbers.{is_number, number_in}
use Rattle.descriptor_lines.specs.declared.words.fault.Fault.TheVariants.{BadNumber}

-- a number has only digits
pub digit_at : (word : List ℕ) (i : ℕ) → is_number word ≡ true → i < length word → IsAsciiDigit (get_or word i 0)
unfolding is_number
digit_at word i number inside =
    let digits : list_all is_ascii_digit word ≡ true = (and_parts (nat_le 1 (length word) && nat_le (length word) 20) (list_all is_ascii_digit word) number).1 in
    let digit : is_ascii_digit (get_or word i 0) ≡ true = AllPass-from_list_all is_ascii_digit word digits i 0 inside in
    grind (arith, nat_tests)

-- one digit more
pub value_more : (word : List ℕ) (i : ℕ) → is_number word ≡ true → i < length word → digits_value 10 (take (i + 1) word) ≡ digits_value 10 (take i word) * 10 + (get_or word i 0 - 48)
value_more word i number inside =
    let value : digit_value (get_or word i 0) ≡ get_or word i 0 - 48 = omega (arith, digit_value_digit _ (digit_at word i number inside), digit_at word i number inside) in
    digits_value_more 10 word i inside ∙ ap (λ v. digits_value 10 (take i word) * 10 + v) value

-- digits of which the first write too much write too much
pub too_great : (greatest : ℕ) (word : List ℕ) (i : ℕ) → is_number word ≡ true → i < length word → greatest < digits_value 10 (take i word) * 10 + (get_or word i 0 - 48) → number_in greatest word ≡ Err BadNumber
unfolding number_in
too_great greatest word i number inside past =
    let great : greatest < digits_value 10 word = omega (arith, value_more word i number inside, digits_value-take-le 10 word (i + 1) (omega arith)) in
    grind (arith, nat_tests)
