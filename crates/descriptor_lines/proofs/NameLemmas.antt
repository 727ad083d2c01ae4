-- A name is text: all its bytes are ASCII, so they are UTF-8. For the function `name`.
use Rattle.std.proofs.Common.{◌≡◌, ℕ, ◌<◌, ◌≤◌, ◌⊎◌, true, List, length, get_or, nat_le, ◌&&◌, inl, inr, arith}
use Rattle.std.proofs.lemmas.List.{get_or_past}
use Rattle.std.specs.List.{list_all}
use Rattle.std.specs.Str.{IsUtf8}
use Rattle.std.proofs.lemmas.Bool.{and_parts, cases_lt}
use Rattle.std.proofs.lemmas.Bool.Decides.{nat_tests}
use Rattle.std.proofs.lemmas.List.Sums.{AllPass-from_list_all}
use Rattle.std.proofs.lemmas.Str.{IsUtf8-from_ascii}
use Rattle.descriptor_lines.specs.Names.{is_name, is_name_byte}

ascii_from_name_byte : (byte : ℕ) → is_name_byte byte ≡ true → byte < 128
ascii_from_name_byte byte is = grind (arith, nat_tests)

ascii_from_name : (word : List ℕ) → is_name word ≡ true → (i : ℕ) → (i < length word) ⊎ (length word ≤ i) → get_or word i 0 < 128
unfolding is_name
ascii_from_name word name i (inl inside) =
    ascii_from_name_byte (get_or word i 0) (AllPass-from_list_all is_name_byte word (and_parts (nat_le 1 (length word) && nat_le (length word) 32) (list_all is_name_byte word) name).1 i 0 inside)
ascii_from_name word name i (inr past) = omega (arith, get_or_past word i 0 past)

pub text_from_name : (word : List ℕ) → is_name word ≡ true → IsUtf8 word
text_from_name word name = IsUtf8-from_ascii word (λ i. ascii_from_name word name i (cases_lt _ _))
