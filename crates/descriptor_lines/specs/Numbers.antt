-- What a number is, and its value.
use Rattle.std.specs.Prelude.{ℕ, Bool, List, Result, Ok, Err, if◌then◌else◌, length, nat_le, ◌&&◌}
use Rattle.std.specs.Char.{is_ascii_digit}
use Rattle.std.specs.List.{list_all}
use Rattle.std.specs.Str.Parse.{digits_value}
use Rattle.descriptor_lines.specs.declared.words.fault.Fault.{Fault}
use Rattle.descriptor_lines.specs.declared.words.fault.Fault.TheVariants.{BadNumber}

-- 1 to 20 digits, leading zeros allowed
unfoldable pub is_number : List ℕ → Bool
is_number word = nat_le 1 (length word) && nat_le (length word) 20 && list_all is_ascii_digit word

-- the number that a word writes, if it is at most `greatest`
unfoldable pub number_in : ℕ → List ℕ → Result ℕ Fault
number_in greatest word =
    if is_number word && nat_le (digits_value 10 word) greatest then Ok (digits_value 10 word) else Err BadNumber
