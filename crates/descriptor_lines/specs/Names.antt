-- What a name is.
use Rattle.std.specs.Prelude.{ℕ, Bool, List, Result, length, nat_le, ok_or, ◌==◌, ◌&&◌, ◌||◌}
use Rattle.std.specs.Bool.{then_some}
use Rattle.std.specs.Char.{is_ascii_alphanumeric}
use Rattle.std.specs.List.{list_all}
use Rattle.descriptor_lines.specs.declared.words.fault.Fault.{Fault}
use Rattle.descriptor_lines.specs.declared.words.fault.Fault.TheVariants.{BadName}

-- A to Z, a to z, 0 to 9, `_` and `-`
abbrev pub is_name_byte : ℕ → Bool
is_name_byte byte = is_ascii_alphanumeric byte || byte == 95 || byte == 45

-- 1 to 32 such bytes
unfoldable pub is_name : List ℕ → Bool
is_name word = nat_le 1 (length word) && nat_le (length word) 32 && list_all is_name_byte word

-- the name that a word is, or the fault that it is none
abbrev pub name_in : List ℕ → Result (List ℕ) Fault
name_in word = ok_or (then_some (is_name word) word) BadName
