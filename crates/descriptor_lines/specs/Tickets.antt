-- The tickets of a line that frees sets.
use Rattle.std.specs.Prelude.{ℕ, ◌+◌, ◌-◌, List, [], ◌++◌, Result, Ok, Err, length, reverse, if◌then◌else◌, nat_le, unwrap_or}
use Rattle.std.specs.List.{range_with_len}
use Rattle.gpu_descriptor_types.specs.Bounds.{greatest_u64}
use Rattle.descriptor_lines.specs.Fault.{◌>>=◌}
use Rattle.descriptor_lines.specs.Numbers.{number_in}
use Rattle.descriptor_lines.specs.Words.{around, in_turn}
use Rattle.descriptor_lines.specs.declared.words.fault.Fault.{Fault}
use Rattle.descriptor_lines.specs.declared.words.fault.Fault.TheVariants.{TooManyTickets}

-- from the one to the other, up or down in steps of 1
abbrev pub tickets_between : ℕ → ℕ → List ℕ
tickets_between first last =
    if nat_le first last then range_with_len first (last - first + 1) else reverse (range_with_len last (first - last + 1))

-- the tickets of a word: one, or those of a range, with a ticket on each side of its one `-`
abbrev pub tickets_of : List ℕ → Result (List ℕ) Fault
tickets_of word =
    let sides = unwrap_or (around 45 word) (word, word) in do
      first ← number_in greatest_u64 sides.0
      last ← number_in greatest_u64 sides.1
      Ok (tickets_between first last)

-- the greatest number of tickets of a line
abbrev pub max_tickets : ℕ
max_tickets = 1000000

-- tickets after others, if they aren't too many
abbrev pub joined : List ℕ → List ℕ → Result (List ℕ) Fault
joined tickets more =
    if nat_le (length (tickets ++ more)) max_tickets then Ok (tickets ++ more) else Err TooManyTickets

-- the tickets that the words write, one word after the other
abbrev pub tickets_in : List (List ℕ) → Result (List ℕ) Fault
tickets_in words = in_turn (λ tickets word. tickets_of word >>= joined tickets) [] words
