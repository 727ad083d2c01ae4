-- The words of a line.
use Rattle.std.specs.Prelude.{ℕ, Bool, true, false, List, [], ◌∷◌, Option, None, Some, Result, Ok, ◌==◌, ◌||◌, filter, is_some, position, slice_index, if◌then◌else◌}
use Rattle.std.specs.Io.BufRead.{strip_last}
use Rattle.std.specs.List.{after_first, before_first, slice_split}
use Rattle.descriptor_lines.specs.Fault.{◌>>=◌}
use Rattle.descriptor_lines.specs.declared.words.fault.Fault.{Fault}
use Rattle.descriptor_lines.specs.declared.words.text.Words.{Words}

-- a space or a tab
abbrev pub is_blank : ℕ → Bool
is_blank byte = byte == 32 || byte == 9

-- whether a piece is not empty
abbrev pub has_bytes : List ℕ → Bool
has_bytes [] = false
has_bytes (byte ∷ bytes) = true

-- the longest stretches without blanks, in order: the pieces between the blanks that are not empty
abbrev pub words : List ℕ → List (List ℕ)
words line = filter has_bytes (slice_split is_blank line)

-- the words of a line, less the carriage return that it may end in
abbrev pub words_in : List ℕ → List (List ℕ)
words_in line = words (strip_last 13 line)

-- whether a byte has this value
abbrev pub is_byte : ℕ → ℕ → Bool
is_byte value byte = byte == value

-- what stands before and after the first byte of this value, if the word has one
abbrev pub around : ℕ → List ℕ → Option (List ℕ × List ℕ)
around value word =
    if is_some (position (is_byte value) word) then Some (before_first (is_byte value) word, after_first (is_byte value) word) else None

-- the words that are still to come
abbrev pub words_left : Words → List (List ℕ)
words_left left = words left.rest.now

-- whether a line of these words gives no output: it has none, or the first begins with `#`
abbrev pub is_silent : List (List ℕ) → Bool
is_silent [] = true
is_silent (word ∷ words) = slice_index word 0 == 35

-- what a step makes of the words, one after the other, up to the first fault
abbrev pub in_turn : {A : Type 0} → (A → List ℕ → Result A Fault) → A → List (List ℕ) → Result A Fault
in_turn step so_far [] = Ok so_far
in_turn step so_far (word ∷ words) = step so_far word >>= λ more. in_turn step more words
