-- The lines that known bytes begin with.
use Rattle.std.specs.Prelude.{◌≡◌, ℕ, ◌<◌, List, [], ◌∷◌, length}
use Rattle.std.specs.List.{after_first, before_first, position_or_len, slice_split}
use Rattle.descriptor_lines.specs.Words.{is_byte}

-- a line ends among the bytes
abbrev pub HasEnd : List ℕ → Type 0
HasEnd bytes = position_or_len (is_byte 10) bytes < length bytes

-- no line ends among the bytes
abbrev pub HasNoEnd : List ℕ → Type 0
HasNoEnd bytes = position_or_len (is_byte 10) bytes ≡ length bytes

-- the bytes before the first end of a line, or all of them
abbrev pub before_end : List ℕ → List ℕ
before_end bytes = before_first (is_byte 10) bytes

-- the bytes after the first end of a line, or none
abbrev pub after_end : List ℕ → List ℕ
after_end bytes = after_first (is_byte 10) bytes

-- the pieces, but for an empty last one
abbrev pub without_empty_last : List (List ℕ) → List (List ℕ)
without_empty_last [] = []
without_empty_last ([] ∷ []) = []
without_empty_last (piece ∷ pieces) = piece ∷ without_empty_last pieces

-- the lines of the bytes: what is before each end of a line, and what is left after the last, if that is not empty
unfoldable pub lines_of : List ℕ → List (List ℕ)
lines_of bytes = without_empty_last (slice_split (is_byte 10) bytes)

-- the greatest number of bytes of a line
abbrev pub longest_line : ℕ
longest_line = 4096

-- how many bytes a buffer of lines holds
abbrev pub buffer_len : ℕ
buffer_len = 65536
