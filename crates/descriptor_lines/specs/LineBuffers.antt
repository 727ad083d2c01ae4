-- What a buffer of lines has to give. Only the code's own contracts say it.
use Rattle.std.specs.Prelude.{◌≡◌, ◌<◌, ℕ, List, [], Option, None, Some, IsTrue, if◌then◌else◌, length, slice_range}
use Rattle.std.specs.Io.KnownBytes.{IsAtEnd, prepend_known}
use Rattle.descriptor_lines.specs.Lines.{after_end, before_end}
use Rattle.descriptor_lines.specs.declared.input.LineBuffer.{LineBuffer}
use Rattle.descriptor_lines.specs.declared.input.Span.{Span}

-- the bytes in the buffer that are in no line yet
abbrev pub buffered : LineBuffer → List ℕ
buffered buffer = slice_range buffer.bytes.items buffer.start buffer.end

-- the bytes that are in no line yet: those in the buffer, and then, before the end of the reader was seen, those that it has left
abbrev pub unread : LineBuffer → Option (List ℕ) → Option (List ℕ)
unread buffer known =
    prepend_known (buffered buffer) (if buffer.is_at_end then Some [] else known)

-- the buffer has seen the end of a reader only if that has nothing left
abbrev pub SeesEndOf : LineBuffer → Option (List ℕ) → Type 0
SeesEndOf buffer known = IsTrue buffer.is_at_end → IsAtEnd known

-- the next line is the first of the bytes that are in no line yet, and is taken off them; or they are at their end
abbrev pub TakesLine : List ℕ → Option Span → LineBuffer → Option (List ℕ) → Type 0
TakesLine bytes (Some span) buffer left =
    (0 < length bytes) × (slice_range buffer.bytes.items span.start span.end ≡ before_end bytes) × (left ≡ Some (after_end bytes))
TakesLine bytes None buffer left = bytes ≡ []
