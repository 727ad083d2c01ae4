-- The lines of bytes: for the loop of `run_to_end`, by `EndLemmas`.
use Rattle.std.proofs.Common.{◌≡◌, ℕ, ◌<◌, ◌≤◌, ◌⊎◌, inl, inr, List, [], ◌∷◌, length, refl, sym, ap, ◌∙◌, arith}
use Rattle.std.specs.List.{position_or_len, slice_split}
use Rattle.std.proofs.lemmas.Bool.{cases_lt}
use Rattle.std.proofs.lemmas.List.Splits.{length-slice_split, slice_split_first, slice_split_none}
use Rattle.std.proofs.lemmas.List.Sums.{fails_before_first, prefix_len-le-length}
use Rattle.descriptor_lines.specs.Words.{is_byte}
use Rattle.descriptor_lines.specs.Lines.{HasEnd, after_end, before_end, lines_of, without_empty_last}
use Rattle.descriptor_lines.proofs.LineLemmas.{after_end-whole, before_end-whole}

-- ---- the lines of bytes

-- a piece before others is a line, and so is a last one that isn't empty
first_piece : (piece : List ℕ) (pieces : List (List ℕ)) → 0 < length pieces → without_empty_last (piece ∷ pieces) ≡ piece ∷ without_empty_last pieces
first_piece piece [] some = absurd (omega arith)
first_piece [] (next ∷ pieces) some = refl
first_piece (byte ∷ bytes) (next ∷ pieces) some = refl

only_piece : (piece : List ℕ) → 0 < length piece → without_empty_last (piece ∷ []) ≡ piece ∷ []
only_piece [] some = absurd (omega arith)
only_piece (byte ∷ bytes) some = refl

pub no_lines : lines_of [] ≡ []
unfolding lines_of
no_lines =
    refl

-- bytes without an end of a line are one line
one_line : (bytes : List ℕ) → 0 < length bytes → length bytes ≤ position_or_len (is_byte 10) bytes → lines_of bytes ≡ bytes ∷ []
unfolding lines_of
one_line bytes some none =
    let whole : slice_split (is_byte 10) bytes ≡ bytes ∷ [] = slice_split_none (is_byte 10) bytes (λ k d inside. fails_before_first (is_byte 10) bytes k d (omega arith)) in
    ap without_empty_last whole ∙ only_piece bytes some

-- the first line ends
ended_line : (bytes : List ℕ) → HasEnd bytes → lines_of bytes ≡ before_end bytes ∷ lines_of (after_end bytes)
unfolding lines_of
ended_line bytes ends =
    let others : List (List ℕ) = slice_split (is_byte 10) (after_end bytes) in
    ap without_empty_last (slice_split_first (is_byte 10) bytes 0 ends) ∙ first_piece (before_end bytes) others (omega (arith, length-slice_split (is_byte 10) (after_end bytes)))

-- the two cases of what follows: a line ends among the bytes, or none does
lines_split_by : (bytes : List ℕ) → 0 < length bytes → HasEnd bytes ⊎ (length bytes ≤ position_or_len (is_byte 10) bytes) → lines_of bytes ≡ before_end bytes ∷ lines_of (after_end bytes)
lines_split_by bytes some (inl ends) = ended_line bytes ends
lines_split_by bytes some (inr none) =
    let at_most : position_or_len (is_byte 10) bytes ≤ length bytes = prefix_len-le-length _ bytes in
    let no_end : position_or_len (is_byte 10) bytes ≡ length bytes = omega arith in
    let nothing : lines_of (after_end bytes) ≡ [] = ap lines_of (after_end-whole bytes no_end) ∙ no_lines in
    one_line bytes some none ∙ ap (λ line. line ∷ []) (sym (before_end-whole bytes no_end)) ∙ ap (λ lines. before_end bytes ∷ lines) (sym nothing)

-- the first line of bytes, and those behind it
pub lines_split : (bytes : List ℕ) → 0 < length bytes → lines_of bytes ≡ before_end bytes ∷ lines_of (after_end bytes)
lines_split bytes some = lines_split_by bytes some (cases_lt _ _)
