-- The first word of a line, and the others, for the iterator `Words`; and a word whose bytes are known one by one, for the keywords.
use Rattle.std.proofs.lemmas.Grind.{common_steps}
use Rattle.std.proofs.Common.{◌≡◌, ℕ, ◌+◌, ◌<◌, ◌≤◌, ◌⊎◌, inl, inr, true, false, List, [], ◌∷◌, length, take, drop, get_or, slice_index, filter, unwrap_or, position, refl, arith, ap, sym, ◌∙◌, rules}
use Rattle.std.specs.List.{position_or_len, slice_split}
use Rattle.std.proofs.lemmas.Bool.{cases_lt}
use Rattle.std.proofs.lemmas.Bool.Decides.{nat_tests}
use Rattle.std.proofs.lemmas.List.Splits.{slice_split_first, slice_split_none}
use Rattle.std.proofs.lemmas.List.Sums.{passes_at_first, fails_before_first, prefix_len-le-length}
use Rattle.std.proofs.lemmas.List.{drop_more, take_all, drop_all, length-take-le}
use Rattle.descriptor_lines.specs.Words.{words, is_blank, has_bytes}

words-blank : (byte : ℕ) (line : List ℕ) → is_blank byte ≡ true → words (byte ∷ line) ≡ words line
words-blank byte line blank = simp blank

-- a piece that isn't empty is a word
filter-piece : (piece : List ℕ) (pieces : List (List ℕ)) → 0 < length piece → filter has_bytes (piece ∷ pieces) ≡ piece ∷ filter has_bytes pieces
filter-piece [] pieces some = elim some [ ]
filter-piece (byte ∷ bytes) pieces some = refl

-- the first word ends at a blank
words_before : (line : List ℕ) → position_or_len is_blank line < length line → 0 < position_or_len is_blank line → let end = position_or_len is_blank line in words line ≡ take end line ∷ words (drop end line)
words_before line ends some =
    let end : ℕ = position_or_len is_blank line in
    let others : words (drop end line) ≡ words (drop (end + 1) line) = ap words (drop_more line end 0 ends) ∙ words-blank (get_or line end 0) (drop (end + 1) line) (passes_at_first is_blank line 0 ends) in
    let has_some : 0 < length (take end line) = rw (length-take-le end line (omega arith)) some in
    ap (filter has_bytes) (slice_split_first is_blank line 0 ends) ∙ filter-piece (take end line) (slice_split is_blank (drop (end + 1) line)) has_some ∙ ap (λ rest. take end line ∷ rest) (sym others)

-- the first word is the last
words_last : (line : List ℕ) → 0 < length line → length line ≤ position_or_len is_blank line → let end = position_or_len is_blank line in words line ≡ take end line ∷ words (drop end line)
words_last line some ends = grind (arith, common_steps, drop_all, fails_before_first, slice_split_none, take_all)

-- a line that begins with no blank has a word before its first blank
begins_some : (line : List ℕ) → 0 < length line → is_blank (slice_index line 0) ≡ false → 0 < position_or_len is_blank line
begins_some [] some begins = elim some [ ]
begins_some (byte ∷ line) some begins = simp begins (omega arith)

words_first_by : (line : List ℕ) → 0 < length line → is_blank (slice_index line 0) ≡ false → let end = position_or_len is_blank line in (end < length line) ⊎ (length line ≤ end) → words line ≡ take end line ∷ words (drop end line)
words_first_by line some begins (inl ends) = words_before line ends (begins_some line some begins)
words_first_by line some begins (inr ends) = words_last line some ends

-- so the first word is what is before the first blank, and the others are those of the rest
pub words_first : (line : List ℕ) → 0 < length line → is_blank (slice_index line 0) ≡ false → let end = position_or_len is_blank line in words line ≡ take end line ∷ words (drop end line)
words_first line some begins = words_first_by line some begins (cases_lt _ _)

end_is : (line : List ℕ) → unwrap_or (position is_blank line) (length line) ≡ position_or_len is_blank line
end_is line = let at_most : position_or_len is_blank line ≤ length line = prefix_len-le-length _ line in grind (arith, nat_tests)

-- what stands before the first blank is the first word, where the line begins with no blank
pub words_split : (line word others : List ℕ) (end : ℕ) → end ≡ unwrap_or (position is_blank line) (length line) → word ≡ take end line → others ≡ drop end line → (0 < length line → is_blank (slice_index line 0) ≡ false) → 0 < length word → words line ≡ word ∷ words others
words_split line word others end ends front back begins some = search (rules, end_is, words_first)

-- from a place on the word has these bytes
abbrev pub Spells : List ℕ → ℕ → List ℕ → Type 0
Spells word place [] = Unit {0}
Spells word place (byte ∷ bytes) = (get_or word place 0 ≡ byte) × Spells word (place + 1) bytes

spelled_from : (word bytes : List ℕ) (place : ℕ) → length word ≡ place + length bytes → Spells word place bytes → drop place word ≡ bytes
spelled_from word [] place size spells = drop_all place word (omega arith)
spelled_from word (byte ∷ bytes) place size (is, others) =
    drop_more word place 0 (omega arith) ∙ ap (λ first. first ∷ drop (place + 1) word) is ∙ ap (λ rest. byte ∷ rest) (spelled_from word bytes (place + 1) (omega arith) others)

-- a word is what its bytes spell
pub spelled : (word bytes : List ℕ) → length word ≡ length bytes → Spells word 0 bytes → word ≡ bytes
spelled word bytes size spells = spelled_from word bytes 0 (omega arith) spells
