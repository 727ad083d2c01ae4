-- The kinds of an answer, one by one: for the loop of `kinds_answer`.
use Rattle.std.proofs.Common.{◌≡◌, ℕ, ◌+◌, ◌<◌, ◌≤◌, List, [], ◌++◌, length, take, get_or, refl, ap, sym, ◌∙◌, arith}
use Rattle.std.specs.List.{flat_map, zip}
use Rattle.std.proofs.lemmas.List.{take_all, take_more, flat_map_more}
use Rattle.std.proofs.lemmas.Slice.Zip.{length-zip, get_or-zip}
use Rattle.descriptor_lines.specs.Answers.{kind_answer, kinds_answer}
use Rattle.descriptor_lines.specs.Kinds.{kind_names}

-- the first n kinds
unfoldable pub answer_of_first : ℕ → List (List ℕ) → List ℕ → List ℕ
answer_of_first n names counts = flat_map kind_answer (take n (zip names counts))

pub answer_of_none : (names : List (List ℕ)) (counts : List ℕ) → answer_of_first 0 names counts ≡ []
unfolding answer_of_first
answer_of_none names counts = refl

-- with the next kind its text comes after; and after the last kind this is the whole
pub answer_of_more : (names : List (List ℕ)) (counts : List ℕ) (n : ℕ) → n < length names → n < length counts → answer_of_first (n + 1) names counts ≡ answer_of_first n names counts ++ kind_answer (get_or names n [], get_or counts n 0)
unfolding answer_of_first
answer_of_more names counts n named counted =
    let inside : n < length (zip names counts) = rw (length-zip names counts) (omega arith) in
    ap (flat_map kind_answer) (take_more (zip names counts) n ([], 0) inside)
    ∙ sym (flat_map_more kind_answer [] (take n (zip names counts)) (get_or (zip names counts) n ([], 0)))
    ∙ ap (λ kind. flat_map kind_answer (take n (zip names counts)) ++ kind_answer kind)
    (get_or-zip names counts n ([], 0) named counted)

pub answer_of_all : (counts : List ℕ) (n : ℕ) → length counts ≤ n → answer_of_first n kind_names counts ≡ kinds_answer counts
unfolding answer_of_first kinds_answer
answer_of_all counts n all =
    ap (flat_map kind_answer) (take_all n (zip kind_names counts) (rw (length-zip kind_names counts) (omega arith)))
