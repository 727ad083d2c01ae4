-- The least of a number and a list.
use Rattle.std.proofs.Common.{ℕ, zero, suc, ◌<◌, ◌≤◌, max, min, List, [], ◌∷◌, length, slice_index_or, arith}
use Rattle.std.specs.Prelude.{fold}

pub fold_min-le-first : (n : ℕ) (others : List ℕ) → fold min n others ≤ n
fold_min-le-first n [] = omega arith
fold_min-le-first n (x ∷ others) = (let rest = fold_min-le-first (min n x) others in omega arith)

-- it is not above any of the list
pub fold_min-le : (n : ℕ) (others : List ℕ) (k d : ℕ) → k < length others → fold min n others ≤ slice_index_or others k d
fold_min-le n [] k d within = absurd (omega arith)
fold_min-le n (x ∷ others) zero d within = (let rest = fold_min-le-first (min n x) others in omega arith)
fold_min-le n (x ∷ others) (suc k) d within = fold_min-le (min n x) others k d (omega arith)

-- what is below all of them is below it
pub le-fold_min : (m n : ℕ) (others : List ℕ) → m ≤ n → ((k : ℕ) → k < length others → m ≤ slice_index_or others k m) → m ≤ fold min n others
le-fold_min m n [] first below = first
le-fold_min m n (x ∷ others) first below = le-fold_min m (min n x) others (let here : m ≤ x = below 0 (omega arith) in omega arith) (λ k within. below (suc k) (omega arith))

-- ---- the greatest of a list

greatest-ge-first : (n : ℕ) (counts : List ℕ) → n ≤ fold max n counts
greatest-ge-first n [] = omega arith
greatest-ge-first n (x ∷ counts) = (let rest = greatest-ge-first (max n x) counts in omega arith)

-- none of the list is above it
pub greatest-ge : (n : ℕ) (counts : List ℕ) (k d : ℕ) → k < length counts → slice_index_or counts k d ≤ fold max n counts
greatest-ge n [] k d within = absurd (omega arith)
greatest-ge n (x ∷ counts) zero d within = (let rest = greatest-ge-first (max n x) counts in omega arith)
greatest-ge n (x ∷ counts) (suc k) d within = greatest-ge (max n x) counts k d (omega arith)
