-- Sums over a table depend on the books that it keeps, and not on its order: for `laws::books_alone`.
use Rattle.gpu_descriptor.proofs.Common.{◌≡◌, ℕ, ◌+◌, ◌≤◌, true, false, cond, List, [], ◌∷◌, inl, inr, refl, sym, ap, ◌∙◌, subst, arith, list_any, cases_Bool, sum_by-append, Key, key_eq, Bucket, no_pools, books_of, HasDistinctKeys, sum_over, common_steps}
use Rattle.gpu_descriptor.proofs.table.Exact.{key_exact}

pub sum_more : (f : Key → Bucket → ℕ) (row : Key × Bucket) (t : List (Key × Bucket)) → sum_over f (row ∷ t) ≡ f row.0 row.1 + sum_over f t
sum_more f row t = sum_by-append (λ r. f r.0 r.1) (row ∷ []) t ∙ (let one : sum_over f (row ∷ []) ≡ f row.0 row.1 = omega arith in omega arith)

pub key_eq_symm : (k l : Key) → key_eq k l ≡ key_eq l k
key_eq_symm k l = grind (arith, key_exact)

-- the table without a key's row
without : Key → List (Key × Bucket) → List (Key × Bucket)
without k [] = []
without k (row ∷ t) = cond (key_eq row.0 k) t (row ∷ without k t)

pub absent : (k : Key) (t : List (Key × Bucket)) → list_any (λ row. key_eq row.0 k) t ≡ false → books_of t k ≡ no_pools
absent k [] h = refl
absent k (row ∷ t) h = grind (arith, (absent k t))

-- the first row has the books of its key
pub first_books : (row : Key × Bucket) (t : List (Key × Bucket)) → books_of (row ∷ t) row.0 ≡ row.1
first_books row t = rw (key_exact.self row.0) refl

-- behind it the key has nothing
pub none_behind : (row : Key × Bucket) (t : List (Key × Bucket)) → HasDistinctKeys (row ∷ t) → (k : Key) → key_eq row.0 k ≡ true → books_of t k ≡ no_pools
none_behind row t distinct k at = absent k t (ap (λ (l : Key). list_any (λ other. key_eq other.0 l) t) (sym (key_exact.same row.0 k at)) ∙ distinct.0)

-- of two sums the one that has no more of any key's books is no more. Its terms are 0 without pools
pub sum_over_below : (f g : Key → Bucket → ℕ) (t : List (Key × Bucket)) → ((k : Key) → f k no_pools ≡ 0) → HasDistinctKeys t → ((k : Key) → f k (books_of t k) ≤ g k (books_of t k)) → sum_over f t ≤ sum_over g t
sum_over_below f g [] none distinct below = omega arith
sum_over_below f g (row ∷ t) none distinct below =
    let here : f row.0 row.1 ≤ g row.0 row.1 = subst (λ (b : Bucket). f row.0 b ≤ g row.0 b) (first_books row t) (below row.0) in
    grind (arith, common_steps, none_behind, sum_more, (sum_over_below f g t none distinct.1))

-- the table without a key's row: its sum, its keys, its books
sum_without : (f : Key → Bucket → ℕ) → ((k : Key) → f k no_pools ≡ 0) → (k : Key) (t : List (Key × Bucket)) → sum_over f t ≡ f k (books_of t k) + sum_over f (without k t)
unfolding without
sum_without f none k [] = (let e = none k in omega arith)
sum_without f none k (row ∷ t) = grind (arith, common_steps, key_exact, (sum_without f none k t))

any_without : (k l : Key) (t : List (Key × Bucket)) → list_any (λ row. key_eq row.0 l) t ≡ false → list_any (λ row. key_eq row.0 l) (without k t) ≡ false
unfolding without
any_without k l [] h = refl
any_without k l (row ∷ t) h = grind (arith, (any_without k l t))

distinct_without : (k : Key) (t : List (Key × Bucket)) → HasDistinctKeys t → HasDistinctKeys (without k t)
unfolding without
distinct_without k [] h = tt
distinct_without k (row ∷ t) h = elim (cases_Bool (key_eq row.0 k)) [
  | inl e ↦ rw e h.1
  | inr e ↦ rw e (any_without k row.0 t h.0, distinct_without k t h.1)
]

-- the row that is taken out is the key's only one, and the others stay
books_without : (k l : Key) (t : List (Key × Bucket)) → HasDistinctKeys t → books_of (without k t) l ≡ cond (key_eq k l) no_pools (books_of t l)
unfolding without
books_without k l [] h = elim (cases_Bool (key_eq k l)) [ inl e ↦ rw e refl | inr e ↦ rw e refl ]
books_without k l (row ∷ t) h = grind (arith, absent, key_exact, (books_without k l t h.1))

-- by induction over the table t, whose rows are taken out of u one by one
pub sum_by_books : (f : Key → Bucket → ℕ) (t u : List (Key × Bucket)) → ((k : Key) → f k no_pools ≡ 0) → HasDistinctKeys t → HasDistinctKeys u → ((k : Key) → books_of t k ≡ books_of u k) → sum_over f t ≡ sum_over f u
sum_by_books f [] u none dt du same = sym (nothing u du (λ k. sym (same k)))
  where
    nothing : (u : List (Key × Bucket)) → HasDistinctKeys u → ((k : Key) → books_of u k ≡ no_pools) → sum_over f u ≡ 0
    nothing [] du empty = refl
    nothing (row ∷ u) du empty =
        let here : row.1 ≡ no_pools = sym (first_books row u) ∙ empty row.0 in
        let zero_here : f row.0 row.1 ≡ 0 = ap (f row.0) here ∙ none row.0 in
        let rest : sum_over f u ≡ 0 = nothing u du.1 (λ k. elim (cases_Bool (key_eq row.0 k)) [
          | inl at ↦ none_behind row u du k at
          | inr other ↦ (let skip : books_of (row ∷ u) k ≡ books_of u k = rw other refl in sym skip ∙ empty k)
        ]) in
        let whole = sum_more f row u in
        omega arith
sum_by_books f (row ∷ t) u none dt du same =
    let k = row.0 in
    let b = sum_without f none k u in
    grind (arith, common_steps, books_without, distinct_without, first_books, none_behind, sum_more, without, (sum_by_books f t))
