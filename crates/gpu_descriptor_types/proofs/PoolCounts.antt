-- How many descriptors a pool has.
use Rattle.std.proofs.Common.{◌≡◌, ℕ, ◌+◌, ◌*◌, ◌<◌, ◌==◌, max, List, [], ◌∷◌, length, map, sum, slice_set, inl, inr, ap, arith, eqb-true}
use Rattle.std.proofs.lemmas.Bool.{cases_Bool, eqb-false}
use Rattle.std.proofs.lemmas.List.{length-map}
use Rattle.std.proofs.lemmas.List.Sums.{sum_by-cons}
use Rattle.gpu_descriptor_types.specs.PoolSize.{pool_counts}

sum_cons : (x : ℕ) (xs : List ℕ) → sum (x ∷ xs) ≡ x + sum xs
sum_cons x xs = sum_by-cons (λ (y : ℕ). y) x xs

over : (x s n : ℕ) → x * n + n * s ≡ n * (x + s)
over x s n = grind arith

sum_times : (n : ℕ) (counts : List ℕ) → sum (map (λ count. count * n) counts) ≡ n * sum counts
sum_times n [] = omega arith
sum_times n (x ∷ counts) =
    let a = sum_cons (x * n) (map (λ count. count * n) counts) in
    let b = sum_times n counts in
    let c = over x (sum counts) n in
    let d = ap (λ s. n * s) (sum_cons x counts) in
    omega arith

one_sampler : (products : List ℕ) → 0 < length products → sum products ≡ 0 → sum (slice_set products 0 1) ≡ 1
one_sampler [] some none = absurd (omega arith)
one_sampler (x ∷ products) some none = (let a = sum_cons x products in let b = sum_cons 1 products in omega arith)

-- the descriptors of a pool of so many sets
pub pool_counts_sum : (counts : List ℕ) (n : ℕ) → 0 < length counts → sum (pool_counts counts n) ≡ max 1 (n * sum counts)
pool_counts_sum counts n some =
    let products : List ℕ = map (λ count. count * n) counts in
    let all : sum products ≡ n * sum counts = sum_times n counts in
    elim (cases_Bool (sum products == 0)) [
      | inl none ↦ (
          let no : sum products ≡ 0 = eqb-true (sum products) 0 none in
          let long : 0 < length products = simp length-map some in
          let one = one_sampler products long no in
          rw none (omega arith))
      | inr more ↦ (let ne = eqb-false (sum products) 0 more in rw more (omega arith))
    ]
