-- The ordinals of a bucket's pools, which end where their numbers do.
use Rattle.gpu_descriptor.proofs.Common.{common_steps, ◌≡◌, ℕ, zero, suc, ◌+◌, true, Some, slice_get, List, [], ◌∷◌, ◌++◌, length, ap, arith, length-map, map-append, DescriptorPool, first_ordinal, number_after, rises, numbers_of}
use Rattle.gpu_descriptor.proofs.lists.Numbers.{few_numbers, next_push}

module _ {P : Type 0} where
  -- the ordinals end before the next number
  pub first_fits : (pools : List (DescriptorPool P)) → rises (numbers_of pools) ≡ true → first_ordinal pools + length pools ≡ number_after (numbers_of pools)
  first_fits pools rising = (let few = few_numbers (numbers_of pools) rising in let long = length-map pools (λ p. p.number) in omega arith)

  -- and stay where the numbers do
  pub first_stays : (old new : List (DescriptorPool P)) → numbers_of new ≡ numbers_of old → first_ordinal new ≡ first_ordinal old
  first_stays old new same = grind (arith, common_steps, length-map)

  -- ---- a pool that has the next number comes last

  pub stored_push : (pools : List (DescriptorPool P)) (p : DescriptorPool P) → numbers_of (pools ++ p ∷ []) ≡ numbers_of pools ++ p.number ∷ []
  stored_push pools p = map-append (λ p. p.number) pools (p ∷ [])

  pub first_push : (pools : List (DescriptorPool P)) (p : DescriptorPool P) → p.number ≡ number_after (numbers_of pools) → first_ordinal (pools ++ p ∷ []) ≡ first_ordinal pools
  first_push pools p is = grind (arith, common_steps, next_push, stored_push)

  -- ---- the last pool's number

  pub next_after : (pools : List (DescriptorPool P)) (i : ℕ) (p : DescriptorPool P) → suc i ≡ length pools → slice_get pools i ≡ Some p → number_after (numbers_of pools) ≡ p.number + 1
  next_after [] i p long at = absurd (omega arith)
  next_after (x ∷ []) zero p long at = (let same : x ≡ p = cc in ap (λ (q : DescriptorPool P). q.number + 1) same)
  next_after (x ∷ []) (suc i) p long at = absurd (omega arith)
  next_after (x ∷ y ∷ pools) zero p long at = absurd (omega arith)
  next_after (x ∷ y ∷ pools) (suc i) p long at = next_after (y ∷ pools) i p (omega arith) at
