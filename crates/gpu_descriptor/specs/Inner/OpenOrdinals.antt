-- Which pools of a key are open, which means that they have known free places; and their ordinals.
use Rattle.gpu_descriptor.specs.Model.Books.{number_after, numbers_of}
use Rattle.std.specs.Prelude.{◌≡◌, ◌-◌, ◌≤◌, ◌<◌, ℕ, zero, suc, List, [], ◌∷◌, map, length, insert}
use Rattle.std.specs.List.Sorted.{IsPartitionPoint}
use Rattle.gpu_descriptor.specs.declared.bucket.DescriptorPool.{DescriptorPool}

-- the ordinals of the open pools, rising. The first pool has the ordinal first, and free says of each pool how many places it is known to have
abbrev pub open_ordinals : ℕ → List ℕ → List ℕ
open_ordinals first [] = []
open_ordinals first (zero ∷ free) = open_ordinals (suc first) free
open_ordinals first (suc n ∷ free) = first ∷ open_ordinals (suc first) free

-- the ordinal of the first pool, by which the last pool's ordinal is its number
abbrev pub first_ordinal : {P : Type 0} → List (DescriptorPool P) → ℕ
first_ordinal pools = number_after (numbers_of pools) - length pools

-- how many free places each pool is known to have
abbrev pub free_in : {P : Type 0} → List (DescriptorPool P) → List ℕ
free_in pools = map (λ p. p.available) pools

-- a number was inserted at its place: after those below it
pub record IsEntered (number : ℕ) (old new : List ℕ) : Type 0 where
  pub place : ℕ
  pub within : place ≤ length old
  -- the numbers before the place are below it, and none from the place on is
  pub point : IsPartitionPoint (λ x. x < number) (λ x. number ≤ x) old place
  pub is : new ≡ insert old place number
