-- What cleaning up and trimming leave: each key, or one, loses the empty pools at its front, or all empty ones.
use Rattle.std.specs.Prelude.{◌≡◌, ℕ, Bool, true, false, if◌then◌else◌, List, [], ◌∷◌, drop, filter, length, sum_by, take, None}
use Rattle.std.specs.List.{prefix_len}
use Rattle.gpu_descriptor.specs.Model.Books.{Key, Entry, Bucket, key_eq, no_pools}
use Rattle.gpu_descriptor.specs.Model.Agreement.{State}
use Rattle.gpu_descriptor.specs.Model.Release.{are_named, has_sets, is_empty}

-- everywhere is true for a trim, which destroys all empty pools, and false for a cleanup, which destroys those at the front, even the last pool
module _ (everywhere : Bool) where
  -- which of a key's pools are destroyed
  abbrev pub gone_of : List Entry → List Entry
  gone_of pools = if everywhere then filter is_empty pools else take (prefix_len is_empty pools) pools

  -- which of them are left, in their order
  abbrev pub left_of : List Entry → List Entry
  left_of pools = if everywhere then filter has_sets pools else drop (prefix_len is_empty pools) pools

-- the bucket with these of its pools. Without pools it is that of a key that was never added
abbrev pub with_pools : Bucket → List Entry → Bucket
with_pools b [] = no_pools
with_pools b (e ∷ pools) = record b { pools = e ∷ pools }

-- each key keeps its other pools. A destroyed pool isn't in the ledger, and every other stays. A relation, so that no function searches all keys; that there is one result is the clause one_result of laws::clean_again
pub record LosesEmpty (everywhere : Bool) (old new : State) : Type 0 where
  pub books : (k : Key) → new.books k ≡ with_pools (old.books k) (left_of everywhere (old.books k).pools)
  pub gone : (k : Key) (pool : ℕ) → are_named (gone_of everywhere (old.books k).pools) pool ≡ true → new.ledger pool ≡ None
  pub kept : (pool : ℕ) → ((k : Key) → are_named (gone_of everywhere (old.books k).pools) pool ≡ false) → new.ledger pool ≡ old.ledger pool

-- how many pools of these keys are destroyed
abbrev pub pools_lost : Bool → List Key → State → ℕ
pools_lost everywhere keys s = sum_by (λ k. length (gone_of everywhere (s.books k).pools)) keys

-- the state without this key's empty pools. All else is as it was: the key keeps its id, even without pools
abbrev pub without_empty : Key → State → State
without_empty k s = record {
  books = λ l. if key_eq k l then record (s.books k) { pools = left_of true (s.books k).pools } else s.books l;
  ledger = λ pool. if are_named (gone_of true (s.books k).pools) pool then None else s.ledger pool;
}
