-- How one run is freed from its key's pools.
use Rattle.std.specs.Prelude.{◌≡◌, ◌+◌, ◌==◌, ℕ, if◌then◌else◌, List, length, Option, ◌≤◌, map, Some}
use Rattle.gpu_descriptor_types.specs.Ledger.{Ledger, Pool, after_release, live_sets}
use Rattle.gpu_descriptor.specs.declared.set.DescriptorSet.{DescriptorSet}
use Rattle.gpu_descriptor.specs.Model.Agreement.{live_in}
use Rattle.gpu_descriptor.specs.Model.Release.{bucket_less}
use Rattle.gpu_descriptor_types.specs.Multiset.{LiveSet, times}
use Rattle.gpu_descriptor.specs.Model.Books.{Key, Entry, Bucket, entry_at}

-- the sets of these names are live in the key's pool with the number
pub record IsTakenAt (k : Key) (number : ℕ) (names : List ℕ) (b : Bucket) (pools : ℕ → Option Pool) : Type 0 where
  pub entry : Entry
  -- the pool of the number has this entry
  pub at : entry_at b number ≡ Some entry
  -- at least as many sets are allocated from it
  pub fits : length names ≤ entry.allocated
  -- each set is live in it, at least as often as its name is in the list
  pub live : (x : LiveSet) → times (live_sets k.counts names) x ≤ live_in pools entry.pool x

-- sets of these names are freed: the entry of their pool has as many fewer, and the ledger's pool doesn't have them
pub record Releases (k : Key) (number : ℕ) (names : List ℕ) (old : Bucket) (before : Ledger) (new : Bucket) (after : Ledger) : Type 0 where
  pub entry : Entry
  -- the pool of the number has this entry
  pub at : entry_at old number ≡ Some entry
  pub books : new ≡ bucket_less (λ pool. if entry.pool == pool then length names else 0) old
  pub ledger : after ≡ after_release entry.pool (live_sets k.counts names) before

-- the number of comparisons stays, or rises by at most `bound`
pub record Compares (bound old new : ℕ) : Type 0 where
  pub rises : old ≤ new
  pub few : new ≤ old + bound

-- the names of the raw sets
abbrev pub names_of : {S : Type 0} → (S → ℕ) → List (DescriptorSet S) → List ℕ
names_of name xs = map (λ x. name x.raw) xs
