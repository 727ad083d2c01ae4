-- One key's pools over a ledger: how they are in it, and what destroying pools leaves of both.
use Rattle.std.specs.Prelude.{Bool, not, ◌==◌, ◌≡◌, ℕ, if◌then◌else◌, List, length, slice_get, take, Option, None, Some}
use Rattle.gpu_descriptor_types.specs.Ledger.{Pool, Ledger}
use Rattle.gpu_descriptor.specs.declared.bucket.DescriptorBucket.{DescriptorBucket}
use Rattle.gpu_descriptor.specs.Model.Agreement.{IsBookedIn}
use Rattle.gpu_descriptor.specs.Model.Books.{Key, Entry, Bucket}
use Rattle.gpu_descriptor.specs.Model.Release.{are_named, front_but, without_front, more_destroyed}

-- one key's part of the agreement: its pools are in the ledger as the books say
pub record AreBookedIn (k : Key) (pools : ℕ → Option Pool) (entries : List Entry) : Type 0 where
  -- no name is at two places
  pub distinct : (i j : ℕ) (d e : Entry) → slice_get entries i ≡ Some d → slice_get entries j ≡ Some e → d.pool ≡ e.pool → i ≡ j
  pub each : (i : ℕ) (e : Entry) → slice_get entries i ≡ Some e → IsBookedIn k pools e

-- the bucket without the empty pools at the front that may be destroyed, if `keep` pools are to stay
abbrev pub bucket_but_front : ℕ → Bucket → Bucket
bucket_but_front keep b = without_front (front_but keep b) b

-- the ledger after these pools were destroyed
abbrev pub ledger_but : List Entry → Ledger → Ledger
ledger_but gone l = record { pools = λ p. if are_named gone p then None else l.pools p; counters = more_destroyed (length gone) l.counters }

-- the same after the empty pools at the front that may be destroyed, if `keep` pools are to stay
abbrev pub ledger_but_front : ℕ → Bucket → Ledger → Ledger
ledger_but_front keep b l = ledger_but (take (front_but keep b) b.pools) l

module _ {P : Type 0} where
  -- the key has pools
  abbrev pub has_pools : DescriptorBucket P → Bool
  has_pools b = not (length b.pools.items == 0)
