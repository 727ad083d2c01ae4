-- How a request walks over a key's pools, in terms of the books.
use Rattle.std.specs.Prelude.{if◌then◌else◌, ◌≡◌, ℕ, ◌+◌, ◌-◌, ◌<◌, ◌&&◌, ◌⊎◌, Bool, true, false, nat_lt, min, List, [], length, slice_get, slice_set, Option, None, Some}
use Rattle.gpu_descriptor_types.specs.Ledger.{Ledger, Pool, live_sets, on_pool, no_rise}
use Rattle.gpu_descriptor.specs.declared.bucket.DescriptorBucket.{DescriptorBucket}
use Rattle.gpu_descriptor.specs.declared.bucket.DescriptorPool.{DescriptorPool}
use Rattle.gpu_descriptor.specs.declared.bucket.stop.Stop.{Stop}
use Rattle.gpu_descriptor.specs.Model.Books.{Key, Entry, Bucket, numbers_of, rises}
use Rattle.gpu_descriptor.specs.Model.Agreement.{Item, count_of, live_at}
use Rattle.gpu_descriptor.specs.Model.Shares.{rest}
use Rattle.gpu_descriptor.specs.Inner.Buckets.{AreBookedIn}
use Rattle.gpu_descriptor.specs.Inner.OpenOrdinals.{free_in}
use Rattle.gpu_descriptor.specs.Model.Release.{are_named}
use Rattle.gpu_descriptor.specs.Model.Grants.{Grant, IsGrantOf, items_in, bucket_with, ledger_with, pool_with}
use Rattle.gpu_descriptor.specs.Model.Outcomes.{risen, grant_rise, stop_rise}

-- looks rise by the number of pools that were asked
abbrev pub CountsLooks : ℕ → ℕ → Ledger → Ledger → Type 0
CountsLooks old new before after = new + before.counters.asked ≡ old + after.counters.asked

-- the newest pool with known free places is in its place what it was or what it is now, and besides only the total may differ
pub record AsksNewest {P : Type 0} (old new : DescriptorBucket P) : Type 0 where
  pub place : ℕ
  pub was : DescriptorPool P
  pub is : DescriptorPool P
  pub at : slice_get old.pools.items place ≡ Some was
  pub has_free : 0 < was.available
  -- no newer pool has some
  pub newer : (i n : ℕ) → place < i → slice_get (free_in old.pools.items) i ≡ Some n → n ≡ 0
  pub pools : new.pools.items ≡ slice_set old.pools.items place is
  pub number : is.number ≡ was.number
  pub capacity : is.capacity ≡ was.capacity
  pub id : new.id ≡ old.id
  pub flag : new.may_have_empty ≡ old.may_have_empty

-- a pool was asked for the sets still needed, or for as many as it has; or skipped, if it has no places or none is needed
pub record IsAsked (k : Key) (wanted : ℕ) (names : List ℕ) (old new : Entry) (before after : Ledger) : Type 0 where
  -- whether it refused as fragmented or full, which only a pool that was asked does
  pub refused : Bool
  pub refusing : refused ≡ true → nat_lt 0 old.available && nat_lt 0 wanted ≡ true
  -- it gave the sets that it has or that are needed, if these are fewer, or none
  pub many : length names ≡ min (if refused then 0 else old.available) wanted
  pub entry : new ≡ record old { allocated = old.allocated + length names; available = (if refused then 0 else old.available) - length names }
  pub pools : after.pools ≡ on_pool old.pool (pool_with (live_sets k.counts names) refused) before.pools
  pub counters : after.counters ≡ risen (record no_rise { asked = if nat_lt 0 old.available && nat_lt 0 wanted then 1 else 0; pool_refused = if refused then 1 else 0 }) before.counters

-- no set was taken, for this reason, and the ledger's pools are as before
pub record IsRefused (why : Stop) (before after : Ledger) : Type 0 where
  pub pools : after.pools ≡ before.pools
  pub counters : after.counters ≡ risen (stop_rise why) before.counters

-- items came to a key's pools: these are in the ledger as the books say again, and exactly the items are live in addition
pub record Adds (k : Key) (items : List Item) (old new : Bucket) (before after : ℕ → Option Pool) : Type 0 where
  pub booked : AreBookedIn k after new.pools
  pub rising : rises (numbers_of new.pools) ≡ true
  pub live : (t : Item) → t.key ≡ k → t.id ≡ new.id → live_at after new t ≡ live_at before old t + count_of t items
  -- the pools that were there still are, a pool that came wasn't in the ledger, and the ledger's others stay
  pub stays : (pool : ℕ) → are_named old.pools pool ≡ true → are_named new.pools pool ≡ true
  pub comes : (pool : ℕ) → are_named new.pools pool ≡ true → (are_named old.pools pool ≡ true) ⊎ (before pool ≡ None)
  pub others : (pool : ℕ) → are_named new.pools pool ≡ false → after pool ≡ before pool

-- a request of n sets took this grant of a key's pools, and got these sets
pub record HasTaken (k : Key) (n : ℕ) (g : Grant) (items : List Item) (old new : Bucket) (before after : Ledger) : Type 0 where
  -- this grant could be taken of the bucket and the ledger before, and what is after follows from it
  pub grant : IsGrantOf n old before.pools g
  pub came : items_in k g.id g.parts ≡ items
  pub bucket : new ≡ bucket_with n g old
  pub pools : after.pools ≡ ledger_with k g before.pools
  pub counters : after.counters ≡ risen (grant_rise n g old.pools) before.counters
  pub keeps : Adds k items old new before.pools after.pools

-- all existing pools were asked, and this many sets are still needed
pub record IsWalked (k : Key) (n needed : ℕ) (items : List Item) (old new : Bucket) (before after : Ledger) : Type 0 where
  pub grant : Grant
  pub all : grant.skipped ≡ 0
  pub no_fresh : grant.fresh ≡ []
  -- the sets that the shares leave to be needed
  pub wants : needed ≡ rest grant.refused n old.pools
  pub taken : HasTaken k n grant items old new before after
