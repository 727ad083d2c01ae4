-- What cleaning up and trimming leave of an allocator and of the ledger.
use Rattle.std.specs.Prelude.{◌≡◌, Bool, true, ◌==◌, not, filter, length}
use Rattle.gpu_descriptor_types.specs.Meaning.{Meaning}
use Rattle.gpu_descriptor_types.specs.Side.{Side}
use Rattle.gpu_descriptor.specs.Model.Books.{Key}
use Rattle.gpu_descriptor.specs.Model.Cleanup.{LosesEmpty, gone_of, pools_lost, without_empty}
use Rattle.gpu_descriptor.specs.Model.Promises.{KeepsOutstanding}
use Rattle.gpu_descriptor.specs.Model.Release.{more_destroyed}
use Rattle.gpu_descriptor.specs.Caller.Others.{others_of}
use Rattle.gpu_descriptor.specs.Caller.States.{keys_of, marked_load_of, outstanding_of, state_of}
use Rattle.gpu_descriptor.specs.Caller.Values.{Allocations}

-- what a trim leaves if everywhere is true, and else what a cleanup leaves
pub record Sweeps (everywhere : Bool) {L P S : Type 0} (means : Meaning L P S) (old new : Side (Allocations P)) : Type 0 where
  -- each key lost its empty pools, or for a cleanup those at its front, even the last pool
  pub cleaned : LosesEmpty everywhere (state_of means.pool_name old.value old.ledger) (state_of means.pool_name new.value new.ledger)
  -- the counter of destroyed pools rises by their number, and all other counters stay
  pub destroyed : new.ledger.counters ≡ more_destroyed (pools_lost everywhere (keys_of old.value) (state_of means.pool_name old.value old.ledger)) old.ledger.counters
  -- the keys that still have pools, in their order
  pub keys : keys_of new.value ≡ filter (λ k. not (length ((state_of means.pool_name new.value new.ledger).books k).pools == 0)) (keys_of old.value)
  -- the same sets are outstanding as before
  pub outstanding_stay : KeepsOutstanding (state_of means.pool_name old.value old.ledger) (state_of means.pool_name new.value new.ledger)
  -- their number and the marked load stay
  pub totals_stay : (outstanding_of new.value ≡ outstanding_of old.value) × (marked_load_of new.value ≡ marked_load_of old.value)
  -- if no set was outstanding, the device has only the pools of others left
  pub emptied : outstanding_of old.value ≡ 0 → new.ledger.pools ≡ others_of means.pool_name old.value old.ledger
  -- no pool is looked at, and nothing is compared
  pub counts_stay : (new.value.looks ≡ old.value.looks) × (new.value.comparisons ≡ old.value.comparisons)

-- what a trim of one key leaves
pub record TrimsKey {L P S : Type 0} (means : Meaning L P S) (k : Key) (old new : Side (Allocations P)) : Type 0 where
  -- the key lost its empty pools, and all else of books and ledger is as it was
  pub trimmed : state_of means.pool_name new.value new.ledger ≡ without_empty k (state_of means.pool_name old.value old.ledger)
  -- as many pools more are destroyed as went, and all other counters stay
  pub destroyed : new.ledger.counters ≡ more_destroyed (length (gone_of true ((state_of means.pool_name old.value old.ledger).books k).pools)) old.ledger.counters
  -- the keys stay in their order, those without pools too
  pub keys : keys_of new.value ≡ keys_of old.value
  -- the same sets are outstanding as before
  pub outstanding_stay : KeepsOutstanding (state_of means.pool_name old.value old.ledger) (state_of means.pool_name new.value new.ledger)
  -- their number and the marked load stay
  pub totals_stay : (outstanding_of new.value ≡ outstanding_of old.value) × (marked_load_of new.value ≡ marked_load_of old.value)
  -- no pool is looked at, and nothing is compared
  pub counts_stay : (new.value.looks ≡ old.value.looks) × (new.value.comparisons ≡ old.value.comparisons)
