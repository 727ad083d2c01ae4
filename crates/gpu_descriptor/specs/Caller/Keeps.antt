-- What every call of an allocator that takes the device keeps, over its states before and after, and the ledgers.
use Rattle.std.specs.Prelude.{◌≡◌, ◌≤◌}
use Rattle.gpu_descriptor_types.specs.Meaning.{Meaning}
use Rattle.gpu_descriptor_types.specs.Side.{Side}
use Rattle.gpu_descriptor.specs.Caller.Others.{others_of}
use Rattle.gpu_descriptor.specs.Caller.States.{Agrees, marked_load_of, pool_load_of}
use Rattle.gpu_descriptor.specs.Caller.Values.{Allocations}

-- a call that takes the device leaves books and ledger in agreement, and the limit, the bound and the pools of others
pub record Keeps {L P S : Type 0} (means : Meaning L P S) (old new : Side (Allocations P)) : Type 0 where
  -- the next call may be made
  pub agree : Agrees means.pool_name new.value new.ledger
  -- the limit stays
  pub limit : new.value.limit ≡ old.value.limit
  -- so does the bound on the descriptors of a new pool
  pub bound : new.value.bound ≡ old.value.bound
  -- and the range of ids
  pub range : new.value.ids ≡ old.value.ids
  -- the descriptors of the outstanding marked sets are within the limit
  pub load : marked_load_of new.value ≤ new.value.limit
  -- the descriptors of all pools of marked keys are within the limit
  pub pool_load : pool_load_of new.value ≤ new.value.limit
  -- the live pools of others are the same: none of these is touched, and no pool is lost
  pub others : others_of means.pool_name new.value new.ledger ≡ others_of means.pool_name old.value old.ledger
