-- What a request for sets may do: its outcomes.
use Rattle.gpu_descriptor_types.specs.Bounds.{greatest_u64}
use Rattle.std.specs.Prelude.{ℕ, ◌↔◌, List, ◌≡◌, ◌+◌, ◌-◌, ◌*◌, ◌≤◌, ◌<◌, true, ◌⊎◌, [], ◌∷◌, ◌++◌, length, sum, drop, Option, Some, None, Result, Ok, Err}
use Rattle.gpu_descriptor_types.specs.declared.errors.CreatePoolError.{CreatePoolError}
use Rattle.gpu_descriptor_types.specs.declared.errors.DeviceAllocationError.{DeviceAllocationError}
use Rattle.gpu_descriptor.specs.declared.errors.AllocationError.{AllocationError}
use Rattle.gpu_descriptor.specs.declared.errors.AllocationError.TheVariants.{OutOfDeviceMemory, OutOfHostMemory, Fragmentation}
use Rattle.gpu_descriptor_types.specs.Ledger.{Counters, no_rise, create_refused, alloc_refused, pool_refusals}
use Rattle.gpu_descriptor.specs.declared.bucket.stop.Stop.{Stop}
use Rattle.gpu_descriptor.specs.declared.bucket.stop.Stop.TheVariants as stop
use Rattle.gpu_descriptor.specs.Model.Books.{Key, Entry, next_number}
use Rattle.gpu_descriptor.specs.Model.Agreement.{State, Item}
use Rattle.gpu_descriptor.specs.Model.Release.{released, pools_gone}
use Rattle.gpu_descriptor.specs.Model.Load.{allocated_in, pool_descriptors}
use Rattle.gpu_descriptor.specs.Model.Runs.{runs}
use Rattle.gpu_descriptor.specs.Model.Shares.{rest, is_asked, all_shared, asked_count, refused_count}
use Rattle.gpu_descriptor.specs.Model.FreshPools.{IsFreshPrefix, IsFreshList, room_after}
use Rattle.gpu_descriptor.specs.Model.Grants.{Grant, IsGrantOf, items_in, granted}
use Rattle.gpu_descriptor_types.specs.declared.errors.CreatePoolError.TheVariants as create_error
use Rattle.gpu_descriptor_types.specs.declared.errors.DeviceAllocationError.TheVariants as alloc_error

-- the error of the same name
abbrev pub error_of_create : CreatePoolError → AllocationError
error_of_create create_error.OutOfDeviceMemory = OutOfDeviceMemory
error_of_create create_error.OutOfHostMemory = OutOfHostMemory
error_of_create create_error.Fragmentation = Fragmentation

-- a pool that refuses as fragmented or full counts as fragmentation
abbrev pub error_of_alloc : DeviceAllocationError → AllocationError
error_of_alloc alloc_error.OutOfDeviceMemory = OutOfDeviceMemory
error_of_alloc alloc_error.OutOfHostMemory = OutOfHostMemory
error_of_alloc alloc_error.FragmentedPool = Fragmentation
error_of_alloc alloc_error.OutOfPoolMemory = Fragmentation

-- ---- counters

-- the counters n, each risen by as much as by says
abbrev pub risen : Counters → Counters → Counters
risen by n = record {
  created = n.created + by.created;
  destroyed = n.destroyed + by.destroyed;
  asked = n.asked + by.asked;
  released = n.released + by.released;
  device_memory = n.device_memory + by.device_memory;
  host_memory = n.host_memory + by.host_memory;
  fragmentation = n.fragmentation + by.fragmentation;
  pool_refused = n.pool_refused + by.pool_refused;
}

-- the rise by asking the existing pools, and by new ones
abbrev pub grant_rise : ℕ → Grant → List Entry → Counters
grant_rise n g pools = let asked = drop g.skipped pools in record no_rise {
  created = length g.fresh;
  asked = asked_count g.refused n asked + length g.fresh;
  pool_refused = refused_count g.refused asked;
}

-- the rise by freeing the sets of a request
abbrev pub rollback_rise : List Item → Key → State → Counters
rollback_rise items k t = record no_rise { released = runs items; destroyed = pools_gone (k ∷ []) items t }

-- ---- the call

-- a request for count sets of a key, and what holds before and after it
pub record Call : Type 0 where
  pub key : Key
  pub count : ℕ
  -- the limit on the descriptors of the outstanding marked sets, and on those of the pools of marked keys
  pub limit : ℕ
  -- the bound on the descriptors of a new pool, which only the sets still needed exceed
  pub bound : Option ℕ
  -- before it: the number of outstanding sets, the marked load, and the pool load
  pub out : ℕ
  pub load : ℕ
  pub pooled : ℕ
  -- books and ledger before the request and after it
  pub old : State
  pub new : State
  -- the device's counters before it and after it
  pub before : Counters
  pub after : Counters
  -- its result, with the sets as the books see them
  pub answer : Result (List Item) AllocationError

-- ---- why a request stops

-- what the request returns then
abbrev pub stop_error : Stop → AllocationError
stop_error (stop.ExistingPoolWithoutMemory error) = error_of_alloc error
stop_error stop.NoRoomUnderLimit = Fragmentation
stop_error stop.NoMemoryForPool = OutOfHostMemory
stop_error (stop.PoolNotCreated error) = error_of_create error
stop_error (stop.NewPoolRefused error) = error_of_alloc error

-- by how much it raises the counters. A new pool that refused was created and destroyed
abbrev pub stop_rise : Stop → Counters
stop_rise (stop.ExistingPoolWithoutMemory e) = alloc_refused e no_rise
stop_rise stop.NoRoomUnderLimit = no_rise
stop_rise stop.NoMemoryForPool = no_rise
stop_rise (stop.PoolNotCreated e) = create_refused e no_rise
stop_rise (stop.NewPoolRefused e) = let asked = alloc_refused e no_rise in record asked { created = 1; destroyed = 1 }

-- what a request for n sets took of these pools ends at one that was asked and returned a memory error. The newer ones were asked before it, if they had places
pub record EndsAtPool (n : ℕ) (pools : List Entry) (error : DeviceAllocationError) (g : Grant) : Type 0 where
  pub older : List Entry
  pub pool : Entry
  pub newer : List Entry
  -- the pool is one of the existing pools, with others older and newer
  pub here : pools ≡ older ++ pool ∷ newer
  -- neither it nor the older ones gave a set, and no new pool was created
  pub skipped : g.skipped ≡ length older + 1
  pub no_fresh : g.fresh ≡ []
  -- it was asked, and the error is one of memory
  pub asked : is_asked g.refused n newer pool ≡ true
  pub memory : pool_refusals error ≡ 0

-- no new pool was created: for lack of room exactly if not even a pool for one set fits
abbrev pub StopsAtNew : Stop → Key → ℕ → Type 0
StopsAtNew (stop.ExistingPoolWithoutMemory e) k room = ⊥
StopsAtNew why k room = (why ≡ stop.NoRoomUnderLimit) ↔ (room < pool_descriptors k 1)

-- what had been taken by then: of the existing pools, or of all these and a prefix of new ones
abbrev pub StopsAt : Stop → Option ℕ → Key → (room n : ℕ) → Grant → List Entry → Type 0
StopsAt (stop.ExistingPoolWithoutMemory e) bound k room n g old = EndsAtPool n old e g
StopsAt why bound k room n g old = (g.skipped ≡ 0) × IsFreshPrefix bound k room (allocated_in (all_shared g.refused n old)) (rest g.refused n old) g.fresh × StopsAtNew why k (room_after k room g.fresh)

-- ---- the outcomes

module _ (c : Call) where
  -- how many sets are needed after the existing pools
  abbrev pub needed : Grant → ℕ
  needed g = rest g.refused c.count (c.old.books c.key).pools

  -- how many sets are allocated from the key's pools then, with what they gave of this request
  abbrev pub out_then : Grant → ℕ
  out_then g = allocated_in (all_shared g.refused c.count (c.old.books c.key).pools)

  -- nothing changed
  pub record Stays : Type 0 where
    pub state : c.new ≡ c.old
    pub counters : c.after ≡ c.before

  -- the key is marked, and the marked load with the sets of the request would exceed the limit
  pub record IsAboveLimit : Type 0 where
    pub marked : c.key.marked ≡ true
    pub above : c.limit < c.count * sum c.key.counts + c.load

  -- the marked load would keep the limit, or the key is not marked
  abbrev pub IsWithinLimit : Type 0
  IsWithinLimit = c.key.marked ≡ true → c.count * sum c.key.counts + c.load ≤ c.limit

  -- pool numbers, or the number of outstanding sets, would exceed 64 bits
  abbrev pub IsPastBound : Type 0
  IsPastBound = (greatest_u64 < next_number (c.old.books c.key) + c.count) ⊎ (greatest_u64 < c.out + c.count)

  -- the tests before the walk are passed
  pub record Proceeds : Type 0 where
    pub some : 0 < c.count
    pub limit : IsWithinLimit
    pub numbers : next_number (c.old.books c.key) + c.count ≤ greatest_u64
    pub sets : c.out + c.count ≤ greatest_u64

  -- all sets were allocated
  pub record IsDone : Type 0 where
    pub grant : Grant
    pub taken : IsGrantOf c.count (c.old.books c.key) c.old.ledger grant
    pub all : grant.skipped ≡ 0
    pub fresh : IsFreshList c.bound c.key (c.limit - c.pooled) (out_then grant) (needed grant) grant.fresh
    pub answer : c.answer ≡ Ok (items_in c.key grant.id grant.parts)
    pub state : c.new ≡ granted c.key c.count grant c.old
    pub counters : c.after ≡ risen (grant_rise c.count grant (c.old.books c.key).pools) c.before

  -- a request stopped when it had taken this grant: the sets are freed
  pub record IsBack (grant : Grant) (why : Stop) : Type 0 where
    pub taken : IsGrantOf c.count (c.old.books c.key) c.old.ledger grant
    pub answer : c.answer ≡ Err (stop_error why)
    pub state : c.new ≡ released (items_in c.key grant.id grant.parts) (granted c.key c.count grant c.old)
    pub counters : c.after ≡ risen (rollback_rise (items_in c.key grant.id grant.parts) c.key (granted c.key c.count grant c.old)) (risen (stop_rise why) (risen (grant_rise c.count grant (c.old.books c.key).pools) c.before))

  -- it stopped, for this reason
  pub record IsStopped : Type 0 where
    pub why : Stop
    pub grant : Grant
    pub at : StopsAt why c.bound c.key (c.limit - c.pooled) c.count grant (c.old.books c.key).pools
    pub back : IsBack grant why

  -- the six outcomes of a request for sets: when each comes, its result, and what it leaves
  pub data Allocates : Type 0 where
    none : c.count ≡ 0 → c.answer ≡ Ok [] → Stays → Allocates
    above_limit : 0 < c.count → IsAboveLimit → c.answer ≡ Err Fragmentation → Stays → Allocates
    past_bound : 0 < c.count → IsWithinLimit → IsPastBound → c.answer ≡ Err Fragmentation → Stays → Allocates
    no_memory_at_start : Proceeds → c.answer ≡ Err OutOfHostMemory → Stays → Allocates
    done : Proceeds → IsDone → Allocates
    stopped : Proceeds → IsStopped → Allocates

-- what a request took, if it reached the walk
abbrev pub taken_by : {c : Call} → Allocates c → Option Grant
taken_by (done goes is) = Some is.grant
taken_by (stopped goes is) = Some is.grant
taken_by other = None
