-- What a device owes: its live pools with their live sets, and how often each thing was done. What each call requires of the ledger, and what it leaves.
use Rattle.std.specs.Prelude.{◌≡◌, ℕ, ◌+◌, ◌-◌, ◌*◌, ◌≤◌, List, ◌++◌, map, length, Bool, IsTrue, Option, Some, None, nat_eq, slice_index, sum_by, IfSome, All}
use Rattle.std.specs.Map.{update}
use Rattle.std.specs.Option.{option_map}
use Rattle.std.specs.Iterator.{Count, IsFinite, YieldsThen}
use Rattle.gpu_descriptor_types.specs.declared.errors.CreatePoolError.{CreatePoolError}
use Rattle.gpu_descriptor_types.specs.declared.errors.CreatePoolError.TheVariants.{OutOfDeviceMemory, OutOfHostMemory, Fragmentation}
use Rattle.gpu_descriptor_types.specs.declared.errors.DeviceAllocationError.{DeviceAllocationError}
use Rattle.gpu_descriptor_types.specs.declared.errors.DeviceAllocationError.TheVariants as alloc_error
use Rattle.gpu_descriptor_types.specs.Flags.{CanFree, IsUpdateAfterBind}
use Rattle.gpu_descriptor_types.specs.Meaning.{Meaning, IsOfLayout}
use Rattle.gpu_descriptor_types.specs.Multiset.{LiveSet, times, Spells, AreIn}

-- a live pool. live says how often each set is live in it, as two sets may have one name and equal counts; refusals how often it refused as fragmented or full
pub record Pool : Type 0 where
  pub counts : List ℕ
  pub capacity : ℕ
  -- their bits, so that the ledger doesn't depend on the type of flags
  pub flags : ℕ
  pub refusals : ℕ
  pub live : LiveSet → ℕ

-- how often each thing was done: calls that created or destroyed a pool, asked for sets or released some, and refusals of four kinds. No counter has a greatest value
pub record Counters : Type 0 where
  pub created : ℕ
  pub destroyed : ℕ
  pub asked : ℕ
  pub released : ℕ
  pub device_memory : ℕ
  pub host_memory : ℕ
  pub fragmentation : ℕ
  pub pool_refused : ℕ

-- eight zeros: no counter rises, or none has risen yet
abbrev pub no_rise : Counters
no_rise = record { created = 0; destroyed = 0; asked = 0; released = 0; device_memory = 0; host_memory = 0; fragmentation = 0; pool_refused = 0 }

-- the live pools by name, and the counters
pub record Ledger : Type 0 where
  pub pools : ℕ → Option Pool
  pub counters : Counters

-- ---- what each call leaves

-- the pool of this name is changed by f, if it is live
abbrev pub on_pool : ℕ → (Pool → Pool) → (ℕ → Option Pool) → ℕ → Option Pool
on_pool name f pools = update nat_eq pools name (option_map f (pools name))

-- a pool that was just created
abbrev pub fresh : List ℕ → ℕ → ℕ → Pool
fresh counts capacity flags = record { counts = counts; capacity = capacity; flags = flags; refusals = 0; live = λ _. 0 }

-- a pool of these counts, this capacity and these flags was created, under this name
abbrev pub after_create : List ℕ → ℕ → ℕ → ℕ → Ledger → Ledger
after_create counts capacity flags name l = record {
  pools = update nat_eq l.pools name (Some (fresh counts capacity flags));
  counters = record l.counters { created = l.counters.created + 1 };
}

-- the counters after a create that was refused with this error
abbrev pub create_refused : CreatePoolError → Counters → Counters
create_refused OutOfDeviceMemory n = record n { device_memory = n.device_memory + 1 }
create_refused OutOfHostMemory n = record n { host_memory = n.host_memory + 1 }
create_refused Fragmentation n = record n { fragmentation = n.fragmentation + 1 }

-- a create was refused: no pool changes
abbrev pub after_no_create : CreatePoolError → Ledger → Ledger
after_no_create e l = record { pools = l.pools; counters = create_refused e l.counters }

-- the pool of this name was destroyed
abbrev pub after_destroy : ℕ → Ledger → Ledger
after_destroy name l = record {
  pools = update nat_eq l.pools name None;
  counters = record l.counters { destroyed = l.counters.destroyed + 1 };
}

-- sets of these counts under these names
abbrev pub live_sets : List ℕ → List ℕ → List LiveSet
live_sets counts names = map (λ n. record { name = n; counts = counts }) names

-- the pool of this name was asked and gave these sets
abbrev pub after_alloc : ℕ → List LiveSet → Ledger → Ledger
after_alloc name sets l = record {
  pools = on_pool name (λ pool. record pool { live = λ x. pool.live x + times sets x }) l.pools;
  counters = record l.counters { asked = l.counters.asked + 1 };
}

-- the counters after an alloc that was refused with this error
abbrev pub alloc_refused : DeviceAllocationError → Counters → Counters
alloc_refused alloc_error.OutOfDeviceMemory n = record n { asked = n.asked + 1; device_memory = n.device_memory + 1 }
alloc_refused alloc_error.OutOfHostMemory n = record n { asked = n.asked + 1; host_memory = n.host_memory + 1 }
alloc_refused alloc_error.FragmentedPool n = record n { asked = n.asked + 1; pool_refused = n.pool_refused + 1 }
alloc_refused alloc_error.OutOfPoolMemory n = record n { asked = n.asked + 1; pool_refused = n.pool_refused + 1 }

-- what a refusal with this error adds to those of the pool
abbrev pub pool_refusals : DeviceAllocationError → ℕ
pool_refusals alloc_error.OutOfDeviceMemory = 0
pool_refusals alloc_error.OutOfHostMemory = 0
pool_refusals alloc_error.FragmentedPool = 1
pool_refusals alloc_error.OutOfPoolMemory = 1

-- the pool of this name was asked and refused, which counts among its refusals if it was fragmented or full
abbrev pub after_no_alloc : ℕ → DeviceAllocationError → Ledger → Ledger
after_no_alloc name e l = record {
  pools = on_pool name (λ pool. record pool { refusals = pool.refusals + pool_refusals e }) l.pools;
  counters = alloc_refused e l.counters;
}

-- these sets left the pool of this name, in one call
abbrev pub after_release : ℕ → List LiveSet → Ledger → Ledger
after_release name gone l = record {
  pools = on_pool name (λ pool. record pool { live = λ x. pool.live x - times gone x }) l.pools;
  counters = record l.counters { released = l.counters.released + 1 };
}

-- ---- what each call requires

-- the pool of this name is live and has no live set, so it may be destroyed
pub record HasNoSets (name : ℕ) (l : Ledger) : Type 0 where
  pub pool : Pool
  pub is_live : l.pools name ≡ Some pool
  pub empty : (x : LiveSet) → pool.live x ≡ 0

-- the pool can give n sets of a layout
pub record CanGive (name n : ℕ) (counts : List ℕ) (mark : Bool) (l : Ledger) : Type 0 where
  pub pool : Pool
  pub is_live : l.pools name ≡ Some pool
  -- for sets of a marked layout the pool has the flag
  pub marked : IsTrue mark → IsUpdateAfterBind pool.flags
  -- for every list that spells the live sets; if there is none, nothing is required. No device therefore has to prove that its sets are finitely many
  pub places : (sets : List LiveSet) → Spells sets pool.live → length sets + n ≤ pool.capacity
  -- the pool has the descriptors of each kind that these and n more sets have
  pub each_kind : (sets : List LiveSet) → Spells sets pool.live → (k : ℕ) → sum_by (λ s. slice_index s.counts k) sets + n * slice_index counts k ≤ slice_index pool.counts k

-- the iterator may be asked for the next item, up to its end, which it reaches
abbrev pub CanDrain : {I : Type 0} → (I → Type 0) → (I → Count) → I → Type 0
CanDrain can left i = can i × IsFinite (left i)

-- sets of these names are live in the pool, and may be released
pub record AreLive (name : ℕ) (names : List ℕ) (l : Ledger) : Type 0 where
  pub pool : Pool
  pub is_live : l.pools name ≡ Some pool
  pub can_free : CanFree pool.flags
  -- the sets. If one name is live with two counts, they may be chosen
  pub gone : List LiveSet
  pub named : map (λ s. s.name) gone ≡ names
  pub live : AreIn gone pool.live

-- ---- what the two calls that hand sets over say of them

-- what a sink shows of itself
pub record Sink (K S X : Type 0) : Type 0 where
  -- what it kept of the sets that were put, in order; what it would keep of a set; and how many more sets fit
  pub kept : K → List X
  pub kept_as : K → S → X
  pub room : K → ℕ

module _ {K S X : Type 0} (sink : Sink K S X) where
  -- the pool can give n sets of a layout, and the sink has room for them
  pub record CanPut (name n : ℕ) (counts : List ℕ) (mark : Bool) (sets : K) (l : Ledger) : Type 0 where
    pub gives : CanGive name n counts mark l
    pub room : n ≤ sink.room sets

  -- exactly n sets of the layout were put, and are live in the pool
  pub record Puts {L P : Type 0} (means : Meaning L P S) (layout : L) (name n : ℕ) (old new : K) (before after : Ledger) : Type 0 where
    pub sets : List S
    pub many : length sets ≡ n
    -- each was made with the layout
    pub own : All (IsOfLayout means layout) sets
    -- they are after what the sink had. It keeps further sets in the same way, and has room for as many fewer
    pub kept : sink.kept new ≡ sink.kept old ++ map (sink.kept_as old) sets
    pub alike : sink.kept_as new ≡ sink.kept_as old
    pub room : sink.room new + n ≡ sink.room old
    pub ledger : after ≡ after_alloc name (live_sets (means.counts layout) (map means.set_name sets)) before

  -- nothing was put, and the error was counted
  pub record PutsNone (name : ℕ) (e : DeviceAllocationError) (old new : K) (before after : Ledger) : Type 0 where
    pub kept : sink.kept new ≡ sink.kept old
    pub alike : sink.kept_as new ≡ sink.kept_as old
    pub room : sink.room new ≡ sink.room old
    pub ledger : after ≡ after_no_alloc name e before

-- the iterator yielded its items, up to its end, and these have left the pool
pub record Releases {I S : Type 0} (steps : I → Option S → I → Type 0) (set_name : S → ℕ) (name : ℕ) (old new : I) (before after : Ledger) : Type 0 where
  pub items : List S
  pub drained : YieldsThen steps old items None new
  pub gone : List LiveSet
  -- these live sets have the names of the items. If a name is live with two counts, the device chose
  pub named : map (λ s. s.name) gone ≡ map set_name items
  pub live : IfSome (before.pools name) (λ pool. AreIn gone pool.live)
  pub ledger : after ≡ after_release name gone before
