-- What a set manager's store has (the table of its sets, and the allocator over a device), and what its calls do.
use Rattle.std.specs.Prelude.{◌≡◌, ◌≢◌, ℕ, ◌+◌, ◌-◌, ◌<◌, ◌≤◌, ◌⊎◌, ◌||◌, true, not, Bool, List, [], ◌∷◌, length, slice_index_or, if◌then◌else◌, is_some, Option, Result, Some, Ok, Err, None, IfErr, IsOk, OnOk, vec_capacity}
use Rattle.gpu_descriptor_types.specs.Ledger.{Ledger, Pool}
use Rattle.gpu_descriptor.specs.Caller.Others.{others_of}
use Rattle.gpu_descriptor_types.specs.Meaning.{Meaning}
use Rattle.gpu_descriptor_types.specs.Side.{Side, side}
use Rattle.gpu_descriptor_types.specs.declared.device.DescriptorDevice.{Ghosts}
use Rattle.gpu_descriptor.specs.Caller.Call.{layout_key}
use Rattle.gpu_descriptor.specs.Caller.CleansUp.{Sweeps, TrimsKey}
use Rattle.gpu_descriptor.specs.Caller.Frees.{Returns}
use Rattle.gpu_descriptor.specs.Caller.HandsOut.{HandsOut}
use Rattle.gpu_descriptor.specs.Caller.SetLayouts.{IsMeant}
use Rattle.gpu_descriptor.specs.Caller.Sets.{AreOfLayout, IsSetOf, items_of}
use Rattle.gpu_descriptor.specs.Caller.States.{outstanding_of}
use Rattle.gpu_descriptor.specs.Caller.Values.{Allocations}
use Rattle.gpu_descriptor.specs.Model.Agreement.{Item, count_of}
use Rattle.gpu_descriptor.specs.Model.Load.{set_descriptors}
use Rattle.gpu_descriptor.specs.declared.errors.AllocationError.{AllocationError}
use Rattle.gpu_descriptor.specs.declared.errors.AllocationError.TheVariants.{OutOfHostMemory}
use Rattle.gpu_descriptor.specs.declared.layout.SetLayout.{SetLayout}
use Rattle.gpu_descriptor.specs.declared.compact.CompactDescriptorSet.{CompactDescriptorSet}
use Rattle.gpu_descriptor.specs.declared.set.DescriptorSet.{DescriptorSet}
use Rattle.descriptor_table.specs.Slots.{filled, is_kept_of, slot_at, waits}
use Rattle.descriptor_table.specs.Places.{count}
use Rattle.descriptor_table.specs.Tables.{Becomes, Grows, HasLayout, HasRoom, IsBack, Settings, Turns, aged, holds, is_kept, is_usable, place_at, removed_of, removed_as, settings_of, renewed, slots_of, vacated}
use Rattle.descriptor_table.specs.declared.handle.SetHandle.{SetHandle}
use Rattle.descriptor_table.specs.Slots.{Slot, Slots}
use Rattle.descriptor_table.specs.declared.slot.Use.{Use}
use Rattle.descriptor_manager.specs.WholeSets.{whole_sets}
use Rattle.descriptor_manager.specs.declared.store.Store.{Store}

-- whether a slot has no set, or a set that is held, that waits for a frame, or that is kept
abbrev pub is_placed : {T : Type 0} → Slot T → Bool
is_placed s = not (is_some s.set) || (holds s || (waits s || is_kept s))

-- all kept sets left their slots, and no set that is left is kept once it is freed
abbrev pub AreCleaned : {T : Type 0} → Slots T → Slots T → Type 0
AreCleaned {T} = Turns (λ s. true) (Becomes (λ (s : Slot T). if is_kept s then vacated (aged s) else aged s))

-- a kept set of the layout, or one of it that came into a vacant slot, is in this use, under the next handle of the slot
abbrev pub ComesInto : {T : Type 0} → ℕ → Use → Slot T → Slot T → Type 0
ComesInto {T} layout u o n = ((is_kept_of layout o ≡ true) × (n ≡ renewed u o)) ⊎ ((o.set ≡ None) × (x : T) × (n ≡ renewed u (filled layout x o)))

-- sets that were kept or are new are in this use under the handles, and all else is as it was
pub record HoldEach {T : Type 0} (number layout : ℕ) (u : Use) (handles : List SetHandle) (old new : Slots T) : Type 0 where
  -- no two have one place
  pub apart : (i j : ℕ) → i < j → j < length handles → place_at handles i ≢ place_at handles j
  -- each is the next handle of its slot
  pub is : (i : ℕ) (e : SetHandle) → i < length handles → slice_index_or handles i e ≡ record { manager = number; place = place_at handles i; generation = (slot_at old (place_at handles i)).generation + 1 }
  pub comes : (i : ℕ) → i < length handles → ComesInto layout u (slot_at old (place_at handles i)) (slot_at new (place_at handles i))
  pub rest : (p : ℕ) → ((i : ℕ) → i < length handles → place_at handles i ≢ p) → slot_at new p ≡ slot_at old p

-- the handle of a request for one set, if it was met
abbrev pub handles_in : {E : Type 0} → Result SetHandle E → List SetHandle
handles_in (Ok handle) = handle ∷ []
handles_in (Err error) = []

-- no set is new
abbrev pub NoneComes : {S : Type 0} → ℕ → CompactDescriptorSet S → Type 0
NoneComes layout x = ⊥

-- one free_from returned sets to their pools, if there were any
pub record GaveBack {L P S : Type 0} (means : Meaning L P S) (old new : Side (Allocations P)) : Type 0 where
  pub sets : List (DescriptorSet S)
  pub returns : Returns means sets old new

module _ {S : Type 0} where
  -- each set was in its slot before, under its layout, or passes the test
  abbrev pub SetsCome : (ℕ → CompactDescriptorSet S → Type 0) → Slots (CompactDescriptorSet S) → Slots (CompactDescriptorSet S) → Type 0
  SetsCome comes old new = (p : ℕ) (x : CompactDescriptorSet S) → (slot_at new p).set ≡ Some x → (((slot_at old p).set ≡ Some x) × ((slot_at new p).layout ≡ (slot_at old p).layout)) ⊎ comes (slot_at new p).layout x

module _ {L P S : Type 0} (means : Meaning L P S) (known : L) (layout : ℕ) where
  -- each new set is of this layout
  abbrev pub ComesOf : ℕ → CompactDescriptorSet S → Type 0
  ComesOf other x = (other ≡ layout) × IsSetOf means known x

  -- each set under the number is of this layout
  abbrev pub AreAllOf : Slots (CompactDescriptorSet S) → Type 0
  AreAllOf slots = (p : ℕ) (x : CompactDescriptorSet S) → (slot_at slots p).set ≡ Some x → (slot_at slots p).layout ≡ layout → IsSetOf means known x

-- a store over a device
abbrev pub StoreOver : {L P S D : Type 0} → Ghosts D L P S → Type 0
StoreOver {L} {P} {S} {D} d = Store L P S D d

module _ {L P S D : Type 0} {d : Ghosts D L P S} where
  -- the slots of the store's table
  abbrev pub slots_in : StoreOver d → Slots (CompactDescriptorSet S)
  slots_in s = slots_of s.table

  -- the allocator, and the ledger of the device
  abbrev pub side_of : StoreOver d → Side (Allocations P)
  side_of s = side s.allocator (d.ledger s.device)

  -- whether the layout of each number was removed
  abbrev pub removed_in : StoreOver d → ℕ → Bool
  removed_in s = removed_of s.table

  -- the live pools of the device that aren't the allocator's
  abbrev pub pools_besides : StoreOver d → ℕ → Option Pool
  pools_besides s = others_of d.meaning.pool_name s.allocator (d.ledger s.device)

  -- how many sets of the layout are kept
  abbrev pub kept_of : ℕ → StoreOver d → ℕ
  kept_of layout s = count (is_kept_of layout) (slots_in s)

  -- no set is on its way into the table, and each set is held, waits for a frame, or is kept
  pub record IsAtRest (s : StoreOver d) : Type 0 where
    pub none_coming : s.coming.items ≡ []
    pub placed : (p : ℕ) → is_placed (slot_at (slots_in s) p) ≡ true

  -- the table has these settings. Limit, bound, and the pools that aren't the allocator's are as they were
  pub record StoreStays (these : Settings) (old new : StoreOver d) : Type 0 where
    pub settings : settings_of new.table ≡ these
    pub limit : new.allocator.limit ≡ old.allocator.limit
    pub bound : new.allocator.bound ≡ old.allocator.bound
    pub besides : pools_besides new ≡ pools_besides old

  -- all of these are as they were
  abbrev pub KeepsStore : StoreOver d → StoreOver d → Type 0
  KeepsStore old new = StoreStays (settings_of old.table) old new

  -- the slots, the allocator and the ledger are as they were, and so are the sets on their way into the table
  pub record KeepsContents (old new : StoreOver d) : Type 0 where
    pub slots : slots_in new ≡ slots_in old
    pub side : side_of new ≡ side_of old
    pub coming : new.coming ≡ old.coming

  -- there is memory for at most 1024 new sets, or for as many as before
  abbrev pub KeepsMemory : StoreOver d → StoreOver d → Type 0
  KeepsMemory old new = (vec_capacity new.coming ≤ 1024) ⊎ (new.coming ≡ old.coming)

  -- each set was in its slot before, under its layout, or passes the test; none is on its way into the table
  pub record SettlesTo (these : Settings) (comes : ℕ → CompactDescriptorSet S → Type 0) (old new : StoreOver d) : Type 0 where
    pub sets : SetsCome comes (slots_in old) (slots_in new)
    pub rest : IsAtRest new
    pub stays : StoreStays these old new

  -- the same, with the settings as they were
  abbrev pub Settles : (ℕ → CompactDescriptorSet S → Type 0) → StoreOver d → StoreOver d → Type 0
  Settles comes old new = SettlesTo (settings_of old.table) comes old new

  -- sets of the layout, which has this number, may be requested
  pub record CanTake (known : SetLayout L) (number : ℕ) (s : StoreOver d) : Type 0 where
    pub meant : IsMeant d.meaning known
    pub layout : HasLayout number s.table
    pub rest : IsAtRest s
    pub own : AreAllOf d.meaning known.layout number (slots_in s)

  -- sets returned to their pools, and then all empty pools were destroyed
  pub record Cleans (old new : StoreOver d) : Type 0 where
    pub mid : Side (Allocations P)
    pub back : GaveBack d.meaning (side_of old) mid
    pub cleans : Sweeps true d.meaning mid (side_of new)

  -- all sets returned to their pools, by one free_from, and then all pools, which are empty, were destroyed. That left the ledger, so nothing else was called
  pub record ShutsDown (old : StoreOver d) (ledger : Ledger) : Type 0 where
    pub mid : Side (Allocations P)
    pub back : GaveBack d.meaning (side_of old) mid
    pub none : outstanding_of mid.value ≡ 0
    pub end : Side (Allocations P)
    pub destroys : Sweeps true d.meaning mid end
    pub leaves : ledger ≡ end.ledger

  -- the table had no room for `many` sets, and an allocation for more slots failed. The allocator was not asked
  pub record LacksRoom (many : ℕ) (error : AllocationError) (old new : StoreOver d) : Type 0 where
    pub out_of_memory : error ≡ OutOfHostMemory
    pub room : ¬ (HasRoom many old.table)
    pub full : count is_usable (slots_in old) < many
    pub contents : KeepsContents old new

  -- the slots became what the relation says, and one free_from returned sets to their pools, if there were any
  pub record FreesSets (becomes : Slots (CompactDescriptorSet S) → Slots (CompactDescriptorSet S) → Type 0) (old new : StoreOver d) : Type 0 where
    pub turns : becomes (slots_in old) (slots_in new)
    pub back : GaveBack d.meaning (side_of old) (side_of new)

  -- a set that is freed is kept, or left its slot
  abbrev pub IsFreed : StoreOver d → Slots (CompactDescriptorSet S) → Slot (CompactDescriptorSet S) → Slot (CompactDescriptorSet S) → Type 0
  IsFreed s = IsBack vacated (removed_in s) s.table.keep

  -- sets are held without a call of the device: each was in its slot before, or passes the test
  pub record Holds (comes : ℕ → CompactDescriptorSet S → Type 0) (old new : StoreOver d) : Type 0 where
    pub side : side_of new ≡ side_of old
    pub sets : SetsCome comes (slots_in old) (slots_in new)
    pub grows : Grows (slots_in old) (slots_in new)
    pub stays : KeepsStore old new

  -- requests for sets of a layout, and its removal
  module _ (known : L) where
    -- `many` sets of the layout alone have more descriptors than the limit allows
    abbrev pub ExceedsLimitAlone : ℕ → StoreOver d → Type 0
    ExceedsLimitAlone many s = s.allocator.limit < set_descriptors (layout_key d.meaning known) many

    -- the allocator refused `many` sets, for which the table had room. All slots are as they were
    pub record IsRefused (many : ℕ) (error : AllocationError) (old new : StoreOver d) : Type 0 where
      pub slots : slots_in new ≡ slots_in old
      pub room : HasRoom many new.table
      pub hands_out : HandsOut d.meaning (layout_key d.meaning known) many (Err error) (side_of old) (side_of new)

    -- a request for `many` sets failed: the allocator refused them, or the table had no room
    abbrev pub IsUnmet : ℕ → AllocationError → StoreOver d → StoreOver d → Type 0
    IsUnmet many error old new = IsRefused many error old new ⊎ LacksRoom many error old new

    -- the allocator gave `many` sets of the layout, which are on their way into the table
    pub record Asks (many : ℕ) (old new : StoreOver d) : Type 0 where
      pub slots : slots_in new ≡ slots_in old
      pub own : AreOfLayout d.meaning known new.coming.items
      pub hands_out : HandsOut d.meaning (layout_key d.meaning known) many (Ok new.coming.items) (side_of old) (side_of new)

    -- one request for the first number of sets, and one for the last
    module _ (first last : ℕ) where
      -- the allocator refused the first of two requests while some sets were kept. Then all kept sets returned to their pools, and all empty pools were destroyed
      pub record IsCleared (old new : StoreOver d) : Type 0 where
        pub some : 0 < count is_kept (slots_in old)
        -- the limit allows the sets of the second request
        pub fits : ¬ (ExceedsLimitAlone last old)
        pub refused : StoreOver d
        pub error : AllocationError
        pub first_refused : IsRefused first error old refused
        pub cleaned : AreCleaned (slots_in refused) (slots_in new)
        pub cleans : Cleans refused new

      -- the request for the first number of sets failed, or, after a cleanup, the one for the last
      pub record IsRefusedAtLast (error : AllocationError) (old new : StoreOver d) : Type 0 where
        -- no set is kept, unless the second request alone exceeds the limit, or the table had no room for the first
        pub none : (count is_kept (slots_in new) ≡ 0) ⊎ ExceedsLimitAlone last old ⊎ LacksRoom first error old new
        pub why : IsUnmet first error old new ⊎ ((mid : StoreOver d) × IsCleared old mid × IsUnmet last error mid new)

      -- the allocator gave the first number of sets at once, or the last after all kept sets returned to their pools
      abbrev pub AsksAtLast : StoreOver d → StoreOver d → Type 0
      AsksAtLast old new = Asks first old new ⊎ ((mid : StoreOver d) × IsCleared old mid × Asks last mid new)

    -- one free_from returned the kept sets of the layout to their pools, if there were any, and all other slots are as they were. Then the empty pools of its key were destroyed
    pub record Removes (layout : ℕ) (old new : StoreOver d) : Type 0 where
      pub turns : Turns (is_kept_of layout) (Becomes vacated) (slots_in old) (slots_in new)
      -- so a set that is left under the number isn't kept once it is freed
      pub removed : removed_in new ≡ removed_as true layout (removed_in old)
      pub mid : Side (Allocations P)
      pub back : GaveBack d.meaning (side_of old) mid
      -- the sets that were there are the returned ones and those that are left
      pub gave : (t : Item) → count_of t (items_of d.meaning.set_name (whole_sets old.table)) ≡ count_of t (items_of d.meaning.set_name back.sets) + count_of t (items_of d.meaning.set_name (whole_sets new.table))
      pub trims : TrimsKey d.meaning (layout_key d.meaning known) mid (side_of new)

    module _ (layout many : ℕ) (u : Use) (handles : List SetHandle) where
      -- `many` sets of the layout are in this use under the handles: kept ones first, and then new ones from the allocator
      pub record Takes (old new : StoreOver d) : Type 0 where
        -- the store once the new sets are on their way into the table
        pub ready : StoreOver d
        pub enough : many ≤ kept_of layout old → ready ≡ old
        pub asks : kept_of layout old < many → AsksAtLast (many - kept_of layout old) many old ready
        pub kept_first : (i : ℕ) → i < length handles → i < kept_of layout ready → is_kept_of layout (slot_at (slots_in ready) (place_at handles i)) ≡ true
        pub holds : HoldEach old.table.number layout u handles (slots_in ready) (slots_in new)
        pub side : side_of new ≡ side_of ready
        -- the sets that were on their way are in the table
        pub gained : (t : Item) → count_of t (items_of d.meaning.set_name (whole_sets new.table)) ≡ count_of t (items_of d.meaning.set_name (whole_sets ready.table)) + count_of t (items_of d.meaning.set_name ready.coming.items)

      -- a request for `many` sets of the layout in this use: the handles name them, or it is refused
      pub record Requests {R : Type 0} (result : Result R AllocationError) (old new : StoreOver d) : Type 0 where
        pub takes : OnOk result (Takes old new)
        -- if as many are kept the device isn't called
        pub kept : many ≤ kept_of layout old → IsOk result × (side_of new ≡ side_of old) × (length (slots_in new) ≡ length (slots_in old))
        pub refused : IfErr result (λ error. IsRefusedAtLast (many - kept_of layout old) many error old new)
        pub settles : Settles (ComesOf d.meaning known layout) old new
        pub grows : Grows (slots_in old) (slots_in new)
