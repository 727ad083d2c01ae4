-- What a frame manager keeps: an allocator, the retired sets with their frames, and the greatest frame so far. The sets in use are the outstanding ones less the retired.
use Rattle.std.specs.Prelude.{◌≡◌, ℕ, ◌+◌, ◌-◌, ◌≤◌, List, [], length, IfOk, OnErr, Result}
use Rattle.std.specs.VecDeque.{deque_capacity}
use Rattle.gpu_descriptor_types.specs.Ledger.{Ledger}
use Rattle.gpu_descriptor_types.specs.Meaning.{Meaning}
use Rattle.gpu_descriptor_types.specs.Side.{Side, side}
use Rattle.gpu_descriptor.specs.Caller.Call.{layout_key}
use Rattle.gpu_descriptor.specs.Caller.HandsOut.{HandsOut}
use Rattle.gpu_descriptor.specs.Caller.Keeps.{Keeps}
use Rattle.gpu_descriptor.specs.Model.Agreement.{AreOutstanding, Item, State, count_of, outstanding}
use Rattle.gpu_descriptor.specs.Caller.Sets.{AreOfLayout, items_of}
use Rattle.gpu_descriptor.specs.Caller.States.{Agrees, state_of}
use Rattle.gpu_descriptor.specs.Caller.Values.{Allocations, without_keys}
use Rattle.gpu_descriptor.specs.declared.errors.AllocationError.{AllocationError}
use Rattle.gpu_descriptor.specs.declared.set.DescriptorSet.{DescriptorSet}
use Rattle.descriptor_frames.specs.Retired.{due, retired_sets}
use Rattle.descriptor_frames.specs.declared.manager.FrameManager.{FrameManager}
use Rattle.descriptor_frames.specs.declared.retired.Retired.{Retired}

module _ {P S : Type 0} where
  -- the value of the manager's allocator
  abbrev pub allocator_of : FrameManager P S → Allocations P
  allocator_of m = m.allocator

  -- the allocator, and the ledger
  abbrev pub allocator_side : Side (FrameManager P S) → Side (Allocations P)
  allocator_side m = side (allocator_of m.value) m.ledger

  -- the retired sets with their frames, in the order in which they are freed
  abbrev pub retired_of : FrameManager P S → List (Retired S)
  retired_of m = m.retired.items

  -- the greatest frame at which a set was ever retired
  abbrev pub greatest_of : FrameManager P S → ℕ
  greatest_of m = m.greatest

  -- for how many more retired sets memory is reserved
  abbrev pub reserve_of : FrameManager P S → ℕ
  reserve_of m = deque_capacity m.retired - length (retired_of m)

  -- the sets that were retired at the frame or before
  abbrev pub due_sets : ℕ → FrameManager P S → List (DescriptorSet S)
  due_sets frame m = retired_sets (due frame (retired_of m))

  -- the retired sets, as the books see them
  abbrev pub retired_items : (S → ℕ) → FrameManager P S → List Item
  retired_items set_name m = items_of set_name (retired_sets (retired_of m))

  module _ (pool_name : P → ℕ) where
    -- the books of the manager's allocator, and the ledger
    abbrev pub state_in : FrameManager P S → Ledger → State
    state_in m l = state_of pool_name (allocator_of m) l

    module _ (set_name : S → ℕ) where
      -- the retired sets together are outstanding. A record of one field, as AreInUse is, so that the search takes it as one fact
      pub record AreRetiredOut (m : FrameManager P S) (l : Ledger) : Type 0 where
        pub out : AreOutstanding (retired_items set_name m) (state_in m l)

      -- how often a set is in use: outstanding, and not retired
      abbrev pub in_use : FrameManager P S → Ledger → Item → ℕ
      in_use m l t = outstanding (state_in m l) t - count_of t (retired_items set_name m)

      -- the sets of the list, each as often as it is there, are in use
      pub record AreInUse (items : List Item) (m : FrameManager P S) (l : Ledger) : Type 0 where
        pub used : (t : Item) → count_of t items ≤ in_use m l t

      module _ (old new : FrameManager P S) (before after : Ledger) where
        -- the same sets are in use
        abbrev pub KeepsInUse : Type 0
        KeepsInUse = (t : Item) → in_use new after t ≡ in_use old before t

        -- exactly these sets entered use
        abbrev pub BringsIntoUse : List Item → Type 0
        BringsIntoUse items = (t : Item) → in_use new after t ≡ in_use old before t + count_of t items

        -- exactly these sets are in use no longer
        abbrev pub LeavesUse : List Item → Type 0
        LeavesUse items = (t : Item) → in_use new after t + count_of t items ≡ in_use old before t

      -- these sets were retired: they are in use no longer, and all retired sets are outstanding
      pub record Retires (items : List Item) (old new : FrameManager P S) (l : Ledger) : Type 0 where
        pub retired : AreRetiredOut new l
        pub used : LeavesUse old new l l items

  -- a manager without sets, whose allocator has this limit and these ids. It may be used with any device
  pub record IsNewManager (max : ℕ) (ids : ℕ × ℕ) (m : FrameManager P S) : Type 0 where
    pub allocator : allocator_of m ≡ without_keys max ids
    pub list : retired_of m ≡ []
    pub greatest : greatest_of m ≡ 0
    pub agree : (pool_name : P → ℕ) (l : Ledger) → Agrees pool_name (allocator_of m) l
    pub retired : (pool_name : P → ℕ) (set_name : S → ℕ) (l : Ledger) → AreRetiredOut pool_name set_name m l

module _ {L P S : Type 0} (means : Meaning L P S) where
  -- a call of the allocator. The list, its reserve and the greatest frame stay, and retired sets that were outstanding still are
  pub record KeepsRetired (old new : Side (FrameManager P S)) : Type 0 where
    pub allocator : Keeps means (allocator_side old) (allocator_side new)
    pub list : retired_of new.value ≡ retired_of old.value
    pub reserve : reserve_of new.value ≡ reserve_of old.value
    pub greatest : greatest_of new.value ≡ greatest_of old.value
    pub outstanding : AreRetiredOut means.pool_name means.set_name old.value old.ledger → AreRetiredOut means.pool_name means.set_name new.value new.ledger

  -- a request for count sets of a layout. If the retired sets were outstanding, only the new sets enter use
  pub record HandsOutForUse (layout : L) (count : ℕ) (answer : Result (List (DescriptorSet S)) AllocationError) (old new : Side (FrameManager P S)) : Type 0 where
    pub hands_out : HandsOut means (layout_key means layout) count answer (allocator_side old) (allocator_side new)
    pub own : IfOk answer (AreOfLayout means layout)
    pub keeps : KeepsRetired old new
    pub in_use : AreRetiredOut means.pool_name means.set_name old.value old.ledger → IfOk answer (λ sets. BringsIntoUse means.pool_name means.set_name old.value new.value old.ledger new.ledger (items_of means.set_name sets))
    pub in_use_stay : OnErr answer (KeepsInUse means.pool_name means.set_name old.value new.value old.ledger new.ledger)
