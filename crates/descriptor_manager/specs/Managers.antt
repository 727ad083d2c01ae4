-- What a set manager has: layouts, frames, sets by handle, and the pools of its device.
use Rattle.std.specs.Prelude.{◌≡◌, ℕ, ◌-◌, ◌<◌, ◌⊎◌, true, Bool, List, length, Option, None, Some, min, slice_index_or, ◌↔◌, Result, OnErr, IsErrOf, if◌then◌else◌, is_some}
use Rattle.gpu_descriptor_types.specs.Ledger.{Pool}
use Rattle.gpu_descriptor_types.specs.Meaning.{IsOfLayout}
use Rattle.gpu_descriptor_types.specs.Side.{Side}
use Rattle.gpu_descriptor_types.specs.declared.device.DescriptorDevice.{Ghosts}
use Rattle.gpu_descriptor.specs.Caller.Call.{layout_key}
use Rattle.gpu_descriptor.specs.Caller.Values.{Allocations}
use Rattle.gpu_descriptor.specs.Model.Books.{BucketOf, books_of}
use Rattle.gpu_descriptor.specs.declared.layout.SetLayout.{SetLayout}
use Rattle.gpu_descriptor.specs.declared.compact.CompactDescriptorSet.{CompactDescriptorSet}
use Rattle.descriptor_table.specs.Handles.{HasPlace}
use Rattle.descriptor_table.specs.Sets.{NameEach, Sets, sets_of}
use Rattle.descriptor_table.specs.declared.handle.SetHandle.{SetHandle}
use Rattle.descriptor_table.specs.Slots.{Slots, is_set_of, slot_at}
use Rattle.descriptor_table.specs.Places.{count}
use Rattle.descriptor_manager.specs.LayoutRegistries.{layout_at, layout_slots, layouts_by}
use Rattle.descriptor_manager.specs.Stores as stores
use Rattle.descriptor_manager.specs.declared.layout_registry.LayoutHandle.{LayoutHandle}
use Rattle.descriptor_manager.specs.declared.manager.SetManager.{SetManager}
use Rattle.descriptor_table.specs.Tables.{Grows, HasListRoom, is_usable}
use Rattle.descriptor_manager.specs.declared.errors.RequestError.{RequestError}
use Rattle.descriptor_manager.specs.declared.errors.RequestError.TheVariants.{NoFrame, NoLayout}

-- what a caller sees of a set manager
pub record Rendering (L P S : Type 0) : Type 0 where
  pub number : ℕ
  -- the layouts by handle, and which handles were given for layouts
  pub layouts : LayoutHandle → Option (SetLayout L)
  pub given : LayoutHandle → Bool
  pub frame : ℕ
  pub is_open : Bool
  -- the slots of its sets, each with its layout and what it is in use for
  pub slots : Slots (CompactDescriptorSet S)
  -- whether a layout has the number. Else no set that is left under it is kept once it is freed
  pub has_layout : ℕ → Bool
  -- the max of the kept sets of a layout
  pub keep : ℕ
  -- the allocator, and the ledger of the device
  pub side : Side (Allocations P)
  pub pools_besides : ℕ → Option Pool
  pub limit : ℕ
  -- the bound on the descriptors of a new pool, which only the sets still needed exceed
  pub bound : Option ℕ

-- sets are left of each layout whose number may be used again, or a number gave its last handle
abbrev pub NoneFree : {X T : Type 0} → Slots X → Slots T → Type 0
NoneFree layouts slots = ((n : ℕ) → is_usable (slot_at layouts n) ≡ true → 0 < count (is_set_of n) slots) ⊎ ((n : ℕ) × ((slot_at layouts n).set ≡ None) × ((slot_at layouts n).generation ≡ 4294967295))

-- a set manager over a device
abbrev pub ManagerOver : {L P S D : Type 0} → Ghosts D L P S → Type 0
ManagerOver {L} {P} {S} {D} d = SetManager L P S D d

module _ {L P S D : Type 0} {d : Ghosts D L P S} where
  -- the sets, the allocator and the device
  abbrev pub store_of : ManagerOver d → stores.StoreOver d
  store_of r = r.store

  -- the slots of the layouts
  abbrev pub layouts_in : ManagerOver d → Slots (SetLayout L)
  layouts_in r = layout_slots r.layouts

  -- the layout of a handle; None if the layout was removed, or if the handle is another set manager's
  abbrev pub layout_of : ManagerOver d → LayoutHandle → Option (SetLayout L)
  layout_of r = layout_at r.layouts

  -- the frame that was opened or skipped last, 0 before the first
  abbrev pub frame_of : ManagerOver d → ℕ
  frame_of r = r.frame

  -- whether a frame is open
  abbrev pub is_open : ManagerOver d → Bool
  is_open r = r.is_open

  -- the slots of all sets
  abbrev pub slots_of : ManagerOver d → Slots (CompactDescriptorSet S)
  slots_of r = stores.slots_in r.store

  -- the sets by handle: those that are held, and those of the open frame
  abbrev pub sets_by : ManagerOver d → Sets (CompactDescriptorSet S)
  sets_by r = sets_of r.manager r.frame r.is_open (slots_of r)

  -- how many sets of a layout are kept
  abbrev pub kept_of : LayoutHandle → ManagerOver d → ℕ
  kept_of layout r = stores.kept_of layout.slot.place r.store

  -- the live pools of the device that aren't the set manager's
  abbrev pub pools_besides : ManagerOver d → ℕ → Option Pool
  pools_besides r = stores.pools_besides r.store

  -- the allocator, and the ledger of the device
  abbrev pub side_of : ManagerOver d → Side (Allocations P)
  side_of r = stores.side_of r.store

  -- the last frame, of those up to this one, that the device can be done with: the open frame is not among them
  abbrev pub done_of : ℕ → ManagerOver d → ℕ
  done_of frame r = if r.is_open then min frame (r.frame - 1) else frame

  -- all that callers see of a set manager. A clause says with it that all this stays, except the fields that the call may change: a clause for each field was 72 clauses more
  abbrev pub seen : ManagerOver d → Rendering L P S
  seen r = record {
    number = r.manager;
    layouts = layout_of r;
    given = λ h. (layouts_by r.layouts).given h.slot;
    frame = frame_of r;
    is_open = is_open r;
    slots = slots_of r;
    has_layout = λ n. is_some (slot_at (layouts_in r) n).set;
    keep = r.store.table.keep;
    side = side_of r;
    pools_besides = pools_besides r;
    limit = r.store.allocator.limit;
    bound = r.store.allocator.bound;
  }

  -- all that is seen stays, except the slots of sets, and their pools
  abbrev pub OnlySetsChange : ManagerOver d → ManagerOver d → Type 0
  OnlySetsChange old new = seen new ≡ record (seen old) { slots = slots_of new; side = side_of new }

  -- sets of the layout have the handles, none of which was ever given; each other handle has the set that it had
  pub record ComeEach (layout : L) (handles : List SetHandle) (old new : ManagerOver d) : Type 0 where
    pub names : NameEach handles (sets_by old) (sets_by new)
    pub own : (i : ℕ) (e : SetHandle) (x : CompactDescriptorSet S) → i < length handles → (sets_by new).set (slice_index_or handles i e) ≡ Some x → IsOfLayout d.meaning layout x.raw

  -- only slots and pools change. On an error each handle has the set that it had, and there are more slots only if each has a set, or had its last generation
  pub record OnlySetsCome {R : Type 0} (result : Result R RequestError) (old new : ManagerOver d) : Type 0 where
    pub stay : OnErr result (sets_by new ≡ sets_by old)
    pub grows : Grows (slots_of old) (slots_of new)
    pub rest : OnlySetsChange old new

  -- no frame is needed. The error is NoLayout exactly if the layout is missing, and then nothing changes
  pub record NeedsLayout {R : Type 0} (layout : LayoutHandle) (result : Result R RequestError) (old new : ManagerOver d) : Type 0 where
    pub no_frame : ¬ (IsErrOf result NoFrame)
    pub no_layout : (IsErrOf result NoLayout) ↔ (layout_of old layout ≡ None)
    pub early : IsErrOf result NoLayout → seen new ≡ seen old

  -- there is memory for one more layout, of its sets and of itself
  pub record HasLayoutRoom (r : ManagerOver d) : Type 0 where
    pub sets : HasListRoom r.store.table
    pub layouts : HasPlace r.layouts.table

  -- the pools for sets of layouts with this one's key
  abbrev pub pools_for : L → ManagerOver d → BucketOf P
  pools_for layout r = books_of (side_of r).value.table (layout_key d.meaning layout)
