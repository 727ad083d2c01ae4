-- Slots, and the lists that they are in.
use Rattle.std.specs.Prelude.{map, slice_set, vec_capacity, Option, Some, ◌≡◌, ℕ, ◌+◌, ◌%◌, ◌<◌, ◌≤◌, ◌==◌, ◌&&◌, nat_le, nat_lt, Bool, true, false, List, length, ⊤, slice_index_or, if◌then◌else◌, None, is_some, not}
use Rattle.std.specs.List.{filter, last_or}
use Rattle.std.specs.List.Sorted.{IsNonDecreasingBy}
use Rattle.descriptor_table.specs.Places.{count, times, users_at, walk}
use Rattle.descriptor_table.specs.declared.slot.Use.{Use}
use Rattle.descriptor_table.specs.declared.slot.Use.TheVariants.{Held, InFrame, Waits, Kept, Going, Taken, Vacant}
use Rattle.descriptor_table.specs.declared.slot.State.{State}
use Rattle.descriptor_table.specs.declared.slot.State.TheVariants as state
use Rattle.descriptor_table.specs.declared.slot_list.Entry.{Entry}
use Rattle.descriptor_table.specs.declared.slot_list.SlotList.{SlotList}
use Rattle.descriptor_table.specs.declared.slot.Chain.{Chain}
use Rattle.descriptor_table.specs.declared.slot.Queue.{Queue}

-- a place for a set
pub record Slot (T : Type 0) : Type 0 where
  -- how many handles were given for it
  pub generation : ℕ
  pub layout : ℕ
  pub used : Use
  -- whether the set was there at the last cleanup, so that it isn't kept once it is freed
  pub is_aged : Bool
  pub set : Option T

-- the use of a state, with this frame if it has one
abbrev pub use_of : ℕ → State → Use
use_of frame state.Held = Held
use_of frame state.InFrame = InFrame frame
use_of frame state.Waits = Waits frame
use_of frame state.Kept = Kept
use_of frame state.Going = Going
use_of frame state.Taken = Taken
use_of frame state.Vacant = Vacant

-- whether the handle of a set in this use is valid, while this frame is the open one if one is open
abbrev pub is_live : ℕ → Bool → Use → Bool
is_live frame opened Held = true
is_live frame opened (InFrame drawn) = opened && (drawn == frame)
is_live frame opened _ = false

-- whether a slot is in the list with this number: 0 vacant, 1 going, 2 and more kept of each layout
abbrev pub in_list : ℕ → Use → ℕ → ℕ → Bool → Bool
in_list k Kept layout generation full = (k == (layout + 2)) && (nat_lt generation 4294967295 && full)
in_list k Going layout generation full = (k == 1) && full
in_list k Vacant layout generation full = (k == 0) && (nat_lt generation 4294967295 && not full)
in_list k _ layout generation full = false

-- whether a set waits for a frame that passes the test
abbrev pub waits_for : (ℕ → Bool) → Use → Bool
waits_for test (InFrame frame) = test frame
waits_for test (Waits frame) = test frame
waits_for test _ = false

-- the frame that a set in this use waits for, or 0
abbrev pub frame_of : Use → ℕ
frame_of (InFrame frame) = frame
frame_of (Waits frame) = frame
frame_of _ = 0

-- a set in this use is in no list, and waits for no frame
abbrev pub IsNowhere : Use → Type 0
IsNowhere Held = ⊤
IsNowhere Taken = ⊤
IsNowhere _ = ⊥

-- the list of a number, empty if there is none
abbrev pub chain_at : List Chain → ℕ → Chain
chain_at chains k = slice_index_or chains k (record { first = 0; count = 0 })

-- the places of a queue
abbrev pub places_in : List ℕ → Queue → List ℕ
places_in next q = walk q.list.count next q.list.first

-- whether a list is that of a removed layout, which shows as empty
abbrev pub is_removed : Chain → Bool
is_removed c = c.count == 4294967295

abbrev pub shown : Chain → Chain
shown c = if is_removed c then record { first = 0; count = 0 } else c

-- the slots of a table
abbrev pub Slots : Type 0 → Type 0
Slots T = List (Slot T)

module _ {T : Type 0} where
  -- the slot past the end, which never had a set
  abbrev pub no_slot : Slot T
  no_slot = record { generation = 0; layout = 0; used = Taken; is_aged = true; set = None }

  -- the slot at a place, or else the slot past the end
  abbrev pub slot_at : Slots T → ℕ → Slot T
  slot_at slots place = slice_index_or slots place no_slot

  -- the frame that the set at a place waits for, or 0
  abbrev pub frame_at : Slots T → ℕ → ℕ
  frame_at slots place = frame_of (slot_at slots place).used

  -- the slot with this set, which a call has taken
  abbrev pub filled : ℕ → T → Slot T → Slot T
  filled layout set s = record s { layout = layout; used = Taken; is_aged = false; set = Some set }

  -- the last of these places whose set waits for this frame or an earlier one
  abbrev pub last_up_to : Slots T → ℕ → List ℕ → Option ℕ
  last_up_to slots frame places = last_or None (filter (λ p. nat_le (frame_at slots p) frame) places)

  -- the slot that an entry stands for. Contracts see slots, so how an entry packs one is proved in the file of SlotList alone
  abbrev pub slot_of : Entry T → Slot T
  slot_of e = record { generation = e.generation; layout = e.list % 2147483648; used = use_of e.frame e.state; is_aged = nat_le 2147483648 e.list; set = e.set }

  -- the slots of a list
  abbrev pub slots_in : SlotList T → Slots T
  slots_in l = map slot_of l.entries.items

  -- for each slot the next one of the list that it is in
  abbrev pub nexts_in : SlotList T → List ℕ
  nexts_in l = map (λ e. e.next) l.entries.items

  -- for how many slots there is memory
  abbrev pub space_in : SlotList T → ℕ
  space_in l = vec_capacity l.entries

  -- the slot at a place became this
  pub record Writes (p : ℕ) (becomes : Slot T → Slot T) (old new : SlotList T) : Type 0 where
    pub slots : slots_in new ≡ slice_set (slots_in old) p (becomes (slot_at (slots_in old) p))
    pub space : space_in new ≡ space_in old

  -- whether a slot is in the list
  abbrev pub is_in : ℕ → Slot T → Bool
  is_in k s = in_list k s.used s.layout s.generation (is_some s.set)

  -- whether a slot has a set that returns to its pool
  abbrev pub goes : Slot T → Bool
  goes = is_in 1

  -- whether a slot has a kept set of the layout
  abbrev pub is_kept_of : ℕ → Slot T → Bool
  is_kept_of layout = is_in (layout + 2)

  -- whether a slot has a set that waits for a frame
  abbrev pub waits : Slot T → Bool
  waits s = waits_for (λ frame. true) s.used && is_some s.set

  -- whether a slot has a set that waits for this frame or an earlier one
  abbrev pub is_due : ℕ → Slot T → Bool
  is_due f s = waits_for (λ frame. nat_le frame f) s.used && is_some s.set

  -- the list has the place of each slot that passes the test, once, and no other
  abbrev pub Lists : (Slot T → Bool) → Slots T → List ℕ → Type 0
  Lists test slots places = (p : ℕ) → times p places ≡ (if test (slot_at slots p) then 1 else 0)

  -- each list, by its first place and its count, has the slots that are in it
  abbrev pub AreLinked : Slots T → List ℕ → List Chain → Type 0
  AreLinked slots next chains = (k : ℕ) → Lists (is_in k) slots (walk (chain_at chains k).count next (chain_at chains k).first)

  -- the queue of the sets that wait for a frame, with this one at its end
  pub record IsQueue (slots : Slots T) (places : List ℕ) (last : ℕ) : Type 0 where
    pub has : Lists waits slots places
    -- along it no set waits for an earlier frame than the one before it
    pub rises : IsNonDecreasingBy (frame_at slots) places
    pub ends : last_or (Some last) places ≡ Some last

  -- the layout of a slot has a list. A held set is there
  pub record IsListed (layouts : ℕ) (s : Slot T) : Type 0 where
    pub there : s.layout < layouts
    pub full : s.used ≡ Held → is_some s.set ≡ true

  -- slots, lists and queue of a table agree
  pub record AreSound (l : SlotList T) (chains : List Chain) (layouts : ℕ) (waiting : Queue) (keep : ℕ) : Type 0 where
    -- fewer than the count that marks the list of a removed layout
    pub size : length (slots_in l) < 4294967295
    -- a greater number marks the set of a layout as aged
    pub numbers : layouts ≤ 2147483648
    pub linked : AreLinked (slots_in l) (nexts_in l) chains
    pub queue : IsQueue (slots_in l) (places_in (nexts_in l) waiting) waiting.last
    pub known : (p : ℕ) → p < length (slots_in l) → IsListed layouts (slot_at (slots_in l) p)
    -- at most `keep` sets of a layout are kept
    pub few : (k : ℕ) → 2 ≤ k → (chain_at chains k).count ≤ keep

  -- whether a slot has a set of the layout
  abbrev pub is_set_of : ℕ → Slot T → Bool
  is_set_of layout s = is_some s.set && (s.layout == layout)

  -- each layout's users are its sets, and the layout itself while it is there
  pub record AreCounted (slots : Slots T) (layouts : ℕ) (removed : ℕ → Bool) (users : List ℕ) : Type 0 where
    pub long : length users ≡ layouts
    pub each : (layout : ℕ) → layout < layouts → users_at users layout ≡ count (is_set_of layout) slots + (if removed layout then 0 else 1)
