-- How calls change the slots of a table.
use Rattle.std.specs.Prelude.{◌≡◌, ◌≢◌, ℕ, ◌+◌, ◌-◌, ◌<◌, ◌≤◌, ◌⊎◌, ◌==◌, ◌&&◌, nat_lt, not, Bool, true, false, List, length, slice_index_or, slice_set, vec_capacity, is_some, if◌then◌else◌, Option, Some, None, MatchOption}
use Rattle.descriptor_table.specs.Slots.{Slot, Slots, slots_in, space_in, filled, is_in, is_kept_of, is_set_of, slot_at}
use Rattle.descriptor_table.specs.Places.{count}
use Rattle.descriptor_table.specs.Lists.{layouts_in, removed_in}
use Rattle.descriptor_table.specs.Users.{HasNumberRoom, ids_in}
use Rattle.descriptor_table.specs.declared.handle.SetHandle.{SetHandle}
use Rattle.descriptor_table.specs.declared.set_table.SetTable.{SetTable}
use Rattle.descriptor_table.specs.declared.slot.Use.{Use}
use Rattle.descriptor_table.specs.declared.slot.Use.TheVariants.{Held, Kept, Going, Taken, Vacant}

-- whether a set in this use is held
abbrev pub is_held_use : Use → Bool
is_held_use Held = true
is_held_use _ = false

-- the place of the i-th handle
abbrev pub place_at : List SetHandle → ℕ → ℕ
place_at handles i = (slice_index_or handles i (record { manager = 0; place = 0; generation = 0 })).place

-- the layouts that were removed, once this one was, or once its number has another layout
abbrev pub removed_as : Bool → ℕ → (ℕ → Bool) → ℕ → Bool
removed_as is layout removed n = if n == layout then is else removed n

-- what a table has in addition to slots: the set manager's number, how many layouts have a number, which of these were removed, and the max of the kept sets of a layout
pub record Settings : Type 0 where
  pub number : ℕ
  pub layouts : ℕ
  pub removed : ℕ → Bool
  pub keep : ℕ

module _ {T : Type 0} where
  -- whether a slot can get a set
  abbrev pub is_usable : Slot T → Bool
  is_usable = is_in 0

  -- the slot in this use
  abbrev pub used_for : Use → Slot T → Slot T
  used_for u s = record s { used = u }

  -- the slot at the place became this
  abbrev pub At : ℕ → (Slot T → Slot T) → Slots T → Slots T → Type 0
  At p becomes old new = new ≡ slice_set old p (becomes (slot_at old p))

  -- the slots of a table, by place
  abbrev pub slots_of : SetTable T → Slots T
  slots_of t = slots_in t.slots

  -- how many layouts have a number, the removed ones included
  abbrev pub layouts_of : SetTable T → ℕ
  layouts_of t = layouts_in t.lists

  -- whether the layout of a number was removed
  abbrev pub removed_of : SetTable T → ℕ → Bool
  removed_of t = removed_in t.lists

  -- the id of each layout's sets, by its number
  abbrev pub ids_of : SetTable T → ℕ → ℕ
  ids_of t = ids_in t.users

  -- the settings of a table
  abbrev pub settings_of : SetTable T → Settings
  settings_of t = record { number = t.number; layouts = layouts_of t; removed = removed_of t; keep = t.keep }

  -- the settings became these, and slots and ids are as they were
  pub record OnlySettings (these : Settings) (old new : SetTable T) : Type 0 where
    pub slots : new.slots ≡ old.slots
    pub ids : ids_of new ≡ ids_of old
    pub settings : settings_of new ≡ these

  -- settings, ids and memory are as they were
  pub record Stays (old new : SetTable T) : Type 0 where
    pub settings : settings_of new ≡ settings_of old
    pub ids : ids_of new ≡ ids_of old
    pub space : space_in new.slots ≡ space_in old.slots

  -- the slots became what the relation says, and all else is as it was
  pub record Changes (becomes : Slots T → Slots T → Type 0) (old new : SetTable T) : Type 0 where
    pub slots : becomes (slots_of old) (slots_of new)
    pub stays : Stays old new

  -- the layout of a number is there
  pub record HasLayout (layout : ℕ) (t : SetTable T) : Type 0 where
    pub within : layout < layouts_of t
    pub there : removed_of t layout ≡ false

  -- there is memory for one more layout
  pub record HasListRoom (t : SetTable T) : Type 0 where
    pub few : layouts_of t < 2147483648
    pub kept : layouts_of t + 1 ≤ vec_capacity t.lists.kept
    pub users : HasNumberRoom t.users

  -- a layout has the number of one that was removed, of which no set was left
  pub record Renewed (layout : ℕ) (old new : SetTable T) : Type 0 where
    pub within : layout < layouts_of old
    pub removed : removed_of old layout ≡ true
    pub none : (p : ℕ) → is_set_of layout (slot_at (slots_of old) p) ≡ false
    pub only : OnlySettings (record (settings_of old) { removed = removed_as false layout (removed_of old) }) old new

  -- sets are left of each layout that was removed
  abbrev pub AreNoneFree : SetTable T → Type 0
  AreNoneFree t = (layout : ℕ) → layout < layouts_of t → removed_of t layout ≡ true → 0 < count (is_set_of layout) (slots_of t)

  -- there is memory for n more slots
  pub record HasPlaces (n : ℕ) (t : SetTable T) : Type 0 where
    pub few : length (slots_of t) + n < 4294967295
    pub slots : length (slots_of t) + n ≤ space_in t.slots

  -- n more sets can be put without an allocation, into slots that are there first
  abbrev pub HasRoom : ℕ → SetTable T → Type 0
  HasRoom n t = HasPlaces (n - count is_usable (slots_of t)) t

  -- a call has taken the slot, and a set is in it
  pub record HasTaken (p : ℕ) (slots : Slots T) : Type 0 where
    pub within : p < length slots
    pub taken : (slot_at slots p).used ≡ Taken
    pub full : is_some (slot_at slots p).set ≡ true

  -- the slot passed the test, and became this
  pub record Picks (test : Slot T → Bool) (becomes : Slot T → Slot T) (p : ℕ) (old new : Slots T) : Type 0 where
    pub was : test (slot_at old p) ≡ true
    pub within : p < length old
    pub slots : At p becomes old new

  -- no slot passes the test, and nothing changes
  pub record PicksNone (test : Slot T → Bool) (old new : Slots T) : Type 0 where
    pub none : (p : ℕ) → test (slot_at old p) ≡ false
    pub slots : new ≡ old

  -- a slot that passes the test left its list, or there is none
  abbrev pub PicksAny : (Slot T → Bool) → Option ℕ → Slots T → Slots T → Type 0
  PicksAny test result old new = MatchOption result (PicksNone test old new) (λ p. Picks test (used_for Taken) p old new)

  -- whether a set may be kept: it is newer than the last cleanup, its place has a generation left, and its layout was not removed
  abbrev pub stays : (ℕ → Bool) → Slot T → Bool
  stays removed s = (nat_lt s.generation 4294967295 && not s.is_aged) && not (removed s.layout)

  -- whether a set may be kept in the list of this layout, if there is one
  abbrev pub may_join : Option ℕ → Slot T → Bool
  may_join None s = true
  may_join (Some layout) s = stays (λ l. not (l == layout)) s

  -- whether a set is kept, if at most `max` of its layout are
  abbrev pub may_stay : (ℕ → Bool) → ℕ → Slots T → Slot T → Bool
  may_stay removed max slots s = stays removed s && nat_lt (count (is_kept_of s.layout) slots) max

  -- the next use of a set that is freed
  abbrev pub next_use : (ℕ → Bool) → ℕ → Slots T → ℕ → Use
  next_use removed max slots p = if may_stay removed max slots (slot_at slots p) then Kept else Going

  -- a set that was freed is kept, or its slot became this: that of a set that may be kept only if `max` sets of its layout are kept
  abbrev pub IsBack : (Slot T → Slot T) → (ℕ → Bool) → ℕ → Slots T → Slot T → Slot T → Type 0
  IsBack gone removed max new o n = ((n ≡ used_for Kept o) × (stays removed o ≡ true)) ⊎ ((n ≡ gone o) × (stays removed o ≡ true → max ≤ count (is_kept_of o.layout) new))

  -- a slot became this
  abbrev pub Becomes : (Slot T → Slot T) → Slots T → Slot T → Slot T → Type 0
  Becomes into new o n = n ≡ into o

  -- a slot is as it was, or became this
  abbrev pub MayBecome : (Slot T → Slot T) → Slots T → Slot T → Slot T → Type 0
  MayBecome into new o n = (n ≡ o) ⊎ (n ≡ into o)

  -- each slot that passes the test became what the relation says, given the new slots. All others are as they were
  pub record Turns (test : Slot T → Bool) (becomes : Slots T → Slot T → Slot T → Type 0) (old new : Slots T) : Type 0 where
    pub long : length new ≡ length old
    pub rest : (p : ℕ) → test (slot_at old p) ≡ false → slot_at new p ≡ slot_at old p
    pub here : (p : ℕ) → test (slot_at old p) ≡ true → becomes new (slot_at old p) (slot_at new p)

  -- whether a slot has a set that is held
  abbrev pub holds : Slot T → Bool
  holds s = is_held_use s.used && is_some s.set

  -- whether a set is kept
  abbrev pub is_kept : Slot T → Bool
  is_kept s = is_kept_of s.layout s

  -- the slot, whose set isn't kept once it is freed
  abbrev pub aged : Slot T → Slot T
  aged s = record s { is_aged = true }

  -- each slot has a set, or had its last generation
  abbrev pub AreAllUsed : Slots T → Type 0
  AreAllUsed slots = (p : ℕ) → is_usable (slot_at slots p) ≡ false

  -- a set of the layout is in a slot that had none, and has no handle there yet
  pub record Puts (layout : ℕ) (set : T) (p : ℕ) (old new : Slots T) : Type 0 where
    pub empty : (slot_at old p).set ≡ None
    pub within : p < length new
    pub next : (slot_at old p).generation < 4294967295
    pub here : slot_at new p ≡ filled layout set (slot_at old p)
    pub others : (q : ℕ) → q ≢ p → slot_at new q ≡ slot_at old q
    pub long : (length new ≡ length old) ⊎ (length new ≡ length old + 1)

  -- there are more slots only if each then has a set, or had its last generation
  abbrev pub Grows : Slots T → Slots T → Type 0
  Grows old new = (length new ≡ length old) ⊎ AreAllUsed new

  -- the slot in its next generation and in this use
  abbrev pub renewed : Use → Slot T → Slot T
  renewed u s = record s { generation = s.generation + 1; used = u }

  -- the set at a place has the handle, the next one of the place, and is in this use
  pub record Renews (number p : ℕ) (u : Use) (handle : SetHandle) (old new : Slots T) : Type 0 where
    pub is : handle ≡ record { manager = number; place = p; generation = (slot_at old p).generation + 1 }
    pub slots : At p (renewed u) old new

  -- a slot whose set was taken out
  abbrev pub vacated : Slot T → Slot T
  vacated s = record s { used = Vacant; set = None }

  -- what one slot that passes the test has by this view was taken out of it, or no slot passes the test
  abbrev pub GivesAny : {X : Type 0} → (Slot T → Bool) → (Slot T → Option X) → Option X → Slots T → Slots T → Type 0
  GivesAny test view result old new = MatchOption result (PicksNone test old new) (λ x. (p : ℕ) × Picks test vacated p old new × (view (slot_at old p) ≡ Some x))

  -- the slots of the handles became what the relation says, given the new slots. All others are as they were
  pub record TurnEach (handles : List SetHandle) (becomes : Slots T → Slot T → Slot T → Type 0) (old new : Slots T) : Type 0 where
    pub long : length new ≡ length old
    pub named : (i : ℕ) → i < length handles → becomes new (slot_at old (place_at handles i)) (slot_at new (place_at handles i))
    pub rest : (p : ℕ) → ((i : ℕ) → i < length handles → place_at handles i ≢ p) → slot_at new p ≡ slot_at old p
