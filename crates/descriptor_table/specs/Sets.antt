-- What a caller sees of the slots: sets by handle.
use Rattle.std.specs.Prelude.{◌≡◌, ◌≢◌, ℕ, ◌<◌, ◌==◌, ◌&&◌, nat_le, nat_lt, All, Bool, true, false, List, length, slice_index_or, if◌then◌else◌, Option, None, IsSome}
use Rattle.descriptor_table.specs.Slots.{Slots, is_live, slot_at}
use Rattle.descriptor_table.specs.Tables.{holds}
use Rattle.descriptor_table.specs.declared.handle.SetHandle.{SetHandle}

-- no handle is in the list twice
abbrev pub AreOnce : List SetHandle → Type 0
AreOnce handles = (i j : ℕ) (d : SetHandle) → i < j → j < length handles → slice_index_or handles i d ≢ slice_index_or handles j d

-- the sets by handle, and which handles were given
pub record Sets (T : Type 0) : Type 0 where
  -- the set of a handle
  pub set : SetHandle → Option T
  -- whether a handle was ever given
  pub given : SetHandle → Bool

module _ {T : Type 0} where
  module _ (number : ℕ) where
    -- whether a handle is the last one that was given for its slot
    abbrev pub is_last : Slots T → SetHandle → Bool
    is_last slots h = (h.manager == number) && (h.generation == (slot_at slots h.place).generation)

    -- the set of a handle, while this frame is the open one if one is open
    abbrev pub find : ℕ → Bool → Slots T → SetHandle → Option T
    find frame opened slots h = if is_last slots h && is_live frame opened (slot_at slots h.place).used then (slot_at slots h.place).set else None

    -- whether a handle was ever given
    abbrev pub is_given : Slots T → SetHandle → Bool
    is_given slots h = (h.manager == number) && (nat_lt 0 h.generation && nat_le h.generation (slot_at slots h.place).generation)

    -- whether a handle has a held set
    abbrev pub is_held : Slots T → SetHandle → Bool
    is_held slots h = is_last slots h && holds (slot_at slots h.place)

    -- the sets by handle, while this frame is the open one if one is open
    abbrev pub sets_of : ℕ → Bool → Slots T → Sets T
    sets_of frame opened slots = record { set = find frame opened slots; given = is_given slots }

  -- the handles, none of which was ever given, have sets, and each other handle has what it had
  pub record NameEach (handles : List SetHandle) (old new : Sets T) : Type 0 where
    pub never : All (λ h. old.given h ≡ false) handles
    pub once : AreOnce handles
    pub given : All (λ h. new.given h ≡ true) handles
    pub named : All (λ h. IsSome (new.set h)) handles
    pub others : (other : SetHandle) → All (λ h. h ≢ other) handles → (new.set other ≡ old.set other) × (new.given other ≡ old.given other)

  -- the handles have no set any more, and each other handle has what it had
  pub record LoseNames (handles : List SetHandle) (old new : Sets T) : Type 0 where
    pub gone : All (λ h. new.set h ≡ None) handles
    pub others : (other : SetHandle) → All (λ h. h ≢ other) handles → new.set other ≡ old.set other
    pub given : (h : SetHandle) → new.given h ≡ old.given h

  -- each handle has a held set, and none is there twice
  pub record AreHeldOnce (number : ℕ) (slots : Slots T) (handles : List SetHandle) : Type 0 where
    pub held : All (λ h. is_held number slots h ≡ true) handles
    pub once : AreOnce handles

  -- each name can be that of the set in its slot
  abbrev pub AllFit : {N : Type 0} → (N → SetHandle) → (N → Option T → Bool) → Slots T → List N → Type 0
  AllFit handle_of fit slots names = All (λ n. fit n (slot_at slots (handle_of n).place).set ≡ true) names
