-- What handles name when sets come to slots, or leave them: for `Joining` and `SetManager::remove_layout`.
-- `o` is a slot before, `n` the same slot after, and `h` a handle of its place; a handle is *apart* if it isn't the next one of the slot.
use Rattle.descriptor_manager.proofs.Common.{common_steps, ◌≡◌, ◌≢◌, ℕ, ◌+◌, ◌⊎◌, ◌==◌, ◌&&◌, ◌||◌, nat_le, nat_lt, not, Bool, true, if◌then◌else◌, Option, None, is_some, ap, arith, eq-eqb, ne_eqb, rules, and_left, and_right, cases_eq, cases_lt, le-leb, lt-leb, Slot, is_kept_of, is_live, is_kept, SetHandle, Kept, ◌<◌, false, List}
use Rattle.descriptor_manager.proofs.Common.{refl, AreHeldOnce, LoseNames, sets_of, in_list, is_due, slot_at, waits_for, Turns, vacated, MayBecome, IsBack, TurnEach, Use, ShowsSame, names_kept, names_lost, shown, AreCleaned}
use Rattle.descriptor_manager.proofs.Arriving.{Clears}

-- whether the slot has no set, or a kept one
abbrev pub is_free : {T : Type 0} → Slot T → Bool
is_free s = is_kept s || not (is_some s.set)

module _ {T : Type 0} where
  -- what is known of a kept set
  pub kept_as : (layout : ℕ) (s : Slot T) → is_kept_of layout s ≡ true → (s.used ≡ Kept) × (s.layout ≡ layout) × (is_kept s ≡ true)
  kept_as layout s e = grind (arith, common_steps)

  -- a slot is free if it has no set or a kept one
  pub free_is : (s : Slot T) → is_free s ≡ true → (s.set ≡ None) ⊎ (s.used ≡ Kept)
  free_is s e = search rules

  module _ (number : ℕ) where
    -- whether a handle is the last one of the slot
    abbrev pub last : Slot T → SetHandle → Bool
    last s h = (h.manager == number) && (h.generation == s.generation)

    -- what a handle of the slot names
    abbrev pub seen : ℕ → Bool → Slot T → SetHandle → Option T
    seen frame opened s h = if last s h && is_live frame opened s.used then s.set else None

    -- whether a handle of the slot was given
    abbrev pub was_given : Slot T → SetHandle → Bool
    was_given s h = (h.manager == number) && (nat_lt 0 h.generation && nat_le h.generation s.generation)

    -- the next handle of a slot
    abbrev pub next_of : ℕ → Slot T → SetHandle
    next_of p s = record { manager = number; place = p; generation = s.generation + 1 }

    -- no handle names a set in a free slot
    pub seen_free : (frame : ℕ) (opened : Bool) (s : Slot T) (h : SetHandle) → is_free s ≡ true → seen frame opened s h ≡ None
    seen_free frame opened s h free = grind (arith, common_steps, and_right, free_is)

    -- a cleanup changes neither what a handle names, nor whether it was given
    pub seen_clear : (frame : ℕ) (opened : Bool) (o n : Slot T) (h : SetHandle) → Clears o n → seen frame opened n h ≡ seen frame opened o h
    seen_clear frame opened o n h c = grind (arith, common_steps, seen_free)

    pub given_clear : (o n : Slot T) (h : SetHandle) → Clears o n → was_given n h ≡ was_given o h
    given_clear o n h c = ap (λ g. (h.manager == number) && (nat_lt 0 h.generation && nat_le h.generation g)) c.generation

    -- another handle of the place is of another set manager, or has another generation
    apart_as : (s : Slot T) (h : SetHandle) → h ≢ next_of h.place s → (h.manager ≢ number) ⊎ (h.generation ≢ s.generation + 1)
    apart_as s h apart = search (rules, cases_eq)

    -- it is invalid in the next generation
    pub seen_apart : (frame : ℕ) (opened : Bool) (o n : Slot T) (h : SetHandle) → n.generation ≡ o.generation + 1 → h ≢ next_of h.place o → seen frame opened n h ≡ None
    seen_apart frame opened o n h more apart = search (rules, and_left, and_right, apart_as, ne_eqb)

    -- and it was given if it was before
    pub given_apart : (o n : Slot T) (h : SetHandle) → n.generation ≡ o.generation + 1 → h ≢ next_of h.place o → was_given n h ≡ was_given o h
    given_apart o n h more apart = search (rules, and_left, apart_as, cases_lt, le-leb, lt-leb, ne_eqb)

    -- in the next generation the next handle names the set
    pub seen_next : (frame : ℕ) (opened : Bool) (p : ℕ) (o n : Slot T) → n.generation ≡ o.generation + 1 → is_live frame opened n.used ≡ true → seen frame opened n (next_of p o) ≡ n.set
    seen_next frame opened p o n more live = search (rules, eq-eqb)

-- What handles name once sets were freed, waited, or were returned to their pools: for `SetManager::frame_done`, `free`, `cleanup` and others.

-- a kept set has no live handle
kept_use : (u : Use) (k layout generation frame : ℕ) (full opened : Bool) → in_list (layout + 2) u layout generation full ≡ true → is_live frame opened u ≡ false
kept_use u k layout generation frame full opened e = grind (arith, common_steps)

-- neither has one that waits for a frame that isn't open
due_use : (u : Use) (due frame : ℕ) (full opened : Bool) → (opened ≡ true → due < frame) → (waits_for (λ w. nat_le w due) u && full) ≡ true → is_live frame opened u ≡ false
due_use u due frame full opened later e = grind (arith, common_steps)

module _ {T : Type 0} (frame : ℕ) (opened : Bool) where
  pub same_shown : (o n : Slot T) → n ≡ o → ShowsSame frame opened o n
  same_shown o n e = record { generation = ap (λ (s : Slot T). s.generation) e; set = ap (shown frame opened) e }

  -- a slot that had no live handle, and has none
  pub quiet_shown : (o n : Slot T) → n.generation ≡ o.generation → is_live frame opened o.used ≡ false → is_live frame opened n.used ≡ false → ShowsSame frame opened o n
  quiet_shown o n g was is = search rules

  -- a freed set has no live handle, whether it is kept or left
  pub back_quiet : (removed : ℕ → Bool) (max : ℕ) (new : List (Slot T)) (o n : Slot T) → IsBack vacated removed max new o n → (is_live frame opened n.used ≡ false) × (n.generation ≡ o.generation)
  back_quiet removed max new o n back = search rules

  -- each slot shows what it showed, since those that turn do
  pub turned : (test : Slot T → Bool) (becomes : List (Slot T) → Slot T → Slot T → Type 0) (old new : List (Slot T)) → Turns test becomes old new → ((o n : Slot T) → test o ≡ true → becomes new o n → ShowsSame frame opened o n) → (p : ℕ) → ShowsSame frame opened (slot_at old p) (slot_at new p)
  turned test becomes old new turns shows p = search (rules, same_shown)

  -- sets that were freed leave the names of all others
  pub back_names : (removed : ℕ → Bool) (number due max : ℕ) (old new : List (Slot T)) → (opened ≡ true → due < frame) → Turns (is_due due) (IsBack vacated removed max) old new → sets_of number frame opened new ≡ sets_of number frame opened old
  back_names removed number due max old new later turns = search (rules, back_quiet, due_use, names_kept, quiet_shown, turned)

  -- kept sets that left leave all names, and so does a cleanup, below
  pub trim_names : (number : ℕ) (old new : List (Slot T)) → Turns is_kept (MayBecome vacated) old new → sets_of number frame opened new ≡ sets_of number frame opened old
  trim_names number old new turns = names_kept number frame opened old new (search rules)

  pub cleaned_names : (number : ℕ) (old new : List (Slot T)) → AreCleaned old new → sets_of number frame opened new ≡ sets_of number frame opened old
  cleaned_names number old new cleaned = names_kept number frame opened old new (λ p. grind (arith, common_steps, cleaned.here p refl, kept_use, quiet_shown (slot_at old p) (slot_at new p)))

  -- sets that were held, and have no live handle any more
  pub lost_names :
      (number : ℕ) {handles : List SetHandle} {becomes : List (Slot T) → Slot T → Slot T → Type 0} {old new : List (Slot T)} → AreHeldOnce number old handles → TurnEach handles becomes old new
      → ((o n : Slot T) → becomes new o n → (is_live frame opened n.used ≡ false) × (n.generation ≡ o.generation)) → LoseNames handles (sets_of number frame opened old) (sets_of number frame opened new)
  lost_names number {handles} {old = old} {new} once turns quiet = names_lost number frame opened handles old new once (λ i lt. (quiet _ _ (turns.named i lt)).0) (λ i lt. (quiet _ _ (turns.named i lt)).1) turns.rest
