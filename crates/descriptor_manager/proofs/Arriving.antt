-- What a slot is like after all kept sets went (`Clears`), and what slots may become when sets come to them (`Arrives`).
use Rattle.descriptor_manager.proofs.Common.{common_steps, ◌≡◌, ℕ, ◌⊎◌, ne_eqb, Bool, true, List, None, refl, rules, ◌+◌, ◌&&◌, ◌||◌, not, [], Some, is_some, inl, sym, subst, arith, Ghosts, CompactDescriptorSet, Slot, count, slot_at, in_list, waits_for, Settings, is_kept, is_held_use, Vacant, Use, none_count, AreCleaned, IsAtRest, SettlesTo}
use Rattle.descriptor_manager.proofs.Common.{StoreStays, is_placed, slots_in, Store, false, length, inr, ap, goes, TurnEach, Turns, place_at, used_for, vacated, IsBack, SetHandle, Waits, named_or}

-- a set that was kept may be gone, and any other is there
pub record Clears {T : Type 0} (o n : Slot T) : Type 0 where
  pub generation : n.generation ≡ o.generation
  pub layout : n.layout ≡ o.layout
  pub is : ((n.used ≡ o.used) × (n.set ≡ o.set)) ⊎ ((is_kept o ≡ true) × (n.used ≡ Vacant) × (n.set ≡ None))

module _ {T : Type 0} where
  pub same_clears : (o n : Slot T) → n ≡ o → Clears o n
  same_clears o n e = search rules

  pub clears : (old new : List (Slot T)) → AreCleaned old new → (p : ℕ) → Clears (slot_at old p) (slot_at new p)
  clears old new c p = grind (arith, common_steps, c.here p refl)

  -- no set is kept then
  pub none_left : (old new : List (Slot T)) → AreCleaned old new → count is_kept new ≡ 0
  none_left old new c = search (rules, ne_eqb, none_count)

-- whether a set in such a use is placed
abbrev pub placed_in : Use → Bool → ℕ → ℕ → Bool
placed_in u full layout generation = not full || ((is_held_use u && full) || ((waits_for (λ w. true) u && full) || in_list (layout + 2) u layout generation full))

-- a slot's set was there under the same layout, or passes the test. If the slot was placed, it is
pub record Arrives {T : Type 0} (comes : ℕ → T → Type 0) (o n : Slot T) : Type 0 where
  pub set : (x : T) → n.set ≡ Some x → ((o.set ≡ Some x) × (n.layout ≡ o.layout)) ⊎ comes n.layout x
  pub placed : is_placed o ≡ true → is_placed n ≡ true

module _ {T : Type 0} where
  -- a set that is held, or waits for a frame, is placed
  pub used_placed : (s : Slot T) → is_some s.set ≡ true → (is_held_use s.used || waits_for (λ w. true) s.used) ≡ true → is_placed s ≡ true
  used_placed s full e = grind (arith, common_steps, placed_in)

  module _ (comes : ℕ → T → Type 0) where
    -- changes of a slot that `Arrives` allows: by a cleanup, one after another, and none
    pub clears_arrives : (o n : Slot T) → Clears o n → Arrives comes o n
    clears_arrives o n c = grind (arith, common_steps, placed_in)

    pub arrives_then : (o m n : Slot T) → Arrives comes o m → Arrives comes m n → Arrives comes o n
    arrives_then o m n a b = grind (arith, common_steps)

    pub same_arrives : (o n : Slot T) → n ≡ o → Arrives comes o n
    same_arrives o n e = subst (Arrives comes o) (sym e) (record { set = λ x is. inl (is, refl); placed = λ was. was })

module _ {L P S D : Type 0} {d : Ghosts D L P S} where
  -- if each slot became what `Arrives` says, the store settles
  pub arrived : {these : Settings} (comes : ℕ → CompactDescriptorSet S → Type 0) (old new : Store L P S D d) → ((p : ℕ) → Arrives comes (slot_at (slots_in old) p) (slot_at (slots_in new) p)) → new.coming.items ≡ [] → IsAtRest old → StoreStays these old new → SettlesTo these comes old new
  arrived comes old new arrives none rest stays = grind (arith, common_steps)

-- Each kind of change of a slot by which no set comes is one that `Arrives` allows: its set stays or leaves, and is at rest if it was.
-- For the calls of `Store` by which sets are freed, wait, or go.

-- a set that is held, waits or is kept doesn't go
going_use : (u : Use) (layout generation : ℕ) (full : Bool) → placed_in u full layout generation ≡ true → in_list 1 u layout generation full ≡ false
going_use u layout generation full e = grind (arith, common_steps)

module _ {T : Type 0} where
  abbrev pub ArePlaced : List (Slot T) → Type 0
  ArePlaced slots = (p : ℕ) → is_placed (slot_at slots p) ≡ true

  -- no set goes that is placed
  pub none_goes : (slots : List (Slot T)) → ArePlaced slots → (p : ℕ) → goes (slot_at slots p) ≡ false
  none_goes slots placed p = let s = slot_at slots p in going_use s.used s.layout s.generation (is_some s.set) (placed p)

  module _ {comes : ℕ → T → Type 0} where
    -- changes of a slot by which no set comes: it is vacated, a set that was freed is kept or left, and a set waits
    pub follows_vacated : (o n : Slot T) → n ≡ vacated o → Arrives comes o n
    follows_vacated o n e = grind (arith, common_steps)

    pub follows_back : (removed : ℕ → Bool) (max : ℕ) (new : List (Slot T)) (o n : Slot T) → IsBack vacated removed max new o n → Arrives comes o n
    follows_back removed max new o n x5 = grind (arith, common_steps)

    pub follows_waits : (f : ℕ) (o n : Slot T) → n ≡ used_for (Waits f) o → Arrives comes o n
    follows_waits f o n e = grind (arith, common_steps, placed_in)

    -- each slot follows, since those that turn do
    pub follow_turns : {test : Slot T → Bool} {becomes : List (Slot T) → Slot T → Slot T → Type 0} {old new : List (Slot T)} → Turns test becomes old new → ((o n : Slot T) → becomes new o n → Arrives comes o n) → (p : ℕ) → Arrives comes (slot_at old p) (slot_at new p)
    follow_turns turns each p = grind (arith, common_steps, same_arrives)

    -- the slots of handles follow, and so do all others, as they are as they were
    pub follow_each : {handles : List SetHandle} {becomes : List (Slot T) → Slot T → Slot T → Type 0} {old new : List (Slot T)} → TurnEach handles becomes old new → ((o n : Slot T) → becomes new o n → Arrives comes o n) → (p : ℕ) → Arrives comes (slot_at old p) (slot_at new p)
    follow_each {handles} {old = old} {new} turns each p = elim (named_or (length handles) (place_at handles) p) [
      | inl found ↦ subst (λ p. Arrives comes (slot_at old p) (slot_at new p)) found.2 (each _ _ (turns.named found.0 found.1))
      | inr apart ↦ same_arrives comes _ _ (turns.rest p apart)
    ]

    pub follow_any : {handles : List SetHandle} {becomes : List (Slot T) → Slot T → Slot T → Type 0} {old new : List (Slot T)} (b : Bool) → (b ≡ true → TurnEach handles becomes old new) → (b ≡ false → new ≡ old) → ((o n : Slot T) → becomes new o n → Arrives comes o n) → (p : ℕ) → Arrives comes (slot_at old p) (slot_at new p)
    follow_any false turns none each p = same_arrives comes _ _ (ap (λ l. slot_at l p) (none refl))
    follow_any true turns none each p = follow_each (turns refl) each p
