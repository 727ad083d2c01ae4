-- A set that comes to a use: for `hold_next`, `reuse`, `hold_last`, `LayoutRegistry::add` and `Joining`. `cleared_of`, `unmet_slots` and `refused_arrives`
-- say what a refusal leaves. `o` is its slot before and `n` after, `p` its place, `u` the use, and `handle` the next one of the slot.
use Rattle.descriptor_manager.proofs.Common.{common_steps, ◌≡◌, ◌≢◌, ℕ, ◌+◌, ◌<◌, ◌⊎◌, Some, inl, inr, cases_eq, true, List, [], ◌∷◌, length, length-set, test_within, is_some, refl, sym, ap, subst, ◌∙◌, arith, rules, Ghosts, CompactDescriptorSet, AllocationError, Slot, count, frame_of, is_kept_of, is_live, slot_at, Puts, Renews, is_usable, AreAllUsed, renewed, SetHandle, Use, lists_apart}
use Rattle.descriptor_manager.proofs.Common.{live_no_list, bit, count_set, same_count, other_slots, slot_set, kept_is, AreCleaned, ComesInto, HoldEach, IsCleared, IsRefusedAtLast, IsUnmet, slots_in, Store, Grows, named_or}
use Rattle.descriptor_manager.proofs.Arriving.{Arrives, arrives_then, clears, clears_arrives, same_arrives}
use Rattle.descriptor_manager.proofs.Naming.{is_free, kept_as, next_of}

module _ {T : Type 0} (layout : ℕ) (u : Use) (o n : Slot T) (came : ComesInto layout u o n) where
  pub came_free : is_free o ≡ true
  came_free = grind (arith, common_steps, kept_as)

  pub came_next : n.generation ≡ o.generation + 1
  came_next = search rules

  pub came_layout : n.layout ≡ layout
  came_layout = search rules

  pub came_used : n.used ≡ u
  came_used = search rules

  pub came_full : is_some n.set ≡ true
  came_full = search (rules, kept_is)

module _ {T : Type 0} (number p : ℕ) (u : Use) (handle : SetHandle) where
  one : (layout : ℕ) (old new : List (Slot T)) → handle ≡ next_of number p (slot_at old p) → ComesInto layout u (slot_at old p) (slot_at new p) → ((q : ℕ) → q ≢ p → slot_at new q ≡ slot_at old q) → HoldEach number layout u (handle ∷ []) old new
  one layout old new is came others = search (rules, next_of)

  -- a set of the layout that was put into a slot did
  pub new_one : (layout : ℕ) (x : T) (old put new : List (Slot T)) → Puts layout x p old put → Renews number p u handle put new → HoldEach number layout u (handle ∷ []) old new
  new_one layout x old put new puts renews = search (rules, next_of, one, other_slots, slot_set)

  -- all others were there
  pub put_comes : (comes : ℕ → T → Type 0) (layout : ℕ) (x : T) (old put new : List (Slot T)) → Puts layout x p old put → Renews number p u handle put new → comes layout x → (q : ℕ) (y : T) → (slot_at new q).set ≡ Some y → (((slot_at old q).set ≡ Some y) × ((slot_at new q).layout ≡ (slot_at old q).layout)) ⊎ comes (slot_at new q).layout y
  put_comes comes layout x old put new puts renews come q y is = search (rules, cases_eq, other_slots, slot_set)

  -- and there are more slots only if all have sets
  pub put_grows : (layout : ℕ) (x : T) (old put new : List (Slot T)) → is_live (frame_of u) true u ≡ true → Puts layout x p old put → Renews number p u handle put new → ((length new ≡ length old) ⊎ AreAllUsed old) → Grows old new
  put_grows layout x old put new live puts renews grows = elim grows [
    | inl same ↦ inl same
    | inr used ↦ inr (λ q. search (rules, used q, cases_eq, other_slots, slot_set, live_no_list))
  ]

  -- a kept set of the layout came to the use
  module _ (layout : ℕ) (old new : List (Slot T)) (was : is_kept_of layout (slot_at old p) ≡ true) (renews : Renews number p u handle old new) where
    pub within : p < length old
    within = test_within (is_kept_of layout) old p refl was

    pub kept_one : HoldEach number layout u (handle ∷ []) old new
    kept_one = search (rules, one, other_slots, slot_set, within)

    pub kept_long : length new ≡ length old
    kept_long = ap length renews.slots ∙ length-set old p (renewed u (slot_at old p))

    module _ (live : is_live (frame_of u) true u ≡ true) where
      -- one kept set fewer
      pub kept_fewer : count (is_kept_of layout) new + 1 ≡ count (is_kept_of layout) old
      kept_fewer = search (rules, bit, count_set, live_no_list, within)

      -- as many slots to which another set can come
      pub usable_stays : count is_usable new ≡ count is_usable old
      usable_stays = ap (count is_usable) renews.slots ∙ same_count is_usable old p (renewed u (slot_at old p)) within (live_no_list (renewed u (slot_at old p)) live 0 ∙ sym (lists_apart 0 (layout + 2) (slot_at old p) was (λ e. omega arith)))

module _ {L P S D : Type 0} {d : Ghosts D L P S} where
  -- after a refusal and a cleanup the kept sets left their slots
  pub cleared_of : (layout : L) (first last : ℕ) (old new : Store L P S D d) → IsCleared layout first last old new → AreCleaned (slots_in old) (slots_in new)
  cleared_of layout first last old new c = subst (λ l. AreCleaned l (slots_in new)) c.first_refused.slots c.cleaned

  -- the slots are as they were if sets were not had
  pub unmet_slots : (layout : L) (many : ℕ) (error : AllocationError) (old new : Store L P S D d) → IsUnmet layout many error old new → slots_in new ≡ slots_in old
  unmet_slots layout many error old new unmet = search rules

  -- a set was refused
  pub refused_arrives : (comes : ℕ → CompactDescriptorSet S → Type 0) (layout : L) (first last : ℕ) (error : AllocationError) (old new : Store L P S D d) → IsRefusedAtLast layout first last error old new → (q : ℕ) → Arrives comes (slot_at (slots_in old) q) (slot_at (slots_in new) q)
  refused_arrives comes layout first last error old new refused q = search (rules, arrives_then, cleared_of, clears, clears_arrives, same_arrives, unmet_slots)

-- There are more slots only if each has a set, or had its last generation (`Grows`): for the calls of `Store` that give handles.

module _ {T : Type 0} where
  -- one step after others
  pub grow_more : (number : ℕ) (layout : ℕ) (u : Use) (handles : List SetHandle) (old mid new : List (Slot T)) → is_live (frame_of u) true u ≡ true → Grows old mid → Grows mid new → HoldEach number layout u handles mid new → Grows old new
  grow_more number layout u handles old mid new live first last holding = search (rules, came_used, live_no_list, named_or)

module _ {L P S D : Type 0} {d : Ghosts D L P S} where
  pub cleared_long : (layout : L) (first last : ℕ) (old new : Store L P S D d) → IsCleared layout first last old new → length (slots_in new) ≡ length (slots_in old)
  cleared_long layout first last old new clear = clear.cleaned.long ∙ ap length clear.first_refused.slots
