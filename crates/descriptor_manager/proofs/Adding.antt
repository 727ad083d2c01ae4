-- A layout that comes into a slot and has a handle, and one that leaves: for `LayoutRegistry::add` and `remove`.
use Rattle.descriptor_manager.proofs.Common.{common_steps, ◌≡◌, ◌≢◌, ℕ, true, false, List, [], ◌∷◌, set, Option, None, Some, IsSome, refl, sym, ap, subst, ◌∙◌, arith, rules, length, length-set, cases_eq, LoseNames, NameEach, is_held, sets_of, Slot, slot_at, Becomes}
use Rattle.descriptor_manager.proofs.Common.{Puts, Renews, renewed, vacated, SetHandle, Use, Held, held_is, other_slots, slot_set}
use Rattle.descriptor_manager.proofs.Arriving.{same_clears}
use Rattle.descriptor_manager.proofs.Handing.{new_one}
use Rattle.descriptor_manager.proofs.Naming.{lost_names}
use Rattle.descriptor_manager.proofs.Joining.{are_named}

module _ {T : Type 0} {number p layout : ℕ} {x : T} {u : Use} {handle : SetHandle} {old mid new : List (Slot T)} (puts : Puts layout x p old mid) (renews : Renews number p u handle mid new) where
  -- its set is there
  pub added_here : (slot_at new p).set ≡ Some x
  added_here = ap (λ l. (slot_at l p).set) renews.slots ∙ ap (λ (s : Slot T). s.set) (slot_set mid p (renewed u (slot_at mid p)) puts.within) ∙ ap (λ (s : Slot T). s.set) puts.here

  pub added_others : (n : ℕ) → n ≢ p → slot_at new n ≡ slot_at old n
  added_others n ne = ap (λ l. slot_at l n) renews.slots ∙ other_slots mid p (renewed u (slot_at mid p)) n ne ∙ puts.others n ne

module _ {T : Type 0} {number p : ℕ} {x : T} {handle : SetHandle} {old mid new : List (Slot T)} (puts : Puts 0 x p old mid) (renews : Renews number p Held handle mid new) where
  -- the handle, and no other one, names something else
  pub added_names : {same : ℕ} → same ≡ number → NameEach (handle ∷ []) (sets_of number 0 false old) (sets_of same 0 false new)
  added_names e = subst (λ n. NameEach (handle ∷ []) (sets_of number 0 false old) (sets_of n 0 false new)) (sym e) (are_named number 0 Held (handle ∷ []) old old new (λ q. same_clears (slot_at old q) (slot_at old q) refl) (new_one number p Held handle 0 x old mid new puts renews) 0 false refl)

  -- what holds of each layout holds of the new ones
  pub added_meant : (P : T → Type 0) → ((n : ℕ) (y : T) → (slot_at old n).set ≡ Some y → P y) → P x → (n : ℕ) (y : T) → (slot_at new n).set ≡ Some y → P y
  added_meant P was here n y is = grind (arith, common_steps, cases_eq n p, added_here puts renews, added_others puts renews n)

-- a layout that leaves its slot
module _ {T : Type 0} (number : ℕ) (h : SetHandle) (old new : List (Slot T)) where
  pub left_names : is_held number old h ≡ true → new ≡ set old h.place (vacated (slot_at old h.place)) → LoseNames (h ∷ []) (sets_of number 0 false old) (sets_of number 0 false new)
  left_names held made = lost_names 0 false number {becomes = Becomes vacated} (grind (arith, common_steps)) (record {
    long = ap length made ∙ length-set _ _ _;
    named = λ i lt. grind (arith, common_steps);
    rest = λ p apart. ap (λ l. slot_at l p) made ∙ other_slots old h.place (vacated (slot_at old h.place)) p (λ e. apart 0 (omega arith) (sym e));
  }) (search rules)

  -- each layout that is left was there before
  pub left_only : (r : Option T) → (IsSome r → is_held number old h ≡ true) → (IsSome r → new ≡ set old h.place (vacated (slot_at old h.place))) → (r ≡ None → new ≡ old) → (n : ℕ) (y : T) → (slot_at new n).set ≡ Some y → (slot_at old n).set ≡ Some y
  left_only x0 held made none n y is = search (rules, held_is, other_slots, cases_eq, slot_set)
