-- A set that came into a slot adds its weight (`tally`) to that of the sets that there are: for `Given` of the set manager.
use Rattle.descriptor_table.proofs.Common.{cons_option, filter_map, ◌≡◌, ◌≢◌, ℕ, suc, ◌+◌, ◌<◌, List, [], ◌∷◌, length, set, cases_eq, Option, Some, None, refl, sym, ap, ◌∙◌, arith, no_slot, slot_at, Slot}
use Rattle.descriptor_table.proofs.Leaving.{tally, tally_cons, tally_set, weight_of}
use Rattle.descriptor_table.proofs.Listed.{other_slots, slot_set}

module _ {T X : Type 0} (weight : X → ℕ) (view : Slot T → Option X) (none : view no_slot ≡ None) where
  -- slots whose sets weigh the same
  alike : (l m : List (Slot T)) → ((p : ℕ) → view (slot_at m p) ≡ view (slot_at l p)) → tally weight (filter_map view m) ≡ tally weight (filter_map view l)
  alike [] [] same = refl
  alike [] (y ∷ m) same = ap (λ o. tally weight (cons_option o (filter_map view m))) (same 0 ∙ none) ∙ alike [] m (λ p. same (suc p))
  alike (x ∷ l) [] same = alike l [] (λ p. same (suc p)) ∙ ap (λ o. tally weight (cons_option o (filter_map view l))) (sym none ∙ same 0)
  alike (x ∷ l) (y ∷ m) same = tally_cons weight (view y) (filter_map view m) ∙ (let a = ap (weight_of weight) (same 0) in let h = alike l m (λ p. same (suc p)) in omega arith) ∙ sym (tally_cons weight (view x) (filter_map view l))

  -- one slot got a set
  pub got : (l m : List (Slot T)) (p : ℕ) (x : X) → p < length m → view (slot_at l p) ≡ None → view (slot_at m p) ≡ Some x → ((q : ℕ) → q ≢ p → view (slot_at m q) ≡ view (slot_at l q)) → tally weight (filter_map view m) ≡ tally weight (filter_map view l) + weight x
  got l m p x within empty here others =
      let back = alike l (set m p (slot_at l p)) (λ q. grind (arith, cases_eq q p, slot_set m p (slot_at l p) within, other_slots m p (slot_at l p) q, others q)) in
      omega (arith, back, tally_set weight view m p (slot_at l p) within, ap (weight_of weight) here, ap (weight_of weight) empty)
