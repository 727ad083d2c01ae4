-- Lists of the places of slots that pass a test, when a slot changes: for the chains of slots (`Chains`) and the queue (`Waiting`).
use Rattle.descriptor_table.proofs.Common.{common_steps, ◌≡◌, ◌≢◌, ℕ, ◌<◌, ◌≤◌, Bool, true, false, if◌then◌else◌, List, ◌∷◌, length, set, ap, ◌∙◌, arith, get_or-set_other, get_or-set_same, get_or_past, cases_eq, cases_lt, times, Lists, Slot, no_slot, slot_at}
use Rattle.descriptor_table.proofs.Common.{used_for, Use}
use Rattle.descriptor_table.proofs.Counting.{times_here, times_there}

-- 1 if the test holds
abbrev pub bit : Bool → ℕ
bit b = if b then 1 else 0

module _ {T : Type 0} where
  -- the slots, with one in use for this
  abbrev pub with_use : ℕ → Use → List (Slot T) → List (Slot T)
  with_use p u slots = set slots p (used_for u (slot_at slots p))

  pub slot_set : (slots : List (Slot T)) (p : ℕ) (s : Slot T) → p < length slots → slot_at (set slots p s) p ≡ s
  slot_set slots p s within = get_or-set_same slots p s no_slot within

  pub other_slots : (slots : List (Slot T)) (p : ℕ) (s : Slot T) (q : ℕ) → q ≢ p → slot_at (set slots p s) q ≡ slot_at slots q
  other_slots slots p s q ne = get_or-set_other slots p q s no_slot ne

  -- a slot that passes a test is in the table, if the slot past the end, in which no set ever was, doesn't pass it
  pub test_within : (t : Slot T → Bool) (slots : List (Slot T)) (p : ℕ) → t no_slot ≡ false → t (slot_at slots p) ≡ true → p < length slots
  test_within t slots p not is = grind (arith, common_steps, cases_lt p (length slots), get_or_past slots p no_slot)

  -- a list stays if the slot that changed passes its test as before; below it gets a place in front, or loses it
  pub lists_other : (t : Slot T → Bool) (slots : List (Slot T)) (p : ℕ) (s : Slot T) (l : List ℕ) → Lists t slots l → p < length slots → t s ≡ t (slot_at slots p) → Lists t (set slots p s) l
  lists_other t slots p s l h within same = grind (arith, common_steps, bit, other_slots, cases_eq, slot_set)

  pub lists_push : (t : Slot T → Bool) (slots : List (Slot T)) (p : ℕ) (s : Slot T) (l : List ℕ) → Lists t slots l → p < length slots → t (slot_at slots p) ≡ false → t s ≡ true → Lists t (set slots p s) (p ∷ l)
  lists_push t slots p s l h within was now = grind (arith, common_steps, bit, other_slots, cases_eq, slot_set, times_here, times_there)

  -- the first of a list passes the test, and is there once
  pub first_passes : (t : Slot T → Bool) (slots : List (Slot T)) (p : ℕ) (l : List ℕ) → Lists t slots (p ∷ l) → (times p l ≡ 0) × (t (slot_at slots p) ≡ true)
  first_passes t slots p l h = grind (arith, common_steps, bit, h p, times_here p l)

  pub lists_pop : (t : Slot T → Bool) (slots : List (Slot T)) (p : ℕ) (s : Slot T) (l : List ℕ) → Lists t slots (p ∷ l) → p < length slots → t s ≡ false → Lists t (set slots p s) l
  lists_pop t slots p s l h within now = grind (arith, common_steps, first_passes, bit, other_slots, cases_eq, slot_set, times_there)

  pub past_end : (slots : List (Slot T)) (p : ℕ) → length slots ≤ p → slot_at slots p ≡ no_slot
  past_end slots p le = get_or_past slots p no_slot le

  -- a slot that does not pass the test is not in the list
  pub not_listed : (t : Slot T → Bool) (slots : List (Slot T)) (l : List ℕ) (p : ℕ) → Lists t slots l → t (slot_at slots p) ≡ false → times p l ≡ 0
  not_listed t slots l p h out = h p ∙ ap bit out
