-- A set that comes into a slot, gets a handle, or leaves: for `SetTable::put`, `hold_kept`, `take_out` and `take_listed`, and for `Store`.
-- `old` are the slots before, `mid` those once the slot was picked from its list or its set taken out, `new` those after.
use Rattle.descriptor_table.proofs.Common.{common_steps, ◌≡◌, ℕ, ◌+◌, ◌<◌, ◌≤◌, Bool, true, false, List, length, set, Option, None, option_map, is_some, refl, arith, rules, length-set, set-set, false≢true, count, filled, space_in, is_in, slot_at, At, GivesAny, HasRoom, Picks, Puts, Stays, is_usable, slots_of}
use Rattle.descriptor_table.proofs.Common.{used_for, vacated, SetTable, Taken, Slot}
use Rattle.descriptor_table.proofs.Chains.{and_true}
use Rattle.descriptor_table.proofs.Counts.{count_set}
use Rattle.descriptor_table.proofs.Listed.{bit, other_slots, slot_set, test_within}

module _ {T : Type 0} where
  -- what is known of a vacant slot
  pub vacant_is : (s : Slot T) → is_usable s ≡ true → (s.set ≡ None) × (s.generation < 4294967295)
  vacant_is s e = search rules

  -- a set came to a vacant slot
  pub puts_there : (layout : ℕ) (x : T) (p : ℕ) (old mid : List (Slot T)) → is_usable (slot_at old p) ≡ true → At p (filled layout x) old mid → Puts layout x p old mid
  puts_there layout x p old mid usable is = grind (arith, common_steps, length-set, other_slots, slot_set, vacant_is, test_within is_usable old p refl usable)

  -- there is room for as many sets if as many slots are usable, and nothing else changed
  pub room_stays : (n : ℕ) (a b : SetTable T) → Stays a b → length (slots_of b) ≡ length (slots_of a) → count is_usable (slots_of b) ≡ count is_usable (slots_of a) → HasRoom n a → HasRoom n b
  room_stays n a b stays long usable room = grind (arith, common_steps)

  -- a vacant slot is used, and so there is room for one fewer
  pub room_less : (n p : ℕ) (s t : Slot T) (a b : SetTable T) (mid : List (Slot T)) → is_usable (slot_at (slots_of a) p) ≡ true → mid ≡ set (slots_of a) p s → slots_of b ≡ set mid p t → is_usable t ≡ false → space_in b.slots ≡ space_in a.slots → HasRoom (n + 1) a → HasRoom n b
  room_less n p s t a b mid usable put is used stays room = grind (arith, common_steps, bit, count_set, length-set, set-set, test_within is_usable (slots_of a) p refl usable)

  -- a set that passes the test left its list, then its slot
  pub gives : (test : Slot T → Bool) (ids : ℕ → ℕ) (p : ℕ) (r : Option (ℕ × T)) (old mid new : List (Slot T)) → Picks test (used_for Taken) p old mid → is_some (slot_at old p).set ≡ true → r ≡ option_map (λ x. (ids (slot_at mid p).layout, x)) (slot_at mid p).set → new ≡ set mid p (vacated (slot_at mid p)) → GivesAny test (λ s. option_map (λ x. (ids s.layout, x)) s.set) r old new
  gives test ids p x2 old mid new picks full taken is = search (rules, false≢true, set-set, slot_set)

  -- a kept set is there, and its place has a generation left
  pub kept_is : (k : ℕ) (s : Slot T) → 2 ≤ k → is_in k s ≡ true → (s.generation < 4294967295) × (is_some s.set ≡ true)
  kept_is k s two e = search (rules, and_true)

  pub kept_full : (s : Slot T) → is_in (s.layout + 2) s ≡ true → is_some s.set ≡ true
  kept_full s e = (kept_is (s.layout + 2) s (omega arith) e).1
