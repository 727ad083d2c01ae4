-- How many slots pass a test, when one of them changes, and that a list counts them: for the counts that `SetTable` returns.
use Rattle.descriptor_table.proofs.Common.{common_steps, ◌≡◌, ◌≢◌, ℕ, zero, suc, ◌+◌, ◌<◌, ◌≤◌, Bool, true, false, if◌then◌else◌, List, [], ◌∷◌, length, set, refl, ap, ◌∙◌, arith, sym, is_of, HasList, walk, Lists, chain_at, count, is_in, is_kept_of}
use Rattle.descriptor_table.proofs.Common.{cases_lt, get_or_past, nexts_in, no_slot, slot_at, removed_of, slots_of, chains_in, Group, SetTable, Slot, Chain}
use Rattle.descriptor_table.proofs.Relisted.{chain_was, list_is}
use Rattle.descriptor_table.proofs.Counting.{walk_length}
use Rattle.descriptor_table.proofs.Listed.{bit, first_passes, test_within, lists_pop}

module _ {T : Type 0} where
  -- what the slot counted before comes off, and what it counts now comes on
  pub count_set : (test : Slot T → Bool) (slots : List (Slot T)) (p : ℕ) (s : Slot T) → p < length slots → count test (set slots p s) + (if test (slot_at slots p) then 1 else 0) ≡ count test slots + (if test s then 1 else 0)
  count_set test [] p s within = absurd (omega arith)
  count_set test (y ∷ slots) zero s within = omega arith
  count_set test (y ∷ slots) (suc p) s within = let h = count_set test slots p s (omega arith) in omega arith

  pub same_count : (test : Slot T → Bool) (slots : List (Slot T)) (p : ℕ) (s : Slot T) → p < length slots → test s ≡ test (slot_at slots p) → count test (set slots p s) ≡ count test slots
  same_count test slots p s within same = let h = count_set test slots p s within in let e = ap bit same in omega arith

  -- each slot that passes a test passes one of two others
  pub count_split : (all a b : Slot T → Bool) (slots : List (Slot T)) → ((s : Slot T) → bit (all s) ≡ bit (a s) + bit (b s)) → count all slots ≡ count a slots + count b slots
  count_split all a b [] each = omega arith
  count_split all a b (s ∷ slots) each = let e = each s in let h = count_split all a b slots each in omega arith

  -- as many slots pass the test, if at each place the slot does as before
  pub count_same : (test : Slot T → Bool) (l m : List (Slot T)) → length m ≡ length l → ((p : ℕ) → test (slot_at m p) ≡ test (slot_at l p)) → count test m ≡ count test l
  count_same test [] m long same = grind (arith, common_steps)
  count_same test (x ∷ l) [] long same = absurd (omega arith)
  count_same test (x ∷ l) (y ∷ m) long same = let a = ap bit (same 0) in let h = count_same test l m (omega arith) (λ p. same (suc p)) in omega arith

  pub count_few : (test : Slot T → Bool) (slots : List (Slot T)) → count test slots ≤ length slots
  count_few test [] = omega arith
  count_few test (s ∷ slots) = grind (arith, common_steps, count_few test slots)

  pub count_less : (test : Slot T → Bool) (slots : List (Slot T)) (p : ℕ) → p < length slots → test (slot_at slots p) ≡ false → count test slots < length slots
  count_less test [] p within out = absurd (omega arith)
  count_less test (s ∷ slots) zero within out = let e = ap bit out in let h = count_few test slots in omega arith
  count_less test (s ∷ slots) (suc p) within out = grind (arith, common_steps, count_less test slots p)

  pub none_count : (test : Slot T → Bool) (slots : List (Slot T)) → ((p : ℕ) → test (slot_at slots p) ≡ false) → count test slots ≡ 0
  none_count test [] none = refl
  none_count test (s ∷ slots) none = ap (λ b. (if b then 1 else 0) + count test slots) (none 0) ∙ (let h = none_count test slots (λ p. none (suc p)) in omega arith)

  -- as many slots as places in a list, if the slot past the end, in which no set ever was, isn't in it
  pub listed_count : (test : Slot T → Bool) (slots : List (Slot T)) (l : List ℕ) → test no_slot ≡ false → Lists test slots l → length l ≡ count test slots
  listed_count test slots [] none h = sym (none_count test slots (λ p. grind (arith, common_steps, h p)))
  listed_count test slots (p ∷ l) none h = grind (arith, common_steps, bit, count_set, first_passes, lists_pop, test_within, listed_count test (set slots p no_slot) l)

  -- so a list has no more places than there are slots
  pub lists_few : (test : Slot T → Bool) (slots : List (Slot T)) (l : List ℕ) → test no_slot ≡ false → Lists test slots l → length l ≤ length slots
  lists_few test slots l none h = omega (arith, listed_count test slots l none h, count_few test slots)

  -- if no slot counts, none passes the test, nor does the slot past the end, in which no set ever was
  pub count_none : (test : Slot T → Bool) (slots : List (Slot T)) → test no_slot ≡ false → count test slots ≡ 0 → (p : ℕ) → test (slot_at slots p) ≡ false
  count_none test slots none zero_count p = grind (arith, common_steps, test_within test slots p none, count_set test slots p no_slot)

  -- some count, if one passes the test
  pub some_count : (test : Slot T → Bool) (slots : List (Slot T)) (p : ℕ) → test no_slot ≡ false → test (slot_at slots p) ≡ true → 0 < count test slots
  some_count test slots p none is = grind (arith, common_steps, count_none test slots none)

-- a table's lists have as many slots as they count
module _ {T : Type 0} (t : SetTable T) where
  pub chain_counts : (k : ℕ) → (chain_at (chains_in t.lists) k).count ≡ count (is_in k) (slots_of t)
  chain_counts k =
      let c = chain_at (chains_in t.lists) k in
      grind (arith, common_steps, walk_length c.count (nexts_in t.slots) c.first, listed_count (is_in k) (slots_of t) (walk c.count (nexts_in t.slots) c.first) refl (t.sound.linked k))

  -- fewer than the count that marks the list of a removed layout
  pub chain_short : (k : ℕ) → (chain_at (chains_in t.lists) k).count < 4294967295
  chain_short k = omega (arith, chain_counts k, count_few (is_in k) (slots_of t), t.sound.size)

  -- a list with a count has slots
  pub some_of : (k : ℕ) (c : Chain) → c ≡ chain_at (chains_in t.lists) k → c.count ≢ 0 → 0 < count (is_in k) (slots_of t)
  some_of k c is some = omega (arith, ap (λ (c : Chain). c.count) is, chain_counts k)

  -- of a layout that is there
  pub there_counts : (layout : ℕ) → removed_of t layout ≡ false → (chain_at t.lists.kept.items layout).count ≡ count (is_kept_of layout) (slots_of t)
  there_counts layout there = ap (λ (c : Chain). c.count) (sym (list_is t.lists layout there)) ∙ chain_counts (layout + 2)

  -- a group that has a set has a list
  pub group_has : (group : Group) → 0 < count (is_of group) (slots_of t) → HasList group t.lists
  group_has x1 some = grind (arith, common_steps, chain_counts, chain_was t.lists, cases_lt, get_or_past)
