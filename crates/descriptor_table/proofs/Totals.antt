-- How many sets are kept of several layouts together: the loop of `SetTable::kept_total`, at its start, with one layout more, and with all.
use Rattle.descriptor_table.proofs.Common.{common_steps, ◌≡◌, ℕ, ◌+◌, ◌≤◌, ◌&&◌, nat_le, nat_lt, Bool, List, length, arith, cases_eq, cases_lt, le-ltb, lt-ltb, Slot, count, is_kept_of, is_kept}
use Rattle.descriptor_table.proofs.Chains.{HasLists}
use Rattle.descriptor_table.proofs.Counts.{count_split, none_count}
use Rattle.descriptor_table.proofs.Listed.{bit, past_end}

module _ {T : Type 0} where
  -- whether a slot has a kept set of a layout with a number below this one
  abbrev pub kept_before : ℕ → Slot T → Bool
  kept_before n s = is_kept s && nat_lt s.layout n

  -- one layout more
  pub kept_step : (slots : List (Slot T)) (n : ℕ) → count (kept_before (n + 1)) slots ≡ count (kept_before n) slots + count (is_kept_of n) slots
  kept_step slots n = count_split (kept_before (n + 1)) (kept_before n) (is_kept_of n) slots (λ s. grind (arith, common_steps, bit, cases_eq, lt-ltb, le-ltb))

  -- all layouts
  pub kept_end : (slots : List (Slot T)) (layouts n : ℕ) → HasLists slots layouts → layouts ≤ n → count (kept_before n) slots ≡ count is_kept slots
  kept_end slots layouts n known all =
      let past = λ (s : Slot T). is_kept s && nat_le n s.layout in
      omega (arith, count_split is_kept (kept_before n) past slots (λ s. grind (arith, common_steps, bit)), none_count past slots (λ p. grind (arith, common_steps, known p, cases_lt p (length slots), past_end slots p)))
