-- How far a binary search has come: the invariant of `place_of`. It began with before comparisons, and has count now.
use Rattle.gpu_descriptor.proofs.Common.{ℕ, zero, suc, ◌+◌, ◌-◌, ◌/◌, ◌^◌, ◌<◌, ◌≤◌, ◌≡◌, List, length, get_or, nat_lt, true, false, arith, ltb-true, ltb-false, get_or_default, AllWithin, IsNonDecreasing, refl, common_steps, binary_digits}
use Rattle.gpu_descriptor.proofs.release.Digits.{digits_enough, twice}

-- the numbers before low are below the number, and those from low + size on are not
pub record Searching (items : List ℕ) (number low size before count : ℕ) : Type 0 where
  pub inside : low + size ≤ length items
  pub below : AllWithin (λ x. x < number) items 0 low
  pub above : AllWithin (λ x. number ≤ x) items (low + size) (length items)
  pub rises : before ≤ count
  -- so many comparisons may come yet
  pub left : ℕ
  pub small : size < 2 ^ left
  pub few : count + left ≤ before + binary_digits (length items)

pub search_start : (items : List ℕ) (number count : ℕ) → Searching items number 0 (length items) count count
search_start items number count = record {
  inside = omega arith;
  below = λ k d h lt. absurd (omega arith);
  above = λ k d h lt. absurd (omega arith);
  rises = omega arith;
  left = binary_digits (length items);
  small = digits_enough (length items);
  few = omega arith;
}

-- a comparison halves what is left
halves : (left size : ℕ) → 0 < size → size < 2 ^ left → (l : ℕ) × (left ≡ suc l) × (size / 2 < 2 ^ l)
halves zero size some small = absurd (omega arith)
halves (suc l) size some small = (l, refl, (let t = twice l in omega arith))

module _ (items : List ℕ) (number low size before count : ℕ) (rising : IsNonDecreasing items) (s : Searching items number low size before count) (some : 0 < size) (count' : ℕ) (one_more : count' ≡ count + 1) where
  pub search_right : nat_lt (get_or items (low + size / 2) 0) number ≡ true → Searching items number (low + (size / 2 + 1)) (size - (size / 2 + 1)) before count'
  search_right is =
      let half = halves s.left size some s.small in
      record {
        inside = omega arith;
        below = λ k d h lt.
            let last = rising k (low + size / 2) 0 (omega arith) (omega arith) in
            grind (arith, common_steps, get_or_default, ltb-true);
        above = λ k d h lt. s.above k d (omega arith) lt;
        rises = omega arith;
        left = half.0;
        small = omega arith;
        few = omega arith;
      }

  pub search_left : nat_lt (get_or items (low + size / 2) 0) number ≡ false → Searching items number low (size / 2) before count'
  search_left is =
      let half = halves s.left size some s.small in
      record {
        inside = omega arith;
        below = s.below;
        above = λ k d h lt.
            let next = rising (low + size / 2) k 0 h lt in
            grind (arith, common_steps, get_or_default, ltb-false);
        rises = omega arith;
        left = half.0;
        small = half.2;
        few = omega arith;
      }
