-- Least powers of two.
-- For `rounded_up` and for Sizes: power is the least power of two that is not below start, and size is what start is rounded up to.
use Rattle.std.proofs.Common.{◌≡◌, ℕ, zero, suc, ◌*◌, ◌^◌, ◌<◌, ◌≤◌, inl, inr, arith, refl, ap, Bool, true, false, Option, Some, None, MatchOption, unwrap_or}
use Rattle.std.specs.Prelude.{nat_le, min}
use Rattle.std.specs.Int.{IsNextPowerOfTwo}
use Rattle.std.proofs.Math.Nat.{pow-le-pow_right, pow-suc}
use Rattle.std.proofs.lemmas.Bool.{cases_lt, le-leb, leb-true, leb-false}
use Rattle.std.proofs.lemmas.Nat.{pow_pos}
use Rattle.gpu_descriptor_types.specs.PoolSize.{greatest_pool_size, IsLeastPower, IsRounded}

-- a power of two grows with its exponent
pow_le : (j k : ℕ) → j ≤ k → 2 ^ j ≤ 2 ^ k
pow_le j k le = pow-le-pow_right (omega arith) le

-- what std calls the next power of two is the least that is not below
pub least_power : (start power : ℕ) → IsNextPowerOfTwo start power → IsLeastPower start power
least_power start power next = record {
  exponent = next.0.0;
  is_power = next.0.1;
  reaches = next.1;
  least = λ k above. elim (cases_lt k next.0.0) [
    | inl less ↦ absurd (too_low k less above)
    | inr more ↦ (let grows = pow_le next.0.0 k more in let is = next.0.1 in omega arith)
  ];
}
  where
    too_low : (k : ℕ) → k < next.0.0 → start ≤ 2 ^ k → ⊥
    too_low k less above =
        let grows : 2 ^ suc k ≤ 2 ^ next.0.0 = pow_le (suc k) next.0.0 less in
        let doubles : 2 ^ suc k ≡ 2 ^ k * 2 = pow-suc 2 k in
        let is = next.0.1 in
        let half = next.2 in
        let some = pow_pos k in
        omega arith

-- it is below twice the start
pub below_twice : (start power : ℕ) → 1 ≤ start → IsLeastPower start power → power < 2 * start
below_twice start power some p = by_exponent p.exponent refl
  where
    by_exponent : (e : ℕ) → p.exponent ≡ e → power < 2 * start
    by_exponent zero is = (let one : 2 ^ p.exponent ≡ 1 = ap (λ (n : ℕ). 2 ^ n) is in let power_is = p.is_power in omega arith)
    by_exponent (suc e) is = elim (cases_lt (2 ^ e) start) [
      | inl less ↦ (
          let same : 2 ^ p.exponent ≡ 2 ^ suc e = ap (λ (n : ℕ). 2 ^ n) is in
          let doubles : 2 ^ suc e ≡ 2 ^ e * 2 = pow-suc 2 e in
          let power_is = p.is_power in
          omega arith)
      | inr more ↦ (
          let same : 2 ^ p.exponent ≡ 2 ^ suc e = ap (λ (n : ℕ). 2 ^ n) is in
          let doubles : 2 ^ suc e ≡ 2 ^ e * 2 = pow-suc 2 e in
          let power_is = p.is_power in
          let least = p.least e more in
          let positive = pow_pos e in
          absurd (omega arith))
    ]

-- so is the rounded start
pub rounded_below : (start size : ℕ) → 1 ≤ start → IsRounded start size → size < 2 * start
rounded_below start size some r = by_test (nat_le r.power 4294967295) refl
  where
    below : r.power < 2 * start
    below = below_twice start r.power some r.rounded

    by_test : (b : Bool) → nat_le r.power 4294967295 ≡ b → size < 2 * start
    by_test true e = (let is : size ≡ r.power = rw e at r.fits in let low = below in omega arith)
    by_test false e = (let is : size ≡ 2147483647 = rw e at r.fits in let past = leb-false r.power 4294967295 e in elim (cases_lt (2 ^ 31) start) [ inl more ↦ (omega arith) | inr less ↦ (let l = r.rounded.least 31 less in absurd (omega arith)) ])

-- it is the start at least, where that fits
pub rounded_above : (start size : ℕ) → IsRounded start size → min start 2147483647 ≤ size
rounded_above start size r = by_test (nat_le r.power 4294967295) refl
  where
    by_test : (b : Bool) → nat_le r.power 4294967295 ≡ b → min start 2147483647 ≤ size
    by_test true e = (let is : size ≡ r.power = rw e at r.fits in let reaches = r.rounded.reaches in omega arith)
    by_test false e = (let is : size ≡ 2147483647 = rw e at r.fits in omega arith)

-- past half of 32 bits the least power is the first that does not fit
power_past_32_bits : (start : ℕ) → 2 ^ 31 < start → start < 2 ^ 32 → IsLeastPower start (2 ^ 32)
power_past_32_bits start above below = record {
  exponent = 32;
  is_power = refl;
  reaches = omega arith;
  least = λ k reaches. elim (cases_lt k 32) [
    | inl less ↦ (let small : 2 ^ k ≤ 2 ^ 31 = pow_le k 31 (omega arith) in absurd (omega arith))
    | inr more ↦ pow_le 32 k more
  ];
}

-- the next power of two of 32 bits, or 2147483647 where there is none
pub is_rounded : (start : ℕ) (power : Option ℕ) (size : ℕ) → start < 2 ^ 32 → size < 2 ^ 32 → MatchOption power (2 ^ 31 < start) (IsNextPowerOfTwo start) → size ≡ unwrap_or power 2147483647 → IsRounded start size
is_rounded start None size below fits above is = record { power = 2 ^ 32; rounded = power_past_32_bits start above below; fits = is }
is_rounded start (Some power) size below fits next is = record {
  power = power;
  rounded = least_power start power next;
  fits = rw (le-leb power 4294967295 (omega arith)) is;
}

-- a start of 32 bits is rounded up to a number of sets that a pool may have
pub rounded_some : (start size : ℕ) → 1 ≤ start → IsRounded start size → (1 ≤ size) × (size ≤ greatest_pool_size)
rounded_some start size first r = by_test (nat_le r.power 4294967295) refl
  where
    small : r.power ≤ 4294967295 → r.power ≤ greatest_pool_size
    small le = elim (cases_lt r.rounded.exponent 32) [
      | inl less ↦ (let top : 2 ^ r.rounded.exponent ≤ 2 ^ 31 = pow_le r.rounded.exponent 31 (omega arith) in let is = r.rounded.is_power in omega arith)
      | inr more ↦ (let top : 2 ^ 32 ≤ 2 ^ r.rounded.exponent = pow_le 32 r.rounded.exponent more in let is = r.rounded.is_power in absurd (omega arith))
    ]

    by_test : (b : Bool) → nat_le r.power 4294967295 ≡ b → (1 ≤ size) × (size ≤ greatest_pool_size)
    by_test true e =
        let is : size ≡ r.power = rw e at r.fits in
        let fits = small (leb-true r.power 4294967295 e) in
        let reaches = r.rounded.reaches in
        (omega arith, omega arith)
    by_test false e = (let is : size ≡ 2147483647 = rw e at r.fits in (omega arith, omega arith))
