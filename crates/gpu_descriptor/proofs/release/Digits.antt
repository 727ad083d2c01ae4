-- A number is below the power of two of its digits: so many halvings find the pool of a set.
use Rattle.gpu_descriptor.proofs.Common.{common_steps, ℕ, zero, suc, ◌*◌, ◌^◌, ◌/◌, ◌<◌, ◌≤◌, ◌≡◌, arith, pow-suc, binary_digits, digits_within}

pub twice : (r : ℕ) → 2 ^ suc r ≡ 2 * 2 ^ r
twice r = (let a = pow-suc 2 r in omega arith)

within : (bound n : ℕ) → n ≤ bound → n < 2 ^ digits_within bound n
within zero n h = omega arith
within (suc bound) zero h = (let a = twice zero in omega arith)
within (suc bound) (suc n) h = grind (arith, common_steps, twice, (within bound (suc n / 2) (omega arith)))

pub digits_enough : (n : ℕ) → n < 2 ^ binary_digits n
digits_enough n = within n n (omega arith)
