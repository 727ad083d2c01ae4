-- The greatest numbers that a machine's integers hold, and that counts add up to.
use Rattle.std.specs.Prelude.{ℕ, ◌*◌}

-- the greatest number of 32 bits
abbrev pub greatest_u32 : ℕ
greatest_u32 = 4294967295

-- the greatest number of 32 bits with a sign
abbrev pub greatest_i32 : ℕ
greatest_i32 = 2147483647

-- the greatest number of 64 bits
abbrev pub greatest_u64 : ℕ
greatest_u64 = 18446744073709551615

-- the greatest sum of fourteen counts
abbrev pub greatest_total : ℕ
greatest_total = 14 * greatest_u32
