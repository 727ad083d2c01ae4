-- How many sets a new pool holds, and its counts. The size is a relation, as a function would be the program once more.
use Rattle.gpu_descriptor_types.specs.Bounds.{greatest_i32, greatest_u32}
use Rattle.gpu_descriptor_types.specs.Counts.{greatest}
use Rattle.std.specs.Prelude.{◌≡◌, ℕ, ◌*◌, ◌/◌, ◌^◌, ◌≤◌, ◌==◌, max, min, List, map, sum, fold, slice_set, if◌then◌else◌, nat_le, Option, None, Some}

-- how many sets a pool is created for at least
abbrev pub min_sets : ℕ
min_sets = 64

-- the max of the outstanding sets that count
abbrev pub max_sets : ℕ
max_sets = 512

-- the max of the sets of a pool: the greatest power of two in 32 bits
abbrev pub greatest_pool_size : ℕ
greatest_pool_size = 2147483648

-- how many sets a pool is created for, before this is rounded up and cut: the greatest of 64, of the sets still needed, and of the outstanding sets up to 512
abbrev pub start_size : ℕ → ℕ → ℕ
start_size total wanted = max (max min_sets wanted) (min max_sets total)

-- power is the least power of two that is not below start
pub record IsLeastPower (start power : ℕ) : Type 0 where
  pub exponent : ℕ
  pub is_power : power ≡ 2 ^ exponent
  pub reaches : start ≤ power
  pub least : (k : ℕ) → start ≤ 2 ^ k → power ≤ 2 ^ k

-- start rounded up to a power of two, or 2147483647 if the power exceeds 32 bits
pub record IsRounded (start size : ℕ) : Type 0 where
  pub power : ℕ
  pub rounded : IsLeastPower start power
  pub fits : size ≡ (if nat_le power greatest_u32 then power else greatest_i32)

-- how many sets keep the count of a kind within 32 bits
abbrev pub sets_of_kind : ℕ → ℕ
sets_of_kind count = greatest_u32 / max 1 count

-- how many sets a new pool of these counts holds, if total sets are outstanding and wanted are still needed
pub record IsPoolSize (counts : List ℕ) (total wanted sets : ℕ) : Type 0 where
  pub start : ℕ
  pub rounded : IsRounded (start_size total wanted) start
  -- the start rounded up, but no more sets than keep the count of each kind within 32 bits
  pub is_least : sets ≡ fold min start (map sets_of_kind counts)

-- how many of `sets` sets a pool may hold if there is room for `room` descriptors, and each set has `each`. Sets without descriptors all fit, if there is room for one descriptor
abbrev pub sets_in_room : (room each sets : ℕ) → ℕ
sets_in_room room each sets = if each == 0 then (if room == 0 then 0 else sets) else min sets (room / each)

-- the size of a new pool, cut to the room for its descriptors
pub record IsCutSize (counts : List ℕ) (room total wanted sets : ℕ) : Type 0 where
  -- its size without a cut
  pub whole : ℕ
  pub is_whole : IsPoolSize counts total wanted whole
  pub cut : sets ≡ sets_in_room room (sum counts) whole
  pub some : 1 ≤ sets

-- `sets` cut to a bound on their descriptors, but not below the sets still needed. Each set has `each` descriptors, or counts as one
abbrev pub bounded_sets : Option ℕ → (each wanted sets : ℕ) → ℕ
bounded_sets None each wanted sets = sets
bounded_sets (Some bound) each wanted sets = min sets (max wanted (bound / max 1 each))

-- how many sets a pool that is not cut to the room holds at least, unless fewer are needed
abbrev pub pool_size_floor : List ℕ → ℕ
pool_size_floor counts = min greatest_i32 (sets_of_kind (greatest counts))

-- the counts of a pool of this many sets. Without descriptors it has one sampler
abbrev pub pool_counts : List ℕ → ℕ → List ℕ
pool_counts counts sets = let products = map (λ count. count * sets) counts in if sum products == 0 then slice_set products 0 1 else products
