-- What callers see of an allocator: its limit, its bound on new pools, and a table of its keys in the order in which they were added.
use Rattle.std.specs.Prelude.{ℕ, ◌≤◌, ◌<◌, List, [], Option, None}
use Rattle.gpu_descriptor_types.specs.Bounds.{greatest_u64}
use Rattle.gpu_descriptor.specs.Model.Books.{Key, BucketOf}

-- the value of an allocator
pub record Allocations (P : Type 0) : Type 0 where
  pub limit : ℕ
  -- the bound on the descriptors of a new pool, which only the sets still needed exceed; None without one
  pub bound : Option ℕ
  -- the ids that its keys get: from the first number up to before the second
  pub ids : ℕ × ℕ
  -- a list, since a value has to be data; with raw pools, since an allocator's type names no device
  pub table : List (Key × BucketOf P)
  -- how often a request looked at a pool, and how many comparisons the searches of releases took
  pub looks : ℕ
  pub comparisons : ℕ

-- one of these ids
abbrev pub IsIdOf : ℕ × ℕ → ℕ → Type 0
IsIdOf ids id = (ids.0 ≤ id) × (id < ids.1)

-- all ids
abbrev pub all_ids : ℕ × ℕ
all_ids = (0, greatest_u64)

-- an allocator without keys and without a bound
abbrev pub without_keys : {P : Type 0} → ℕ → ℕ × ℕ → Allocations P
without_keys limit ids = record { limit = limit; bound = None; ids = ids; table = []; looks = 0; comparisons = 0 }
