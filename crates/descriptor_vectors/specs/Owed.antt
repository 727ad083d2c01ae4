-- The calls that a device is still to list: a destroy for each live pool, a release for each live set.
use Rattle.std.specs.Prelude.{◌≡◌, ℕ, ◌+◌, ◌≤◌, List, [], ◌∷◌, nat_eq, Some}
use Rattle.std.specs.Map.{lookup}
use Rattle.gpu_descriptor_types.specs.Ledger.{Ledger, Pool}
use Rattle.gpu_descriptor_types.specs.Multiset.{HasSize}

-- one for each pool of the list, and one for each of its sets
abbrev pub owed_by : List (ℕ × ℕ) → ℕ
owed_by [] = 0
owed_by (row ∷ rows) = row.1 + 1 + owed_by rows

-- n calls are enough to release all live sets and to destroy all live pools
pub record IsOwed (l : Ledger) (n : ℕ) : Type 0 where
  -- the live pools by name, each with the number of its live sets
  pub rows : List (ℕ × ℕ)
  pub listed : (name : ℕ) (pool : Pool) → l.pools name ≡ Some pool → (size : ℕ) × (lookup (nat_eq name) rows ≡ Some size) × HasSize pool.live size
  pub enough : owed_by rows ≤ n
