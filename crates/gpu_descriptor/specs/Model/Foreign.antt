-- Pools of the device that aren't the allocator's.
use Rattle.std.specs.Prelude.{◌≡◌, ◌≢◌, ℕ, slice_get, Some}
use Rattle.gpu_descriptor_types.specs.Ledger.{Pool}
use Rattle.gpu_descriptor.specs.Model.Agreement.{State}
use Rattle.gpu_descriptor.specs.Model.Books.{Key, Entry}

-- some place of the books names the pool
abbrev pub IsNamed : State → ℕ → Type 0
IsNamed s pool = (k : Key) × (i : ℕ) × (e : Entry) × (slice_get (s.books k).pools i ≡ Some e) × (e.pool ≡ pool)

-- no place of the books names the pool
abbrev pub IsForeign : State → ℕ → Type 0
IsForeign s pool = (k : Key) (i : ℕ) (e : Entry) → slice_get (s.books k).pools i ≡ Some e → e.pool ≢ pool

-- a live pool that isn't in the books stays as it is, and doesn't enter them
abbrev pub KeepsForeign : State → State → Type 0
KeepsForeign old new = (name : ℕ) (pool : Pool) → IsForeign old name → old.ledger name ≡ Some pool → (new.ledger name ≡ Some pool) × IsForeign new name
