-- The live pools of the device that aren't the allocator's.
use Rattle.std.specs.Prelude.{ℕ, Bool, if◌then◌else◌, List, Option, None}
use Rattle.std.specs.List.{list_any}
use Rattle.gpu_descriptor_types.specs.Ledger.{Pool, Ledger}
use Rattle.gpu_descriptor.specs.Model.Books.{Key, Bucket, books_of}
use Rattle.gpu_descriptor.specs.Model.Release.{are_named}
use Rattle.gpu_descriptor.specs.Caller.States.{table_of}
use Rattle.gpu_descriptor.specs.Caller.Values.{Allocations}

-- whether the books of the table name the pool
abbrev pub is_named : List (Key × Bucket) → ℕ → Bool
is_named table pool = list_any (λ row. are_named (books_of table row.0).pools pool) table

-- the live pools that aren't the allocator's, by name. A function, so that one equation says of a call that they stay, and a caller chains these without a proof file
unfoldable pub others_of : {P : Type 0} → (P → ℕ) → Allocations P → Ledger → ℕ → Option Pool
others_of name a l pool = if is_named (table_of name a) pool then None else l.pools pool
