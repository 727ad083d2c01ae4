-- Books and ledger of an allocator over a device.
use Rattle.std.specs.Prelude.{◌≡◌, ◌<◌, ℕ, map, List}
use Rattle.gpu_descriptor_types.specs.Ledger.{Ledger}
use Rattle.gpu_descriptor.specs.declared.bucket.DescriptorPool.{DescriptorPool}
use Rattle.gpu_descriptor.specs.Model.Books.{Key, BucketOf, Entry, Bucket, HasDistinctKeys, books_of, sum_over}
use Rattle.gpu_descriptor.specs.Model.Agreement.{State, Agree, Item, outstanding}
use Rattle.gpu_descriptor.specs.Model.Load.{sets_out, descriptors_out, bucket_load}
use Rattle.gpu_descriptor.specs.Caller.Values.{Allocations, IsIdOf}

module _ {P : Type 0} (name : P → ℕ) where
  -- a pool in the books, under the name that the device gives it
  abbrev pub entry_of : DescriptorPool P → Entry
  entry_of e = record { number = e.number; pool = name e.pool; capacity = e.capacity; allocated = e.allocated; available = e.available }

  -- a bucket in the books, with the device's names for its pools
  abbrev pub named_bucket : BucketOf P → Bucket
  named_bucket b = record { id = b.id; pools = map entry_of b.pools }

  -- a row of the table, with the device's names for its pools
  abbrev pub named_row : Key × BucketOf P → Key × Bucket
  named_row r = (r.0, named_bucket r.1)

  -- the table of the books
  abbrev pub table_of : Allocations P → List (Key × Bucket)
  table_of a = map named_row a.table

  -- the books by key, and the ledger's pools
  abbrev pub state_of : Allocations P → Ledger → State
  state_of a l = record { books = books_of (table_of a); ledger = l.pools }

  -- no key has two rows, and books and ledger agree. Value and ledger are two arguments: with one for both, the search for callers' proofs reached its limits
  pub record Agrees (a : Allocations P) (l : Ledger) : Type 0 where
    -- a ghost field says it too, but a caller learns an invariant only from clauses
    pub rows : HasDistinctKeys (table_of a)
    -- the device has what the books say of their pools
    pub books : Agree (state_of a l)

  -- which ids the outstanding sets have
  pub record HasIds (a : Allocations P) (l : Ledger) : Type 0 where
    -- each has one of the allocator's
    pub within : (t : Item) → 0 < outstanding (state_of a l) t → IsIdOf a.ids t.id
    -- and those of two keys have two
    pub apart : (t u : Item) → 0 < outstanding (state_of a l) t → 0 < outstanding (state_of a l) u → t.id ≡ u.id → t.key ≡ u.key

module _ {P : Type 0} where
  -- the keys of an allocator, in the order in which they were added
  abbrev pub keys_of : Allocations P → List Key
  keys_of a = map (λ r. r.0) a.table

  -- how many sets are outstanding
  abbrev pub outstanding_of : Allocations P → ℕ
  outstanding_of a = sum_over sets_out a.table

  -- how many descriptors the outstanding marked sets have
  abbrev pub marked_load_of : Allocations P → ℕ
  marked_load_of a = sum_over descriptors_out a.table

  -- how many descriptors the pools of marked keys have
  abbrev pub pool_load_of : Allocations P → ℕ
  pool_load_of a = sum_over bucket_load a.table
