-- What the allocator keeps of its pools: for each key a list of pools, and sums over all keys.
use Rattle.std.specs.Prelude.{◌≡◌, ℕ, ◌+◌, Bool, true, false, ◌==◌, ◌&&◌, nat_eq, nat_lt, if◌then◌else◌, List, [], ◌∷◌, map, sum_by, Option}
use Rattle.std.specs.List.{find, list_all, list_any}
use Rattle.gpu_descriptor.specs.declared.bucket.DescriptorPool.{DescriptorPool}
use lib.Pointwise.{pointwise}
use mathlib.Core.Bool.{beq}

-- the counts of a layout, and whether it is marked: made with the flag update-after-bind
pub record Key : Type 0 where
  pub counts : List ℕ
  pub marked : Bool

-- whether two keys have the same counts and the same mark
abbrev pub key_eq : Key → Key → Bool
key_eq k l = pointwise nat_eq k.counts l.counts && beq k.marked l.marked

-- the pools of a key, oldest first. Sets of the key have its id. A pool of the books has the code's fields: its number among those of its key, its capacity in sets, how many sets are allocated, how many free places are known, and as pool its name or the raw pool itself. With a parameter, sums and look-ups are defined once for both
pub record BucketOf (X : Type 0) : Type 0 where
  pub id : ℕ
  pub pools : List (DescriptorPool X)

-- a pool, with the name that the device gives it
abbrev pub Entry : Type 0
Entry = DescriptorPool ℕ

-- a key's pools, with the device's names
abbrev pub Bucket : Type 0
Bucket = BucketOf ℕ

-- the pool that has the number; of two that have it, the older one. If books and ledger agree, no two have it
abbrev pub entry_at : Bucket → ℕ → Option Entry
entry_at b n = find (λ e. e.number == n) b.pools

-- whether each number is below all after it
abbrev pub rises : List ℕ → Bool
rises [] = true
rises (n ∷ later) = list_all (nat_lt n) later && rises later

-- one more than the last of the numbers, or 0
abbrev pub number_after : List ℕ → ℕ
number_after [] = 0
number_after (n ∷ []) = n + 1
number_after (n ∷ m ∷ later) = number_after (m ∷ later)

module _ {X : Type 0} where
  -- the numbers of these pools
  abbrev pub numbers_of : List (DescriptorPool X) → List ℕ
  numbers_of pools = map (λ e. e.number) pools

  -- the number of the key's next pool: one more than the newest's
  abbrev pub next_number : BucketOf X → ℕ
  next_number b = number_after (numbers_of b.pools)

-- ---- the books of all keys, and a table that keeps them in some order

module _ {X : Type 0} where
  -- the bucket of a key that was never added
  abbrev pub no_pools : BucketOf X
  no_pools = record { id = 0; pools = [] }

  -- the books that a table keeps: the first row of a key. If no key has two, the order of the rows doesn't matter
  abbrev pub books_of : List (Key × BucketOf X) → Key → BucketOf X
  books_of [] k = no_pools
  books_of (row ∷ table) k = if key_eq row.0 k then row.1 else books_of table k

  -- no key has two rows
  abbrev pub HasDistinctKeys : List (Key × BucketOf X) → Type 0
  HasDistinctKeys [] = Unit {0}
  HasDistinctKeys (row ∷ table) = (list_any (λ other. key_eq other.0 row.0) table ≡ false) × HasDistinctKeys table

  -- the sum of what is counted in each bucket
  abbrev pub sum_over : (Key → BucketOf X → ℕ) → List (Key × BucketOf X) → ℕ
  sum_over f table = sum_by (λ row. f row.0 row.1) table

-- f of each key's bucket adds up to n over all keys: by a table that keeps the books, since a function over all keys has no sum. The table has each key that has pools
pub record AddsUp (f : Key → Bucket → ℕ) (books : Key → Bucket) (n : ℕ) : Type 0 where
  pub table : List (Key × Bucket)
  -- no key has two rows, so the sum over the rows is one over all keys
  pub distinct : HasDistinctKeys table
  pub keeps : (k : Key) → books_of table k ≡ books k
  pub total : sum_over f table ≡ n
