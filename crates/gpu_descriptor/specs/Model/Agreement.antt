-- Books and ledger side by side: how the two agree, and which sets are outstanding.
use Rattle.std.specs.Prelude.{◌<◌, ◌≡◌, ℕ, ◌+◌, ◌≤◌, Bool, true, ◌==◌, ◌&&◌, if◌then◌else◌, List, [], count_by, length, slice_get, slice_index, Option, Some}
use Rattle.std.specs.Option.{option_map_or}
use Rattle.gpu_descriptor_types.specs.Ledger.{Pool}
use Rattle.gpu_descriptor_types.specs.Multiset.{HasSize, LiveSet}
use Rattle.gpu_descriptor_types.specs.Flags.{pool_flags}
use Rattle.gpu_descriptor_types.specs.PoolSize.{greatest_pool_size, pool_counts}
use Rattle.gpu_descriptor.specs.Model.Books.{Key, key_eq, Entry, Bucket, entry_at, no_pools, number_after, numbers_of, rises}

-- the books by key, and the ledger's pools by name, without the ledger's counters
pub record State : Type 0 where
  pub books : Key → Bucket
  pub ledger : ℕ → Option Pool

-- no key has a pool. A key without pools may have an id
abbrev pub HasNoPools : State → Type 0
HasNoPools s = (k : Key) → (s.books k).pools ≡ []

-- the books are as if no key was ever added
abbrev pub HasNoKeys : State → Type 0
HasNoKeys s = (k : Key) → s.books k ≡ no_pools

-- the numbers of each key's pools have no gap: the next number is that of the first pool plus the number of pools
abbrev pub HasNoGaps : State → Type 0
HasNoGaps s = (k : Key) → let numbers = numbers_of (s.books k).pools in number_after numbers ≤ slice_index numbers 0 + length numbers

-- ---- allocated sets

-- an allocated set: its key and the key's id, the number of its pool, and its name
pub record Item : Type 0 where
  pub key : Key
  pub id : ℕ
  pub number : ℕ
  pub name : ℕ

-- the same in all four
abbrev pub item_eq : Item → Item → Bool
item_eq s t = key_eq s.key t.key && (s.number == t.number) && (s.name == t.name) && (s.id == t.id)

-- the set as the device keeps it
abbrev pub set_of : Item → LiveSet
set_of t = record { name = t.name; counts = t.key.counts }

-- how often a set is in a list
abbrev pub count_of : Item → List Item → ℕ
count_of s m = count_by (λ t. item_eq t s) m

-- how often a set is live in a pool
abbrev pub live_in : (ℕ → Option Pool) → ℕ → LiveSet → ℕ
live_in ledger pool x = option_map_or (λ p. p.live x) (ledger pool) 0

-- how often a set is live in the pool of the bucket that its number names
abbrev pub live_at : (ℕ → Option Pool) → Bucket → Item → ℕ
live_at ledger b t = option_map_or (λ e. live_in ledger e.pool (set_of t)) (entry_at b t.number) 0

-- how often a set is outstanding: as often as it is live in its pool, if its id is that of its key. The id is tested here, so that agreement, releases, cleanups and callers need not speak of it
abbrev pub outstanding : State → Item → ℕ
outstanding s t = if (s.books t.key).id == t.id then live_at s.ledger (s.books t.key) t else 0

-- the sets of the list, each as often as it is there, are outstanding
abbrev pub AreOutstanding : List Item → State → Type 0
AreOutstanding m s = (t : Item) → count_of t m ≤ outstanding s t

-- ---- agreement

-- sets are freed singly, and UPDATE_AFTER_BIND is there exactly for a marked key
abbrev pub flags_of : Key → ℕ
flags_of k = pool_flags k.marked

-- the device's pool is as the entry says
pub record IsAsBooked (k : Key) (pool : Pool) (e : Entry) : Type 0 where
  pub flags : pool.flags ≡ flags_of k
  -- its capacity is from 1 to 2147483648 sets, and is that of the entry
  pub at_least : 1 ≤ pool.capacity
  pub small : pool.capacity ≤ greatest_pool_size
  pub capacity : e.capacity ≡ pool.capacity
  -- it was created with the counts of this many sets of the key
  pub counts : pool.counts ≡ pool_counts k.counts pool.capacity
  -- each live set has the key's counts
  pub sets : (x : LiveSet) → 0 < pool.live x → x.counts ≡ k.counts
  -- this many sets are live. It says only that there is a list, so that there is at most one proof that books and ledger agree
  pub allocated : ∥ HasSize pool.live e.allocated ∥₁
  -- what is allocated and what is known to be free is within the capacity, and all of it if the pool never refused
  pub fits : e.allocated + e.available ≤ pool.capacity
  pub full : pool.refusals ≡ 0 → e.allocated + e.available ≡ pool.capacity

-- the pool of an entry is live, and as the entry says
abbrev pub IsBookedIn : Key → (ℕ → Option Pool) → Entry → Type 0
IsBookedIn k ledger e = (pool : Pool) × (ledger e.pool ≡ Some pool) × IsAsBooked k pool e

-- books and ledger agree
pub record Agree (s : State) : Type 0 where
  -- no two places of the books name one pool
  pub distinct : (k l : Key) (i j : ℕ) (d e : Entry) → slice_get (s.books k).pools i ≡ Some d → slice_get (s.books l).pools j ≡ Some e → d.pool ≡ e.pool → (k ≡ l) × (i ≡ j)
  -- each pool of the books is live, and as its entry says
  pub booked : (k : Key) (i : ℕ) (e : Entry) → slice_get (s.books k).pools i ≡ Some e → IsBookedIn k s.ledger e
  -- a pool's number is greater than that of each older one of its key
  pub rising : (k : Key) → rises (numbers_of (s.books k).pools) ≡ true
