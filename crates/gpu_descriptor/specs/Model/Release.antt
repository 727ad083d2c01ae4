-- The effect of freeing sets on books and ledger: each pool loses its part, and then empty pools at the front are destroyed.
use Rattle.std.specs.Prelude.{sum_by, ℕ, ◌+◌, ◌-◌, Bool, false, nat_lt, ◌==◌, ◌&&◌, if◌then◌else◌, min, List, length, map, drop, take, count_by, None, option_map}
use Rattle.std.specs.Option.{option_map_or}
use Rattle.std.specs.List.{list_any, prefix_len}
use Rattle.gpu_descriptor_types.specs.Ledger.{Pool, Counters}
use Rattle.gpu_descriptor_types.specs.Multiset.{LiveSet, set_eq}
use Rattle.gpu_descriptor.specs.declared.bucket.DescriptorPool.{DescriptorPool}
use Rattle.gpu_descriptor.specs.Model.Books.{Key, key_eq, Entry, Bucket, entry_at}
use Rattle.gpu_descriptor.specs.Model.Agreement.{State, Item, set_of}

-- whether a set is from a pool
abbrev pub lies_in : (Key → Bucket) → ℕ → Item → Bool
lies_in books pool t = option_map_or (λ e. e.pool == pool) (entry_at (books t.key) t.number) false

-- the entry after n sets are freed
abbrev pub entry_less : ℕ → Entry → Entry
entry_less n e = record e { allocated = e.allocated - n; available = e.available + n }

-- the bucket after back n sets of each pool n are freed
abbrev pub bucket_less : (ℕ → ℕ) → Bucket → Bucket
bucket_less back b = record b { pools = map (λ e. entry_less (back e.pool) e) b.pools }

-- the pool after this many of each set are freed
abbrev pub pool_less : (LiveSet → ℕ) → Pool → Pool
pool_less back p = record p { live = λ x. p.live x - back x }

-- each pool loses its part of the sets
abbrev pub given_back : List Item → State → State
given_back m s = record {
  books = λ k. bucket_less (λ pool. count_by (lies_in s.books pool) m) (s.books k);
  ledger = λ pool. option_map (pool_less (λ x. count_by (λ t. lies_in s.books pool t && set_eq (set_of t) x) m)) (s.ledger pool);
}

-- whether no set is allocated from it
abbrev pub is_empty : Entry → Bool
is_empty e = e.allocated == 0

-- whether one is
abbrev pub has_sets : {X : Type 0} → DescriptorPool X → Bool
has_sets e = nat_lt 0 e.allocated

-- how many empty pools at the front may be destroyed, if `keep` pools are to stay
abbrev pub front_but : ℕ → Bucket → ℕ
front_but keep b = min (prefix_len is_empty b.pools) (length b.pools - keep)

-- the same if the last pool stays
abbrev pub spent_front : Bucket → ℕ
spent_front b = front_but 1 b

-- the bucket without its first n pools
abbrev pub without_front : ℕ → Bucket → Bucket
without_front n b = record b { pools = drop n b.pools }

-- whether one of the pools has the name
abbrev pub are_named : List Entry → ℕ → Bool
are_named pools pool = list_any (λ e. e.pool == pool) pools

-- the empty fronts of the keys of the list are destroyed, in the books and in the ledger
abbrev pub fronts_gone : List Item → State → State
fronts_gone m s = record {
  books = λ k. let b = s.books k in if list_any (λ t. key_eq t.key k) m then without_front (spent_front b) b else b;
  ledger = λ pool. if list_any (λ t. let b = s.books t.key in are_named (take (spent_front b) b.pools) pool) m then None else s.ledger pool;
}

-- the effect of freeing the sets of the list
abbrev pub released : List Item → State → State
released m s = fronts_gone m (given_back m s)

-- how many pools of these keys are destroyed when the list is freed
abbrev pub pools_gone : List Key → List Item → State → ℕ
pools_gone keys m s = sum_by (λ k. if list_any (λ t. key_eq t.key k) m then spent_front ((given_back m s).books k) else 0) keys

-- the counters after n more release calls
abbrev pub more_released : ℕ → Counters → Counters
more_released n c = record c { released = c.released + n }

-- the counters after n more destroyed pools
abbrev pub more_destroyed : ℕ → Counters → Counters
more_destroyed n c = record c { destroyed = c.destroyed + n }
