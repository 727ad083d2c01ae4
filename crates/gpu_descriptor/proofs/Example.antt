-- The definitions at one state, worked out by the check. A plain key has six pools: two empty ones at the front, one
-- with a set, an empty one behind it, one with a set, and an empty one at the end. A marked key has two
-- pools, both empty.
use Rattle.gpu_descriptor.proofs.Common.{◌++◌, ◌≡◌, ℕ, true, false, List, [], ◌∷◌, None, Some, if◌then◌else◌, map, replicate, refl, bounded_sets, sets_in_room, State, Item, Key, key_eq, Entry, Bucket, no_pools, numbers_of, next_number, entry_at, gone_of, left_of, with_pools, pool_descriptors}
use Rattle.gpu_descriptor.proofs.Common.{bucket_load, released, binary_digits, gap_digits}

-- ---- the state

-- a sampler and two uniform buffers
abbrev plain : Key
plain = record { counts = 1 ∷ replicate 5 0 ++ 2 ∷ replicate 7 0; marked = false }

-- three sampled images
abbrev marked : Key
marked = record { counts = replicate 2 0 ++ 3 ∷ replicate 11 0; marked = true }

-- a pool without sets, and one with one, by number and name
abbrev unused : ℕ → ℕ → Entry
unused number pool = record { number = number; pool = pool; capacity = 64; allocated = 0; available = 64 }

abbrev used : ℕ → ℕ → Entry
used number pool = record { number = number; pool = pool; capacity = 64; allocated = 1; available = 63 }

abbrev bucket : List Entry → Bucket
bucket pools = record { id = 0; pools = pools }

abbrev plain_pools : Bucket
plain_pools = bucket (unused 7 10 ∷ unused 8 11 ∷ used 9 12 ∷ unused 10 13 ∷ used 11 14 ∷ unused 12 15 ∷ [])

abbrev marked_pools : Bucket
marked_pools = bucket (unused 3 20 ∷ unused 4 21 ∷ [])

-- what goes back changes the books by themselves
abbrev state : State
state = record { books = λ k. if key_eq plain k then plain_pools else if key_eq marked k then marked_pools else no_pools; ledger = λ pool. None }

-- the live sets
abbrev set_102 : Item
set_102 = record { key = plain; id = 0; number = 9; name = 102 }

abbrev set_104 : Item
set_104 = record { key = plain; id = 0; number = 11; name = 104 }

-- ---- the limit on pools

-- a marked pool of 64 sets has 192 descriptors, also where it is empty, and one of a set without descriptors has one
marked_pools_load : bucket_load marked marked_pools ≡ 384
marked_pools_load = refl

bare_load : pool_descriptors (record { counts = replicate 14 0; marked = true }) 64 ≡ 1
bare_load = refl

-- where room is left for 10, the next pool holds 3 sets of three, and none where it is left for 2
cut_size : sets_in_room 10 3 64 ≡ 3
cut_size = refl

no_size : sets_in_room 2 3 64 ≡ 0
no_size = refl

-- a bound of 10 descriptors leaves 3 sets of three, 10 sets without any, and 5 where 5 are still needed. Without a bound the size stays
bounds_shown : map (λ bound. bound 64) (bounded_sets (Some 10) 3 1 ∷ bounded_sets (Some 10) 0 1 ∷ bounded_sets (Some 10) 3 5 ∷ bounded_sets None 3 1 ∷ []) ≡ 3 ∷ 10 ∷ 5 ∷ 64 ∷ []
bounds_shown = refl

-- 65536 descriptors are fewer than a set of 100000, so its pool has what is still needed
great_set : bounded_sets (Some 65536) 100000 1 64 ≡ 1
great_set = refl

-- ---- binary digits

-- 0 has none; a power of two has one more than the number before it
digits_shown : map binary_digits (0 ∷ 1 ∷ 2 ∷ 3 ∷ 4 ∷ 255 ∷ 256 ∷ []) ≡ 0 ∷ 1 ∷ 2 ∷ 2 ∷ 3 ∷ 8 ∷ 9 ∷ []
digits_shown = refl

-- ---- sets go back

-- nothing goes back: nothing changes, also where the front is empty
none_back : (released [] state).books plain ≡ plain_pools
none_back = refl

-- set 102 goes back: its pool is empty then, so the front goes up to the pool that has a set, and the
-- others keep their numbers. The marked key keeps its empty front, and the last pool of the plain key stays
first_back : (let s = released (set_102 ∷ []) state in (s.books plain ≡ bucket (used 11 14 ∷ unused 12 15 ∷ [])) × (s.books marked ≡ marked_pools))
first_back = (refl, refl)

-- set 104 goes back: the front goes that was empty before, and pool 14 stands empty behind a pool with a set
second_back : (released (set_104 ∷ []) state).books plain ≡ bucket (used 9 12 ∷ unused 10 13 ∷ unused 11 14 ∷ unused 12 15 ∷ [])
second_back = refl

-- both go back, also one after the other: all pools are empty then, and the last one stays
both_back : (released (set_104 ∷ set_102 ∷ []) state).books plain ≡ bucket (unused 12 15 ∷ [])
both_back = refl

one_by_one : (released (set_104 ∷ []) (released (set_102 ∷ []) state)).books plain ≡ bucket (unused 12 15 ∷ [])
one_by_one = refl

-- ---- cleaning up, and trimming

-- the front of the plain key goes, and the pools behind it keep their numbers. The marked key loses all its
-- pools, the last one too, and is as one that never came
clean : (with_pools plain_pools (left_of false plain_pools.pools) ≡ bucket (used 9 12 ∷ unused 10 13 ∷ used 11 14 ∷ unused 12 15 ∷ [])) × (with_pools marked_pools (left_of false marked_pools.pools) ≡ no_pools)
clean = (refl, refl)

-- by a trim the pools between and at the end go, too. Then one number is missing, and the next is that of the last pool that went
abbrev trimmed : Bucket
trimmed = with_pools plain_pools (left_of true plain_pools.pools)

trim : (trimmed ≡ bucket (used 9 12 ∷ used 11 14 ∷ [])) × (gone_of true plain_pools.pools ≡ unused 7 10 ∷ unused 8 11 ∷ unused 10 13 ∷ unused 12 15 ∷ [])
trim = (refl, refl)

by_number : (entry_at trimmed 11 ≡ Some (used 11 14)) × (entry_at trimmed 10 ≡ None) × (next_number trimmed ≡ 12)
by_number = (refl, refl, refl)

-- so a search for one of the two may take two comparisons, and none without a gap
gaps_shown : (gap_digits (numbers_of trimmed.pools) ≡ 2) × (gap_digits (numbers_of plain_pools.pools) ≡ 0)
gaps_shown = (refl, refl)
