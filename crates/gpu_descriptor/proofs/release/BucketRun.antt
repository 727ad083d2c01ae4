-- Giving one run back to a stored bucket.
-- For `release_sets`. names are those of the run's sets, ls the live sets that left the pool q, whose entry e is at place i.
use Rattle.gpu_descriptor.proofs.Common.{entry_at, greatest_pool_size, ◌≡◌, ℕ, zero, suc, ◌+◌, ◌-◌, ◌<◌, ◌≤◌, List, [], ◌∷◌, length, map, sum_by, set, get_or, slice_get, Option, Some, option_map, refl, ap, ◌∙◌, arith, IfSome, slice_get-map, slice_get_read, length-map, rules}
use Rattle.gpu_descriptor.proofs.Common.{Pool, live_sets, LiveSet, times, AreIn, DescriptorPool, live_in, IsAsBooked, Key, Entry, Bucket, ∥∥₁_elim, ∥∥₁_map, props, common_steps, AreBookedIn, IsTakenAt, entry_less, pool_less, entry_of}
use Rattle.gpu_descriptor.proofs.foreign.LedgerPools.{taken_from, with_pool_same, with_pool_other, size_minus, only_these}
use Rattle.gpu_descriptor.proofs.request.StateAgrees.{changed_booked}

-- a place that was read
pub read_at : {P : Type 0} (name : P → ℕ) (items : List (DescriptorPool P)) (i : ℕ) (q : DescriptorPool P) → i < length items → q ≡ get_or items i q → slice_get (map (entry_of name) items) i ≡ Some (entry_of name q)
read_at name items i q lt is = slice_get-map (entry_of name) items i ∙ ap (option_map (entry_of name)) (slice_get_read items (length items) i q refl lt is)

-- the place after the counts moved
pub changed_at : {P : Type 0} (name : P → ℕ) (items : List (DescriptorPool P)) (i : ℕ) (q : DescriptorPool P) (raw : P) (m n : ℕ) → name raw ≡ name q.pool → m ≡ n
    → map (entry_of name) (set items i (record { pool = raw; number = q.number; capacity = q.capacity; allocated = q.allocated - m; available = q.available + m })) ≡ set (map (entry_of name) items) i (entry_less n (entry_of name q))
changed_at name [] i q raw m n same e = refl
changed_at name (x ∷ items) zero q raw m n same e = λ j. record { number = q.number; pool = same j; capacity = q.capacity; allocated = q.allocated - e j; available = q.available + e j } ∷ map (entry_of name) items
changed_at name (x ∷ items) (suc i) q raw m n same e = ap (λ (l : List Entry). entry_of name x ∷ l) (changed_at name items i q raw m n same e)

-- what a run may take of the place
pub record CanTake (k : Key) (names : List ℕ) (pools : ℕ → Option Pool) (e : Entry) : Type 0 where
  pub fits : length names ≤ e.allocated
  pub live : (x : LiveSet) → times (live_sets k.counts names) x ≤ live_in pools e.pool x

pub can_take : (k : Key) (number : ℕ) (names : List ℕ) (b : Bucket) (pools : ℕ → Option Pool) (e : Entry) → IsTakenAt k number names b pools → entry_at b number ≡ Some e → CanTake k names pools e
can_take k number names b pools e t at = grind arith

-- ls are sets of these names, each live as often as it stands there
pub record AreTaken (names : List ℕ) (live : LiveSet → ℕ) (ls : List LiveSet) : Type 0 where
  pub are : map (λ x. x.name) ls ≡ names
  pub within : (x : LiveSet) → times ls x ≤ live x

-- the sets of which a release speaks, in a pool that is live
pub are_taken :
    (k : Key) (b : Bucket) (pools : ℕ → Option Pool) (i : ℕ) (e : Entry) (names : List ℕ) (ls : List LiveSet)
    → AreBookedIn k pools b.pools → slice_get b.pools i ≡ Some e → map (λ x. x.name) ls ≡ names
    → IfSome (pools e.pool) (λ pool. AreIn ls pool.live) → AreTaken names (live_in pools e.pool) ls
are_taken k b pools i e names ls stored at are live = search rules

-- the sets that a call took of the place are the key's sets of their names
pub took_these : (k : Key) (b : Bucket) (pools : ℕ → Option Pool) (i : ℕ) (e : Entry) (names : List ℕ) (ls : List LiveSet) → AreBookedIn k pools b.pools → slice_get b.pools i ≡ Some e → AreTaken names (live_in pools e.pool) ls → ls ≡ live_sets k.counts names
took_these k b pools i e names ls stored at are = only_these k names ls are.are (λ x some.
    let booked = stored.each i e at in
    let live : live_in pools e.pool x ≡ booked.0.live x = rw booked.1 refl in
    grind (arith, common_steps))

-- the bucket and the ledger after one run keep agreement
pub stored_after :
    (k : Key) (es : List Entry) (pools : ℕ → Option Pool) (i : ℕ) (e : Entry) (ls : List LiveSet)
    → AreBookedIn k pools es → slice_get es i ≡ Some e → ((x : LiveSet) → times ls x ≤ live_in pools e.pool x)
    → AreBookedIn k (taken_from pools e.pool ls) (set es i (entry_less (length ls) e))
stored_after k es pools i e ls stored at within =
    let y = entry_less (length ls) e in
    let booked = stored.each i e at in
    let pool = booked.0 in
    let live : (x : LiveSet) → times ls x ≤ pool.live x = λ x. (let is : live_in pools e.pool x ≡ pool.live x = rw booked.1 refl in let less = within x in omega arith) in
    let bound = booked.2.fits in
    let fits : length ls ≤ e.allocated = ∥∥₁_elim booked.2.allocated (search props) (λ size. (size_minus pool.live e.allocated ls size live).0) in
    let is : IsAsBooked k (pool_less (times ls) pool) y = record {
      flags = booked.2.flags;
      at_least = booked.2.at_least;
      small = booked.2.small;
      capacity = booked.2.capacity;
      counts = booked.2.counts;
      sets = λ x some. booked.2.sets x (omega arith);
      allocated = ∥∥₁_map booked.2.allocated (λ size. (size_minus pool.live e.allocated ls size live).1);
      fits = omega arith;
      full = λ none. (let whole = booked.2.full none in omega arith);
    } in
    let to = option_map (pool_less (times ls)) (pools e.pool) in
    changed_booked k es pools (taken_from pools e.pool ls) i e y (pool_less (times ls) pool) stored at refl
    (with_pool_same pools e.pool to ∙ ap (option_map (pool_less (times ls))) booked.1) (λ q apart. with_pool_other pools e.pool q to apart) is

pub place_fits : (k : Key) (b : Bucket) (pools : ℕ → Option Pool) (i : ℕ) (e : Entry) → AreBookedIn k pools b.pools → slice_get b.pools i ≡ Some e → e.allocated + e.available ≤ greatest_pool_size
place_fits k b pools i e stored at = search rules

pub length_names : (k : Key) (names : List ℕ) → length (live_sets k.counts names) ≡ length names
length_names k names = length-map names (λ (name : ℕ). record { name = name; counts = k.counts })

abbrev allocated_from : {P : Type 0} → List (DescriptorPool P) → ℕ
allocated_from pools = sum_by (λ p. p.allocated) pools

-- the sets that go back are no longer counted
pub total_less : {P : Type 0} (items : List (DescriptorPool P)) (i : ℕ) (q : DescriptorPool P) (raw : P) (m : ℕ) → i < length items → q ≡ get_or items i q → m ≤ q.allocated
    → (m ≤ allocated_from items) × (allocated_from (set items i (record { pool = raw; number = q.number; capacity = q.capacity; allocated = q.allocated - m; available = q.available + m })) + m ≡ allocated_from items)
total_less {P} items i q raw m lt is fits = grind (arith, common_steps)
