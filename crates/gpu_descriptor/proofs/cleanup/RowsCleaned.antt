-- Cleaning up and trimming, row by row.
-- For `sweep`, whose loop *clears* the rows of the table one after another: pools of a row that go are destroyed. Then the rows
-- without pools are dropped. es, now and fs are the map's entries before, between and after. everywhere is true for a trim.
use Rattle.gpu_descriptor.proofs.Common.{◌≡◌, ℕ, zero, suc, ◌+◌, ◌<◌, ◌≤◌, Bool, true, false, not, ◌==◌, List, [], ◌∷◌, ◌++◌, length, map, filter, set, take, drop, sum_by, slice_get, Option, Some, None, inl, inr, refl, sym, ap, subst, ◌∙◌, arith, eq-eqb, ne_eqb, if◌then◌else◌, fun_ext}
use Rattle.gpu_descriptor.proofs.Common.{list_any, cases_Bool, false_from_ne_true, append-nil, drop_all, length-map, take_all, sum_by-cons, sum_by_more, get_or_from_slice_get, slice_get_within, Pool, Ledger, BucketKey, DescriptorPool, DescriptorBucket, State, Agree, Key, key_eq}
use Rattle.gpu_descriptor.proofs.Common.{Bucket, Entry, no_pools, books_of, HasDistinctKeys, key_of, Allocations, common_steps, list_any_more, AreBookedIn, has_pools, ledger_but, more_destroyed, LosesEmpty, are_named, gone_of, left_of, pools_lost, with_pools, named_row, state_of, row_of}
use Rattle.gpu_descriptor.proofs.Common.{bucket_of, IsConsistent, none-some, same_Some, true≢false}
use Rattle.indexmap.specs.Layout.{set_value_at}
use Rattle.gpu_descriptor.specs.Caller.States.{keys_of}
use Rattle.gpu_descriptor.proofs.lists.AtPlaces.{found_before, none_at}
use Rattle.gpu_descriptor.proofs.table.Exact.{key_exact}
use Rattle.gpu_descriptor.proofs.cleanup.Splitting.{gone_at, named_at, no_pools_left, split}
use Rattle.gpu_descriptor.proofs.foreign.LedgerPools.{destroyed_both}
use Rattle.gpu_descriptor.proofs.sums.Loads.{set_descriptors-none, rows_load, rows_out, rows_pool_load, stored_load_in, sum_put}
use Rattle.gpu_descriptor.proofs.table.RowAt.{Rows, row_books, row_there, rows_set}
use Rattle.gpu_descriptor.proofs.table.TableBooks.{rows_in, keys_are}
use Rattle.gpu_descriptor.proofs.table.Tables.{key_eq_symm, none_behind}
use Rattle.gpu_descriptor.proofs.request.StateAgrees.{booked_of}

-- ---- rows with distinct keys

-- rows at two places have different keys
apart : (rows : Rows) (j i : ℕ) (r s : Key × Bucket) → HasDistinctKeys rows → j < i → slice_get rows j ≡ Some r → slice_get rows i ≡ Some s → r.0 ≡ s.0 → ⊥
apart [] j i r s h lt at at' same = none-some r at
apart (x ∷ rows) j zero r s h lt at at' same = omega arith
apart (x ∷ rows) zero (suc i) r s h lt at at' same = grind (arith, key_exact, none_at)
apart (x ∷ rows) (suc j) (suc i) r s h lt at at' same = apart rows j i r s h.1 (omega arith) at at' same

-- a row's key has no other
absent_row : (r : Key × Bucket) (rows : Rows) (k : Key) → HasDistinctKeys (r ∷ rows) → key_eq r.0 k ≡ true → books_of rows k ≡ no_pools
absent_row r rows k d at = none_behind r rows d k at

abbrev pub has_row : Key × Bucket → Bool
has_row r = not (length r.1.pools == 0)

pub rows_left : {P : Type 0} (name : P → ℕ) (es : List (BucketKey × DescriptorBucket P)) → rows_in name (filter (λ e. has_pools e.1) es) ≡ filter has_row (rows_in name es)
rows_left name [] = refl
rows_left name (e ∷ es) = grind (arith, length-map, (rows_left name es))

module _ (everywhere : Bool) where
  -- whether the pool of this name goes from a bucket; the bucket that is left; and a row with what is left
  abbrev pub goes : Bucket → ℕ → Bool
  goes b p = are_named (gone_of everywhere b.pools) p

  abbrev pub less : Bucket → Bucket
  less b = record b { pools = left_of everywhere b.pools }

  abbrev pub cleared_row : Key × Bucket → Key × Bucket
  cleared_row r = (r.0, less r.1)

  -- the first n rows are cleared
  abbrev pub cleared : ℕ → Rows → Rows
  cleared n rows = map cleared_row (take n rows) ++ drop n rows

  -- whether the pool goes from one of these rows; the ledger's pools without those that do
  abbrev pub gone : Rows → ℕ → Bool
  gone rows p = list_any (λ r. goes r.1 p) rows

  abbrev pub pools_less : Rows → (ℕ → Option Pool) → ℕ → Option Pool
  pools_less rows pools p = if gone rows p then None else pools p

  -- the ledger after these rows' pools that go were destroyed
  abbrev pub ledger_less : Rows → Ledger → Ledger
  ledger_less rows l = record { pools = pools_less rows l.pools; counters = more_destroyed (sum_by (λ r. length (gone_of everywhere r.1.pools)) rows) l.counters }

  -- ---- one row more

  -- the first i steps leave row i, and the next one clears it
  cleared_at : (rows : Rows) (i : ℕ) → slice_get (cleared i rows) i ≡ slice_get rows i
  cleared_at [] zero = refl
  cleared_at [] (suc i) = refl
  cleared_at (x ∷ rows) zero = refl
  cleared_at (x ∷ rows) (suc i) = cleared_at rows i

  cleared_set : (rows : Rows) (i : ℕ) (r : Key × Bucket) → slice_get rows i ≡ Some r → set (cleared i rows) i (cleared_row r) ≡ cleared (suc i) rows
  cleared_set [] i r at = absurd (none-some r at)
  cleared_set (x ∷ rows) zero r at = (let eq : x ≡ r = same_Some x r at in ap (λ (y : Key × Bucket). cleared_row y ∷ rows) (sym eq))
  cleared_set (x ∷ rows) (suc i) r at = ap (λ (l : Rows). cleared_row x ∷ l) (cleared_set rows i r at)

  module _ {P : Type 0} (name : P → ℕ) where
    -- the row that is next stands there as it did
    pub next : (i : ℕ) (es : List (BucketKey × DescriptorBucket P)) (rows : Rows) (k : BucketKey) (v : DescriptorBucket P) → rows_in name es ≡ cleared i rows → slice_get es i ≡ Some (k, v) → slice_get rows i ≡ Some (key_of k, bucket_of name v)
    next i es rows k v h at = sym (cleared_at rows i) ∙ ap (λ (l : Rows). slice_get l i) (sym h) ∙ row_there name es i k v at

    -- one step of the loop: what it leaves of the rows, and of the ledger
    pub step_rows : (i : ℕ) (es : List (BucketKey × DescriptorBucket P)) (rows : Rows) (k : BucketKey) (v w : DescriptorBucket P) → rows_in name es ≡ cleared i rows → slice_get es i ≡ Some (k, v) → bucket_of name w ≡ less (bucket_of name v) → rows_in name (set_value_at es i w) ≡ cleared (suc i) rows
    step_rows i es rows k v w h at new =
        rows_set name es i k v w at ∙ ap (λ (b : Bucket). set (rows_in name es) i (key_of k, b)) new
        ∙ ap (λ (l : Rows). set l i (cleared_row (key_of k, bucket_of name v))) h ∙ cleared_set rows i (key_of k, bucket_of name v) (next i es rows k v h at)

  -- here `now` is the ledger before the step
  pub step_less : (i : ℕ) (rows : Rows) (r : Key × Bucket) (l now after : Ledger) → slice_get rows i ≡ Some r → now ≡ ledger_less (take i rows) l → after ≡ ledger_but (gone_of everywhere r.1.pools) now → after ≡ ledger_less (take (i + 1) rows) l
  step_less i rows r l now after at was done =
      let within = slice_get_within rows i r at in
      let read = get_or_from_slice_get rows i r r at in
      grind (arith, common_steps, destroyed_both, fun_ext, list_any_more, sum_by_more)

  -- the next row stands in the ledger still
  pub next_stored : (rows : Rows) (pools : ℕ → Option Pool) (i : ℕ) (r : Key × Bucket) → HasDistinctKeys rows → Agree (record { books = books_of rows; ledger = pools }) → slice_get rows i ≡ Some r → AreBookedIn r.0 (pools_less (take i rows) pools) r.1.pools
  next_stored rows pools i r distinct agree at =
      let s : State = record { books = books_of rows; ledger = pools } in
      let own : books_of rows r.0 ≡ r.1 = row_books rows i r distinct at in
      let was : AreBookedIn r.0 pools r.1.pools = subst (λ (b : Bucket). AreBookedIn r.0 pools b.pools) own (booked_of s r.0 agree) in
      record {
        distinct = was.distinct;
        each = λ j e here.
            let booked = was.each j e here in
            let stays : gone (take i rows) e.pool ≡ false = false_from_ne_true (gone (take i rows) e.pool) (λ h.
            let found = found_before (λ (x : Key × Bucket). goes x.1 e.pool) rows i h in
            let q = found.1 in
            let other : books_of rows q.0 ≡ q.1 = row_books rows found.0 q distinct found.3 in
            let inside = named_at (gone_of everywhere q.1.pools) e.pool found.4 in
            let there = gone_at q.1.pools (left_of everywhere q.1.pools) (gone_of everywhere q.1.pools) (split everywhere q.1.pools) inside.0 inside.1 inside.2 in
            let same = (agree.distinct q.0 r.0 there.0 j inside.1 e (ap (λ (x : Bucket). slice_get x.pools there.0) other ∙ there.1) (ap (λ (x : Bucket). slice_get x.pools j) own ∙ here) inside.3).0 in
            apart rows found.0 i q r distinct found.2 found.3 at same) in
            grind (arith, common_steps);
      }

  nothing_goes : (p : ℕ) → goes no_pools p ≡ false
  nothing_goes p = grind (arith, common_steps)

  -- what goes from the books of a key goes from a row
  any_gone : (rows : Rows) (k : Key) (p : ℕ) → goes (books_of rows k) p ≡ true → gone rows p ≡ true
  any_gone [] k p h = absurd (true≢false (sym h ∙ nothing_goes p))
  any_gone (r ∷ rows) k p h = grind (arith, (any_gone rows k p))

  -- what is left of a bucket that is cleared
  left_some : (b : Bucket) (es : List Entry) → (length es == 0) ≡ false → ◌≡◌ {A = Bucket} (record b { pools = es }) (with_pools b es)
  left_some b [] more = absurd (true≢false (sym (eq-eqb 0 0 refl) ∙ more))
  left_some b (e ∷ es) more = refl

  left_none : (b : Bucket) (es : List Entry) → (length es == 0) ≡ true → with_pools b es ≡ no_pools
  left_none b [] none = refl
  left_none b (e ∷ es) none = absurd (true≢false (sym none ∙ ne_eqb (length (e ∷ es)) 0 (λ z. omega arith)))

  -- ---- all rows

  pub all_cleared : (n : ℕ) (rows : Rows) → length rows ≤ n → cleared n rows ≡ map cleared_row rows
  all_cleared n rows le = ap (λ (l : Rows). map cleared_row (take n rows) ++ l) (drop_all n rows le) ∙ append-nil (map cleared_row (take n rows)) ∙ ap (map cleared_row) (take_all n rows le)

  -- a key of the cleared rows has the pools that are left of it
  left_books : (rows : Rows) (k : Key) → HasDistinctKeys rows → books_of (filter has_row (map cleared_row rows)) k ≡ with_pools (books_of rows k) (left_of everywhere (books_of rows k).pools)
  left_books [] k d = sym (ap (with_pools no_pools) (no_pools_left everywhere))
  left_books (r ∷ rows) k d = elim (cases_Bool (length (left_of everywhere r.1.pools) == 0)) [
    | inl none ↦ rw none (left_books rows k d.1 ∙ elim (cases_Bool (key_eq r.0 k)) [
      | inl at ↦ (
          let gone_row : books_of rows k ≡ no_pools = absent_row r rows k d at in
          rw at (ap (λ (b : Bucket). with_pools b (left_of everywhere b.pools)) gone_row ∙ ap (with_pools no_pools) (no_pools_left everywhere) ∙ sym (left_none r.1 (left_of everywhere r.1.pools) none)))
      | inr other ↦ rw other refl
    ])
    | inr some ↦ rw some (elim (cases_Bool (key_eq r.0 k)) [
      | inl at ↦ rw at (left_some r.1 (left_of everywhere r.1.pools) some)
      | inr other ↦ rw other (left_books rows k d.1)
    ])
  ]

  module _ {P : Type 0} (name : P → ℕ) where
    -- so each key loses its empty pools, and nothing else changes
    pub is_cleaned : (es : List (BucketKey × DescriptorBucket P)) (rows : Rows) (pools : ℕ → Option Pool) → HasDistinctKeys rows → rows_in name es ≡ map cleared_row rows
        → LosesEmpty everywhere (record { books = books_of rows; ledger = pools }) (record { books = books_of (rows_in name (filter (λ e. has_pools e.1) es)); ledger = pools_less rows pools })
    is_cleaned es rows pools d h = record {
      books = λ k. ap (λ (l : Rows). books_of l k) (rows_left name es ∙ ap (filter has_row) h) ∙ left_books rows k d;
      gone = λ k p here. rw (any_gone rows k p here) refl;
      kept = λ p no_key. (
          let stays : gone rows p ≡ false = false_from_ne_true (gone rows p) (λ hit.
          let found = found_before (λ (x : Key × Bucket). goes x.1 p) rows (length rows) (ap (λ (l : Rows). gone l p) (take_all (length rows) rows (omega arith)) ∙ hit) in
          let own = row_books rows found.0 found.1 d found.3 in
          true≢false (sym (ap (λ (b : Bucket). goes b p) own ∙ found.4) ∙ no_key found.1.0)) in
          rw stays refl);
    }

  -- ---- how many pools go

  -- a row that comes before is of another key
  skip_row : (r : Key × Bucket) (rows qs : Rows) → list_any (λ other. key_eq other.0 r.0) qs ≡ false → sum_by (λ k. length (gone_of everywhere (books_of (r ∷ rows) k).pools)) (map (λ q. q.0) qs) ≡ sum_by (λ k. length (gone_of everywhere (books_of rows k).pools)) (map (λ q. q.0) qs)
  skip_row r rows [] none = refl
  skip_row r rows (q ∷ qs) none = grind (arith, common_steps, key_eq_symm, (skip_row r rows qs))

  -- summed over the keys or over the rows, as many pools go
  by_keys : (rows : Rows) → HasDistinctKeys rows → sum_by (λ k. length (gone_of everywhere (books_of rows k).pools)) (map (λ r. r.0) rows) ≡ sum_by (λ r. length (gone_of everywhere r.1.pools)) rows
  by_keys [] d = refl
  by_keys (r ∷ rows) d =
      let skip = skip_row r rows rows d.0 in
      grind (arith, common_steps, key_exact, sum_by-cons, (by_keys rows d.1))

  module _ {P : Type 0} (name : P → ℕ) where
    -- of an allocator with this table: its state, its agreement, the whole sweep, after which the ledger is k, and how many pools
    -- that destroys
    state_is : (a : Allocations P) (l : Ledger) (es : List (BucketKey × DescriptorBucket P)) → a.table ≡ map row_of es → state_of name a l ≡ record { books = books_of (rows_in name es); ledger = l.pools }
    state_is a l es is = (let rows = ap (map (named_row name)) is in λ i. record { books = books_of (rows i); ledger = l.pools })

    pub agree_is : (a : Allocations P) (l : Ledger) (es : List (BucketKey × DescriptorBucket P)) → a.table ≡ map row_of es → Agree (state_of name a l) → Agree (record { books = books_of (rows_in name es); ledger = l.pools })
    agree_is a l es is agree = subst Agree (state_is a l es is) agree

    pub whole_clean :
        (a : Allocations P) (l k : Ledger) (es now fs : List (BucketKey × DescriptorBucket P)) (limit : ℕ)
        → a.table ≡ map row_of es → HasDistinctKeys (rows_in name es)
        → rows_in name now ≡ map cleared_row (rows_in name es) → k ≡ ledger_less (rows_in name es) l
        → fs ≡ filter (λ e. has_pools e.1) now
        → LosesEmpty everywhere (state_of name a l) (state_of name (record { limit = limit; bound = None; ids = (0, 0); table = map row_of fs; looks = 0; comparisons = 0 }) k)
    whole_clean a l k es now fs limit is distinct rows pools kept = grind (arith, common_steps, state_is, is_cleaned)

    pub first_keys : (es : List (BucketKey × DescriptorBucket P)) → map (λ (r : Key × Bucket). r.0) (rows_in name es) ≡ map (λ e. key_of e.0) es
    first_keys [] = refl
    first_keys (e ∷ es) = ap (λ (l : List Key). key_of e.0 ∷ l) (first_keys es)

    pub whole_count : (a : Allocations P) (l k : Ledger) (es : List (BucketKey × DescriptorBucket P)) → a.table ≡ map row_of es → HasDistinctKeys (rows_in name es) → k ≡ ledger_less (rows_in name es) l
        → k.counters ≡ more_destroyed (pools_lost everywhere (keys_of a) (state_of name a l)) l.counters
    whole_count a l k es is distinct all =
        let keys : keys_of a ≡ map (λ (r : Key × Bucket). r.0) (rows_in name es) = keys_are a es is ∙ sym (first_keys es) in
        let sum = (λ i. pools_lost everywhere (keys i) (state_is a l es is i)) ∙ by_keys (rows_in name es) distinct in
        ap (λ (m : Ledger). m.counters) all ∙ ap (λ (m : ℕ). more_destroyed m l.counters) (sym sum)

-- ---- the running totals stay right

-- a sum over those that count
pub sum_filter : {A : Type 0} (f : A → ℕ) (p : A → Bool) → ((x : A) → p x ≡ false → f x ≡ 0) → (xs : List A) → sum_by f (filter p xs) ≡ sum_by f xs
sum_filter f p nothing [] = refl
sum_filter f p nothing (x ∷ xs) = grind (arith, sum_by-cons, (sum_filter f p nothing xs))

module _ {P : Type 0} where
  -- a key without pools has no sets out, and takes no room
  empty_bucket : (b : DescriptorBucket P) → has_pools b ≡ false → b.pools.items ≡ []
  empty_bucket b h = grind (arith, common_steps)

  none_out : (b : DescriptorBucket P) → has_pools b ≡ false → b.total ≡ 0
  none_out b h = b.counted ∙ ap (sum_by (λ (p : DescriptorPool P). p.allocated)) (empty_bucket b h)

  -- a bucket lost empty pools: the totals are right if the room grew by what they had
  pub counted_put :
      (limit marked room left out : ℕ) (es : List (BucketKey × DescriptorBucket P)) (i : ℕ) (k : BucketKey)
      (v w : DescriptorBucket P)
      → slice_get es i ≡ Some (k, v) → w.total ≡ v.total → left + stored_load_in (k, w) ≡ room + stored_load_in (k, v)
      → IsConsistent limit marked room out es → IsConsistent limit marked left out (set_value_at es i w)
  counted_put limit marked room left out es i k v w at same moved counted = grind (arith, rows_load, rows_out, rows_pool_load, sum_put)

  -- dropping the keys without pools changes no total
  pub counted_filter : (limit marked room out : ℕ) (es fs : List (BucketKey × DescriptorBucket P)) → fs ≡ filter (λ e. has_pools e.1) es → IsConsistent limit marked room out es → IsConsistent limit marked room out fs
  counted_filter limit marked room out es fs kept counted = grind (arith, common_steps, set_descriptors-none, rows_load, rows_out, rows_pool_load, stored_load_in, sum_filter)
