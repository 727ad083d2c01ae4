-- One run, x and xs, through the row at a place of the table, which it lends to `release_run`: its bucket is bucket before, w after.
use Rattle.gpu_descriptor.proofs.Common.{◌≡◌, ◌<◌, ℕ, List, [], ◌∷◌, map, None, length, refl, sym, ap, subst, ◌∙◌, fun_ext, IsDistinct, Ledger, after_release, live_sets, BucketKey, DescriptorSet, DescriptorBucket, Agree, AreOutstanding, Key, BucketOf, Item, count_of, true, arith, take, front_but}
use Rattle.gpu_descriptor.proofs.Common.{key_eq, Bucket, HasDistinctKeys, Allocations, AreBookedIn, IsTakenAt, Releases, names_of, bucket_but_front, ledger_but_front, more_destroyed, more_released, released, pools_gone, search_digits, items_of, named_row}
use Rattle.gpu_descriptor.proofs.Common.{state_of, table_of, AllByRecursion, row_of, bucket_of, stored_keys}
use Rattle.indexmap.specs.Layout.{set_value_at}
use Rattle.std.proofs.lemmas.List.{length-take}
use Rattle.gpu_descriptor.specs.Caller.States.{keys_of}
use Rattle.gpu_descriptor.specs.Inner.RunSteps.{lies_at}
use Rattle.gpu_descriptor.proofs.foreign.LedgerPools.{taken_from, release_pools}
use Rattle.gpu_descriptor.proofs.table.RowAt.{IsAt, present, written}
use Rattle.gpu_descriptor.proofs.table.TableBooks.{put_books}
use Rattle.gpu_descriptor.proofs.request.Requested.{books_at, rows_distinct}
use Rattle.gpu_descriptor.proofs.request.Rollback.{keys_table, only_key}
use Rattle.gpu_descriptor.proofs.request.StateAgrees.{booked_of}
use Rattle.gpu_descriptor.proofs.release.WholeRun.{run_less, trimmed_pools, taken_of, whole_run, gone_run, is_run, lies_own}

module _ {P S : Type 0} (name : P → ℕ) (set_name : S → ℕ) (a : Allocations P) (l : Ledger) (es : List (BucketKey × DescriptorBucket P)) (is : a.table ≡ map row_of es) (distinct : IsDistinct key_eq (stored_keys es)) (agree : Agree (state_of name a l)) (x : DescriptorSet S)
    {i : ℕ} {bucket : DescriptorBucket P} (h : IsAt x.key.is es i bucket) where
  at_key : (state_of name a l).books x.key.is ≡ bucket_of name bucket
  at_key = books_at a es is name l x.key.is ∙ present name distinct h

  -- the bucket is the key's in the books: as booked, with the same search digits, and the run is in it
  pub row_stored : AreBookedIn x.key.is l.pools (bucket_of name bucket).pools
  row_stored = subst (λ (b : Bucket). AreBookedIn x.key.is l.pools b.pools) at_key (booked_of (state_of name a l) x.key.is agree)

  pub row_open : search_digits ((state_of name a l).books x.key.is) ≡ search_digits (bucket_of name bucket)
  row_open = ap search_digits at_key

  pub row_taken : (xs : List (DescriptorSet S)) → AllByRecursion (λ y. lies_at x.key.is x.number y ≡ true) xs → AreOutstanding (items_of set_name (x ∷ xs)) (state_of name a l) → IsTakenAt x.key.is x.number (names_of set_name (x ∷ xs)) (bucket_of name bucket) l.pools
  row_taken xs have out = subst (λ b. IsTakenAt x.key.is x.number (names_of set_name (x ∷ xs)) b l.pools) at_key (taken_of set_name (state_of name a l) agree x xs have out)

  -- the run went back, and then the front went
  module _ (xs : List (DescriptorSet S)) (have : AllByRecursion (λ y. lies_at x.key.is x.number y ≡ true) xs) (w : DescriptorBucket P) (after : Ledger) (between : Bucket) (during : Ledger) (back : Releases x.key.is x.number (names_of set_name (x ∷ xs)) (bucket_of name bucket) l between during)
      (front : bucket_of name w ≡ bucket_but_front 1 between) (gone : after ≡ ledger_but_front 1 between during) where
    here : Releases x.key.is x.number (names_of set_name (x ∷ xs)) ((state_of name a l).books x.key.is) l between during
    here = subst (λ b. Releases x.key.is x.number (names_of set_name (x ∷ xs)) b l between during) (sym at_key) back

    ledger : after ≡ ledger_but_front 1 (run_less (length (names_of set_name (x ∷ xs))) here.entry ((state_of name a l).books x.key.is)) (after_release here.entry.pool (live_sets x.key.is.counts (names_of set_name (x ∷ xs))) l)
    ledger = gone ∙ (λ i. ledger_but_front 1 (here.books i) (here.ledger i))

    -- the state is released of the run's sets, and the counters rose so
    pub row_ran : (limit : ℕ) → state_of name (record { limit = limit; bound = None; ids = (0, 0); table = map row_of (set_value_at es i w); looks = 0; comparisons = 0 }) after ≡ released (items_of set_name (x ∷ xs)) (state_of name a l)
    row_ran limit =
        let new : Allocations P = record { limit = limit; bound = None; ids = (0, 0); table = map row_of (set_value_at es i w); looks = 0; comparisons = 0 } in
        let s = state_of name a l in
        let k = x.key.is in
        let books : (state_of name new after).books ≡ put_books s.books k (bucket_of name w) =
        fun_ext (written name distinct h w)
        ∙ (λ j. put_books (λ (q : Key). sym (books_at a es is name l q) j) k (bucket_of name w)) in
        let b = run_less (length (names_of set_name (x ∷ xs))) here.entry (s.books k) in
        let pools : after.pools ≡ trimmed_pools b (taken_from l.pools here.entry.pool (live_sets k.counts (names_of set_name (x ∷ xs)))) = ap (λ (m : Ledger). m.pools) ledger ∙ ap (trimmed_pools b) (release_pools here.entry.pool (live_sets k.counts (names_of set_name (x ∷ xs))) l) in
        let left : state_of name new after ≡ record { books = put_books s.books k (bucket_of name w); ledger = after.pools } = λ i. record { books = books i; ledger = after.pools } in
        left ∙ whole_run set_name s agree x xs have here.entry here.at (bucket_of name w) after.pools (front ∙ ap (bucket_but_front 1) here.books) pools

    pub row_counted : after.counters ≡ more_destroyed (pools_gone (keys_of a) (items_of set_name (x ∷ xs)) (state_of name a l)) (more_released 1 l.counters)
    row_counted =
        let s = state_of name a l in
        let m = items_of set_name (x ∷ xs) in
        let rows : HasDistinctKeys (table_of name a) = subst (λ (t : List (Key × BucketOf P)). HasDistinctKeys (map (named_row name) t)) (sym is) (rows_distinct name es distinct) in
        let own : (u : Item) → 0 < count_of u m → u.key ≡ x.key.is = λ u some. (is_run set_name x.key.is x.number (x ∷ xs) (lies_own x, have) u some).0 in
        let only : pools_gone (keys_of a) m s ≡ pools_gone (x.key.is ∷ []) m s = ap (λ (keys : List Key). pools_gone keys m s) (keys_table name a.table) ∙ only_key x.key.is m s (table_of name a) rows (λ q. refl) own in
        let gone = gone_run set_name s agree x xs have here.entry here.at in
        let b = run_less (length (names_of set_name (x ∷ xs))) here.entry (s.books x.key.is) in
        let long : length (take (front_but 1 b) b.pools) ≡ front_but 1 b = (let all = length-take (front_but 1 b) b.pools in omega arith) in
        ap (λ (m : Ledger). m.counters) ledger ∙ ap (λ (n : ℕ). more_destroyed n (more_released 1 l.counters)) (long ∙ sym (only ∙ gone))
