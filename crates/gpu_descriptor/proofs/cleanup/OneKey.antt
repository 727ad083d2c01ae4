-- A trim of one key, k, in the table: for `trim_layout`. es and fs are the map's entries before and after, v and w the key's bucket then.
use Rattle.gpu_descriptor.proofs.Common.{Meaning, side, [], IsDistinct, cases_Bool, inl, inr, refl, ◌≡◌, ℕ, true, if◌then◌else◌, List, length, map, slice_get, slice_get-map, None, Some, sym, ap, ◌∙◌, Counters, Ledger, BucketKey, DescriptorBucket, State, Key, key_eq, Bucket, Allocations, arith, common_steps}
use Rattle.gpu_descriptor.proofs.Common.{are_named, gone_of, left_of, ledger_but, more_destroyed, without_empty, bucket_of, row_of, state_of, stored_keys}
use Rattle.gpu_descriptor.specs.Caller.CleansUp.{TrimsKey}
use Rattle.indexmap.specs.Layout.{set_value_at}
use Rattle.gpu_descriptor.proofs.cleanup.Rotation.{none_destroyed}
use Rattle.gpu_descriptor.proofs.cleanup.Splitting.{gone_twice}
use Rattle.gpu_descriptor.proofs.request.Requested.{books_at}
use Rattle.gpu_descriptor.proofs.table.Exact.{key_exact}
use Rattle.gpu_descriptor.proofs.table.RowAt.{IsAt, present, written}

-- the bucket without its empty pools
abbrev less : Bucket → Bucket
less b = record b { pools = left_of true b.pools }

-- the counters once as many were destroyed
abbrev pub more_gone : Ledger → Bucket → Counters
more_gone l b = more_destroyed (length (gone_of true b.pools)) l.counters

module _ {P : Type 0} (k : Key) (es : List (BucketKey × DescriptorBucket P)) where
  -- what stands at the key's place is its row
  pub key_there : (i : ℕ) (key : BucketKey) (v : DescriptorBucket P) → slice_get es i ≡ Some (key, v) → slice_get (stored_keys es) i ≡ Some k → IsAt k es i v
  key_there i key v at stands = grind (arith, common_steps, slice_get-map)

  module _ (distinct : IsDistinct key_eq (stored_keys es)) {i : ℕ} {v : DescriptorBucket P} (h : IsAt k es i v) (name : P → ℕ) (a : Allocations P) (before : Ledger) (is : a.table ≡ map row_of es) where
    -- the books have the bucket of the row
    pub own_books : (state_of name a before).books k ≡ bucket_of name v
    own_books = books_at a es is name before k ∙ present name distinct h

    module _ (w : DescriptorBucket P) (after : Ledger) (lost : bucket_of name w ≡ less (bucket_of name v)) (gone : after ≡ ledger_but (gone_of true (bucket_of name v).pools) before) where
      -- the state is without the key's empty pools, and as many were destroyed
      pub trimmed_row : (b : Allocations P) → b.table ≡ map row_of (set_value_at es i w) → state_of name b after ≡ without_empty k (state_of name a before)
      trimmed_row b now =
          let s = state_of name a before in
          let bucket : bucket_of name w ≡ less (s.books k) = lost ∙ ap less (sym own_books) in
          let books : (l : Key) → (state_of name b after).books l ≡ (without_empty k s).books l = λ l.
          books_at b (set_value_at es i w) now name after l
          ∙ written name distinct h w l
          ∙ (λ j. if key_eq k l then bucket j else sym (books_at a es is name before l) j) in
          let ledger : (p : ℕ) → after.pools p ≡ (without_empty k s).ledger p = λ p.
          ap (λ (l : Ledger). l.pools p) gone ∙ ap (λ (b : Bucket). if are_named (gone_of true b.pools) p then None else before.pools p) (sym own_books) in
          λ j. record { books = λ l. books l j; ledger = λ p. ledger p j }

      pub destroyed_row : after.counters ≡ more_gone before ((state_of name a before).books k)
      destroyed_row = ap (λ (l : Ledger). l.counters) gone ∙ ap (more_gone before) (sym own_books)

-- a key each of whose pools has a set loses none
module _ {L P S : Type 0} (means : Meaning L P S) (k : Key) (a : Allocations P) (l : Ledger) (left : ((state_of means.pool_name a l).books k).pools ≡ left_of true ((state_of means.pool_name a l).books k).pools) where
  abbrev s : State
  s = state_of means.pool_name a l

  none_goes : gone_of true (s.books k).pools ≡ []
  none_goes = ap (gone_of true) left ∙ gone_twice true (s.books k).pools

  books_stay : (m : Key) → s.books m ≡ (without_empty k s).books m
  books_stay m = elim (cases_Bool (key_eq k m)) [
    | inl own ↦ rw own (ap s.books (sym (key_exact.same k m own)) ∙ (λ i. record (s.books k) { pools = left i }))
    | inr other ↦ rw other refl
  ]

  pub nothing_trimmed : TrimsKey means k (side a l) (side a l)
  nothing_trimmed = record {
    trimmed = (let ledger : (p : ℕ) → l.pools p ≡ (without_empty k s).ledger p = λ p. ap (λ gone. if are_named gone p then None else l.pools p) (sym none_goes) in λ i. record { books = λ m. books_stay m i; ledger = λ p. ledger p i });
    destroyed = ap (λ (l : Ledger). l.counters) (none_destroyed l) ∙ ap (λ gone. more_destroyed (length gone) l.counters) (sym none_goes);
    keys = refl;
    outstanding_stay = λ t. refl;
    totals_stay = (refl, refl);
    counts_stay = (refl, refl);
  }
