-- In which order keys stay in the table: for the fields `keys` of HandsOut (`serve`) and of Sweeps (`sweep`).
use Rattle.gpu_descriptor.proofs.Common.{◌≡◌, ℕ, zero, suc, ◌==◌, not, Bool, List, [], ◌∷◌, ◌++◌, length, map, filter, slice_get, Some, None, true, false, refl, sym, ap, ◌∙◌, arith, list_any, lookup, map-append, Ledger, BucketKey, DescriptorBucket, Key, Bucket, HasDistinctKeys, books_of}
use Rattle.gpu_descriptor.proofs.Common.{key_of, Allocations, common_steps, has_pools, LosesEmpty, left_of, with_pools, Entry, with_key, key_eq, is_of, named_row, state_of, row_of, stored_keys, none-some}
use Rattle.gpu_descriptor.specs.Caller.States.{keys_of}
use Rattle.gpu_descriptor.proofs.cleanup.Splitting.{pools_with}
use Rattle.gpu_descriptor.proofs.cleanup.RowsCleaned.{cleared_row, first_keys, has_row, rows_left}
use Rattle.gpu_descriptor.proofs.table.RowAt.{Rows, row_books}
use Rattle.gpu_descriptor.proofs.table.TableBooks.{keys_are, rows_in}
use Rattle.gpu_descriptor.proofs.table.Exact.{key_exact}

-- ---- a request

module _ (k : Key) where
  stands : (keys : List Key) (i : ℕ) → slice_get keys i ≡ Some k → list_any (key_eq k) keys ≡ true
  stands [] i at = absurd (none-some k at)
  stands (l ∷ keys) zero at = (let self = key_exact.self k in grind arith)
  stands (l ∷ keys) (suc i) at = (let later = stands keys i at in grind arith)

  -- a key that has a place stays there
  pub keys_stay : (keys : List Key) (i : ℕ) → slice_get keys i ≡ Some k → keys ≡ with_key k keys
  keys_stay keys i at = rw (stands keys i at) refl

module _ {P : Type 0} (k : Key) where
  lacks : (es : List (BucketKey × DescriptorBucket P)) → lookup (is_of k) es ≡ None → list_any (key_eq k) (stored_keys es) ≡ false
  lacks [] none = refl
  lacks (e ∷ es) none = grind (arith, common_steps, (lacks es))

  -- one that was absent comes last
  pub keys_put : (key : BucketKey) (es fs : List (BucketKey × DescriptorBucket P)) (w : DescriptorBucket P) → key_of key ≡ k → lookup (is_of k) es ≡ None → fs ≡ es ++ (key, w) ∷ [] → stored_keys fs ≡ with_key k (stored_keys es)
  keys_put key es fs w is none put = rw (lacks es none) (ap stored_keys put ∙ map-append (λ (e : BucketKey × DescriptorBucket P). key_of e.0) es ((key, w) ∷ []) ∙ ap (λ (l : Key). stored_keys es ++ l ∷ []) is)

  pub keys_seen : (a b : Allocations P) (es fs : List (BucketKey × DescriptorBucket P)) → a.table ≡ map row_of es → b.table ≡ map row_of fs → stored_keys fs ≡ with_key k (stored_keys es) → keys_of b ≡ with_key k (keys_of a)
  keys_seen a b es fs was is kept = keys_are b fs is ∙ kept ∙ ap (with_key k) (sym (keys_are a es was))

-- ---- cleaning up

keys_left : (everywhere : Bool) (stays : Key → Bool) (rows : Rows) → ((i : ℕ) (r : Key × Bucket) → slice_get rows i ≡ Some r → stays r.0 ≡ has_row (cleared_row everywhere r)) → map (λ r. r.0) (filter has_row (map (cleared_row everywhere) rows)) ≡ filter stays (map (λ r. r.0) rows)
keys_left everywhere stays [] says = refl
keys_left everywhere stays (r ∷ rows) says =
    let rest = keys_left everywhere stays rows (λ i. says (suc i)) in
    let own = says 0 r refl in
    grind (arith, common_steps)

-- the keys that still have pools are left, in their order
pub keys_cleaned :
    (everywhere : Bool) {P : Type 0} (name : P → ℕ) (a b : Allocations P) (l m : Ledger)
    (es now fs : List (BucketKey × DescriptorBucket P))
    → a.table ≡ map row_of es → b.table ≡ map row_of fs → HasDistinctKeys (rows_in name es)
    → rows_in name now ≡ map (cleared_row everywhere) (rows_in name es) → fs ≡ filter (λ e. has_pools e.1) now
    → LosesEmpty everywhere (state_of name a l) (state_of name b m) → keys_of b ≡ filter (λ k. not (length ((state_of name b m).books k).pools == 0)) (keys_of a)
keys_cleaned everywhere {P} name a b l m es now fs was is distinct rows kept clean =
    let t = state_of name b m in
    let stays : Key → Bool = λ k. not (length (t.books k).pools == 0) in
    let says : (i : ℕ) (r : Key × Bucket) → slice_get (rows_in name es) i ≡ Some r → stays r.0 ≡ has_row (cleared_row everywhere r) = λ i r at.
    ap (λ (c : Bucket). not (length c.pools == 0))
    (clean.books r.0
    ∙ ap (λ (b : Bucket). with_pools b (left_of everywhere b.pools))
    (ap (λ (x : Rows). books_of x r.0) (ap (map (named_row name)) was)
    ∙ row_books (rows_in name es) i r distinct at))
    ∙ ap (λ (es : List Entry). not (length es == 0)) (pools_with r.1 (left_of everywhere r.1.pools)) in
    keys_are b fs is ∙ ap stored_keys kept ∙ sym (first_keys everywhere name (filter (λ e. has_pools e.1) now))
    ∙ ap (map (λ (r : Key × Bucket). r.0)) (rows_left name now ∙ ap (filter has_row) rows) ∙ keys_left everywhere stays (rows_in name es) says ∙ ap (filter stays) (first_keys everywhere name es ∙ sym (keys_are a es was))
