-- The row at a place of the table: what the books have of its key, and what a write there does to them.
-- For `serve`, `release_run` and `sweep`, which read and write the map at a place. es are the entries of the map, and rows are those of
-- the books.
use Rattle.gpu_descriptor.proofs.Common.{◌≡◌, ℕ, zero, suc, Bool, List, [], ◌∷◌, map, set, slice_get, slice_get-map, option_map, Some, refl, sym, ap, subst, ◌∙◌, arith, cases_Bool, inl, inr, IsDistinct, lookup, values_of, BucketKey, DescriptorBucket, Key, key_eq, common_steps}
use Rattle.gpu_descriptor.proofs.Common.{Bucket, HasDistinctKeys, books_of, books_in, bucket_of, key_of, named_row, row_of, stored_keys, none-some, same_Some}
use Rattle.indexmap.specs.Layout.{set_value_at}
use Rattle.gpu_descriptor.proofs.lists.AtPlaces.{none_at}
use Rattle.gpu_descriptor.proofs.table.Exact.{key_exact}
use Rattle.gpu_descriptor.proofs.table.TableBooks.{distinct_rows, put_books, rows_in}
use Rattle.gpu_descriptor.proofs.table.Tables.{key_eq_symm}

abbrev pub Rows : Type 0
Rows = List (Key × Bucket)

-- at the key of a row the books have its bucket
pub row_books : (rows : Rows) (i : ℕ) (r : Key × Bucket) → HasDistinctKeys rows → slice_get rows i ≡ Some r → books_of rows r.0 ≡ r.1
row_books [] i r h at = absurd (none-some r at)
row_books (x ∷ rows) zero r h at = (let eq : x ≡ r = same_Some x r at in subst (λ (y : Key × Bucket). books_of (x ∷ rows) y.0 ≡ y.1) eq (rw (key_exact.self x.0) refl))
row_books (x ∷ rows) (suc i) r h at = grind (arith, key_eq_symm, none_at, (row_books rows i r h.1 at))

-- and with another bucket there they have that
put_row : (rows : Rows) (i : ℕ) (r : Key × Bucket) (b : Bucket) → HasDistinctKeys rows → slice_get rows i ≡ Some r → (l : Key) → books_of (set rows i (r.0, b)) l ≡ put_books (books_of rows) r.0 b l
put_row [] i r b h at l = absurd (none-some r at)
put_row (x ∷ rows) zero r b h at l = (let eq : x ≡ r = same_Some x r at in subst (λ (y : Key × Bucket). books_of ((y.0, b) ∷ rows) l ≡ put_books (books_of (x ∷ rows)) y.0 b l) eq (elim (cases_Bool (key_eq x.0 l)) [ inl is ↦ rw is refl | inr other ↦ rw other refl ]))
put_row (x ∷ rows) (suc i) r b h at l = grind (arith, common_steps, key_exact, none_at, (put_row rows i r b h.1 at l))

-- the key and the bucket at a place
pub record IsAt {P : Type 0} (k : Key) (es : List (BucketKey × DescriptorBucket P)) (i : ℕ) (v : DescriptorBucket P) : Type 0 where
  pub key : BucketKey
  pub at : slice_get es i ≡ Some (key, v)
  pub is : key_of key ≡ k

module _ {P : Type 0} (k : Key) where
  -- what a place's key and its bucket say together
  pub is_at : (es : List (BucketKey × DescriptorBucket P)) (i : ℕ) (v : DescriptorBucket P) → slice_get (stored_keys es) i ≡ Some k → slice_get (values_of es) i ≡ Some v → IsAt k es i v
  is_at [] i v key value = absurd (none-some k key)
  is_at (e ∷ es) zero v key value =
      record { key = e.0; at = ap (λ (b : DescriptorBucket P). Some (e.0, b)) (same_Some e.1 v value); is = same_Some (key_of e.0) k key }
  is_at (e ∷ es) (suc i) v key value = (let r = is_at es i v key value in record { key = r.key; at = r.at; is = r.is })

module _ {P : Type 0} (name : P → ℕ) where
  -- the row of a place of the map
  pub row_there : (es : List (BucketKey × DescriptorBucket P)) (i : ℕ) (k : BucketKey) (v : DescriptorBucket P) → slice_get es i ≡ Some (k, v) → slice_get (rows_in name es) i ≡ Some (key_of k, bucket_of name v)
  row_there es i k v at = slice_get-map (named_row name) (map row_of es) i ∙ ap (option_map (named_row name)) (slice_get-map row_of es i ∙ ap (option_map row_of) at)

  -- a bucket that is written at a place of the map is that of the row there
  pub rows_set : (es : List (BucketKey × DescriptorBucket P)) (i : ℕ) (k : BucketKey) (v w : DescriptorBucket P) → slice_get es i ≡ Some (k, v) → rows_in name (set_value_at es i w) ≡ set (rows_in name es) i (key_of k, bucket_of name w)
  rows_set [] i k v w at = absurd (none-some (k, v) at)
  rows_set (e ∷ es) zero k v w at = (let eq : e ≡ (k, v) = same_Some e (k, v) at in ap (λ (x : BucketKey × DescriptorBucket P). (key_of x.0, bucket_of name w) ∷ rows_in name es) eq)
  rows_set (e ∷ es) (suc i) k v w at = ap (λ (l : Rows). (key_of e.0, bucket_of name e.1) ∷ l) (rows_set es i k v w at)

  module _ {k : Key} {es : List (BucketKey × DescriptorBucket P)} (distinct : IsDistinct key_eq (stored_keys es)) {i : ℕ} {v : DescriptorBucket P} (h : IsAt k es i v) where
    here : slice_get (rows_in name es) i ≡ Some (key_of h.key, bucket_of name v)
    here = row_there es i h.key v h.at

    -- the books have the bucket at the place, and after a write there the one that was written
    pub present : books_in name (map row_of es) k ≡ bucket_of name v
    present = ap (books_of (rows_in name es)) (sym h.is) ∙ row_books (rows_in name es) i (key_of h.key, bucket_of name v) (distinct_rows name es distinct) here

    pub written : (w : DescriptorBucket P) (l : Key) → books_in name (map row_of (set_value_at es i w)) l ≡ put_books (books_in name (map row_of es)) k (bucket_of name w) l
    written w l =
        ap (λ (rows : Rows). books_of rows l) (rows_set es i h.key v w h.at)
        ∙ put_row (rows_in name es) i (key_of h.key, bucket_of name v) (bucket_of name w) (distinct_rows name es distinct) here l
        ∙ ap (λ (m : Key). put_books (books_of (rows_in name es)) m (bucket_of name w) l) h.is

-- a write at a place keeps the keys; one of what is there changes nothing
pub keys_at : {P : Type 0} (es : List (BucketKey × DescriptorBucket P)) (i : ℕ) (w : DescriptorBucket P) → stored_keys (set_value_at es i w) ≡ stored_keys es
keys_at [] i w = refl
keys_at (e ∷ es) zero w = refl
keys_at (e ∷ es) (suc i) w = ap (λ (ks : List Key). key_of e.0 ∷ ks) (keys_at es i w)

pub put_same : {P : Type 0} (es : List (BucketKey × DescriptorBucket P)) (i : ℕ) (key : BucketKey) (v : DescriptorBucket P) → slice_get es i ≡ Some (key, v) → set_value_at es i v ≡ es
put_same [] i key v at = refl
put_same {P} (e ∷ es) zero key v at = ap (λ (r : BucketKey × DescriptorBucket P). (e.0, r.1) ∷ es) (sym (same_Some e (key, v) at))
put_same {P} (e ∷ es) (suc i) key v at = ap (λ (l : List (BucketKey × DescriptorBucket P)). e ∷ l) (put_same es i key v at)

-- tests with the same answers find the same
pub lookup_same : {P : Type 0} (s t : BucketKey → Bool) → ((k : BucketKey) → s k ≡ t k) → (es : List (BucketKey × DescriptorBucket P)) → lookup s es ≡ lookup t es
lookup_same s t same [] = refl
lookup_same s t same (e ∷ es) = grind arith

module _ {P : Type 0} where
  pub value_at : (es : List (BucketKey × DescriptorBucket P)) (i : ℕ) (key : BucketKey) (v : DescriptorBucket P) → slice_get es i ≡ Some (key, v) → slice_get (values_of es) i ≡ Some v
  value_at [] i key v at = absurd (none-some (key, v) at)
  value_at (e ∷ es) zero key v at = ap (λ (r : BucketKey × DescriptorBucket P). Some r.1) (same_Some e (key, v) at)
  value_at (e ∷ es) (suc i) key v at = value_at es i key v at
