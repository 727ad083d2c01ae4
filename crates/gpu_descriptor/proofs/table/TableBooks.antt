-- The books of a table, read off the entries of the map, es.
use Rattle.gpu_descriptor.proofs.Common.{◌≡◌, ℕ, Bool, false, List, [], ◌∷◌, map, refl, sym, ap, ◌∙◌, if◌then◌else◌, list_any, IsDistinct, AllByRecursion, or_from}
use Rattle.gpu_descriptor.proofs.Common.{BucketKey, DescriptorBucket, Key, key_eq, Bucket, HasDistinctKeys, key_of, Allocations, named_row, row_of, stored_keys}
use Rattle.std.specs.Map.{keys_of as map_keys}
use Rattle.gpu_descriptor.specs.Caller.States.{keys_of}
use Rattle.gpu_descriptor.proofs.table.Tables.{key_eq_symm}

-- the map's keys are distinct, so those of the books are
pub distinct_stored : {P : Type 0} (eq : BucketKey → BucketKey → Bool) → ((k l : BucketKey) → eq k l ≡ key_eq (key_of k) (key_of l)) → (es : List (BucketKey × DescriptorBucket P)) → IsDistinct eq (map_keys es) → IsDistinct key_eq (stored_keys es)
unfolding IsDistinct
distinct_stored eq same [] h = tt
distinct_stored {P} eq same (e ∷ es) h = (others e es h.0, distinct_stored eq same es h.1)
  where
    others : (e : BucketKey × DescriptorBucket P) (es : List (BucketKey × DescriptorBucket P)) → AllByRecursion (λ y. eq e.0 y ≡ false) (map_keys es) → AllByRecursion (λ l. key_eq (key_of e.0) l ≡ false) (stored_keys es)
    others e [] all = tt
    others e (f ∷ es) all = (sym (same e.0 f.0) ∙ all.0, others e es all.1)

-- the books with another bucket at one key
abbrev pub put_books : (Key → Bucket) → Key → Bucket → Key → Bucket
put_books books k b l = if key_eq k l then b else books l

module _ {P : Type 0} (name : P → ℕ) where
  -- the rows of the books that the entries of the map keep
  abbrev pub rows_in : List (BucketKey × DescriptorBucket P) → List (Key × Bucket)
  rows_in es = map (named_row name) (map row_of es)

  -- distinct keys have a row each
  pub distinct_rows : (es : List (BucketKey × DescriptorBucket P)) → IsDistinct key_eq (stored_keys es) → HasDistinctKeys (rows_in es)
  unfolding IsDistinct
  distinct_rows [] h = tt
  distinct_rows (e ∷ es) h = (none e es h.0, distinct_rows es h.1)
    where
      none : (e : BucketKey × DescriptorBucket P) (es : List (BucketKey × DescriptorBucket P)) → AllByRecursion (λ l. key_eq (key_of e.0) l ≡ false) (stored_keys es) → list_any (λ other. key_eq other.0 (key_of e.0)) (rows_in es) ≡ false
      none e [] all = refl
      none e (f ∷ es) all = or_from (key_eq (key_of f.0) (key_of e.0)) (list_any (λ other. key_eq other.0 (key_of e.0)) (rows_in es)) (key_eq_symm (key_of f.0) (key_of e.0) ∙ all.0) (none e es all.1)

module _ {P : Type 0} where
  pub row_keys : (es : List (BucketKey × DescriptorBucket P)) → map (λ r. r.0) (map row_of es) ≡ map (λ e. key_of e.0) es
  row_keys [] = refl
  row_keys (e ∷ es) = ap (λ (l : List Key). key_of e.0 ∷ l) (row_keys es)

  -- the keys that callers see are those of the map
  pub keys_are : (a : Allocations P) (es : List (BucketKey × DescriptorBucket P)) → a.table ≡ map row_of es → keys_of a ≡ map (λ e. key_of e.0) es
  keys_are a es is = ap (map (λ r. r.0)) is ∙ row_keys es
