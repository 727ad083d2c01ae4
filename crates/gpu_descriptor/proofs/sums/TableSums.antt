-- The totals that callers see are sums over the table of the books.
-- P are the device's raw pools, as the allocator's table has them; the books have their names. The sums are the same.
use Rattle.gpu_descriptor.proofs.Common.{◌≡◌, ℕ, ◌+◌, List, [], ◌∷◌, map, sum_by, inl, inr, refl, ap, ◌∙◌, sym, cases_Bool, sum_by-cons, Key, key_eq, BucketOf, Bucket, AddsUp, HasDistinctKeys, books_of, sum_over, Allocations, set_descriptors, bucket_load, sets_out, descriptors_out, entry_of}
use Rattle.gpu_descriptor.proofs.Common.{named_bucket, named_row, table_of, outstanding_of, marked_load_of, pool_load_of}

-- a sum over a list whose items are mapped
pub sum_map : {A B : Type 0} (f : B → ℕ) (g : A → B) (h : A → ℕ) → ((x : A) → f (g x) ≡ h x) → (xs : List A) → sum_by f (map g xs) ≡ sum_by h xs
sum_map f g h same [] = refl
sum_map f g h same (x ∷ xs) = sum_by-cons f (g x) (map g xs) ∙ (λ i. same x i + sum_map f g h same xs i) ∙ sym (sum_by-cons h x xs)

module _ {P : Type 0} (name : P → ℕ) where
  -- what is counted of a bucket whose pools are named is counted of it
  over_named : (f : Key → Bucket → ℕ) (g : Key → BucketOf P → ℕ) → ((k : Key) (b : BucketOf P) → f k (named_bucket name b) ≡ g k b) → (a : Allocations P) → sum_over g a.table ≡ sum_over f (table_of name a)
  over_named f g same a = sym (sum_map (λ r. f r.0 r.1) (named_row name) (λ r. g r.0 r.1) (λ r. same r.0 r.1) a.table)

  out_named : (k : Key) (b : BucketOf P) → sets_out k (named_bucket name b) ≡ sets_out k b
  out_named k b = sum_map (λ e. e.allocated) (entry_of name) (λ e. e.allocated) (λ e. refl) b.pools

  pub outstanding_of-table : (a : Allocations P) → outstanding_of a ≡ sum_over sets_out (table_of name a)
  outstanding_of-table = over_named sets_out sets_out out_named

  pub marked_load_of-table : (a : Allocations P) → marked_load_of a ≡ sum_over descriptors_out (table_of name a)
  marked_load_of-table = over_named descriptors_out descriptors_out (λ k b. ap (set_descriptors k) (out_named k b))

  pub pool_load_of-table : (a : Allocations P) → pool_load_of a ≡ sum_over bucket_load (table_of name a)
  pool_load_of-table = over_named bucket_load bucket_load (λ k b. sum_map _ (entry_of name) _ (λ e. refl) b.pools)

  -- so each adds up over the books
  pub adds_up : (a : Allocations P) (f : Key → Bucket → ℕ) {n : ℕ} → HasDistinctKeys (table_of name a) → n ≡ sum_over f (table_of name a) → AddsUp f (books_of (table_of name a)) n
  adds_up a f distinct sum = record { table = table_of name a; distinct = distinct; keeps = λ k. refl; total = sym sum }

  -- a key's books are those that callers see, with the pools named
  pub books_named : (rows : List (Key × BucketOf P)) (k : Key) → books_of (map (named_row name) rows) k ≡ named_bucket name (books_of rows k)
  books_named [] k = refl
  books_named (r ∷ rows) k = elim (cases_Bool (key_eq r.0 k)) [ inl at ↦ rw at refl | inr at ↦ rw at (books_named rows k) ]
