-- What readers see of a key is what the map has at it.
use Rattle.gpu_descriptor.proofs.Common.{◌≡◌, Bool, List, [], ◌∷◌, map, Option, inl, inr, refl, sym, ap, ◌∙◌, lookup, option_map_or, cases_Bool, BucketKey, DescriptorBucket, Key, key_eq, BucketOf, books_of, no_pools, key_of, Allocations, kept_in, row_of}
use Rattle.gpu_descriptor.proofs.table.Tables.{key_eq_symm}

module _ {P : Type 0} (test : BucketKey → Bool) (k : Key) (same : (l : BucketKey) → test l ≡ key_eq k (key_of l)) where
  pub kept_at : (es : List (BucketKey × DescriptorBucket P)) → books_of (map row_of es) k ≡ option_map_or kept_in (lookup test es) no_pools
  kept_at [] = refl
  kept_at (e ∷ es) =
      let here = key_eq_symm (key_of e.0) k ∙ sym (same e.0) in
      elim (cases_Bool (test e.0)) [ inl h ↦ rw (here ∙ h, h) refl | inr h ↦ rw (here ∙ h, h) (kept_at es) ]

  pub seen_at : (a : Allocations P) (es : List (BucketKey × DescriptorBucket P)) → map row_of es ≡ a.table → {o : Option (DescriptorBucket P)} → lookup test es ≡ o → books_of a.table k ≡ option_map_or kept_in o no_pools
  seen_at a es is found = ap (λ (t : List (Key × BucketOf P)). books_of t k) (sym is) ∙ kept_at es ∙ ap (λ (o : Option (DescriptorBucket P)). option_map_or kept_in o no_pools) found
