-- The ids of a table's keys: they rise, so one place has each, and one key.
-- For `place_of_id`, which finds an entry of the map by halving, and for `release_run`.
use Rattle.gpu_descriptor.proofs.Common.{◌≡◌, ◌<◌, ℕ, zero, suc, true, false, ◌∷◌, [], List, length, slice_get, Some, inl, inr, refl, ap, arith, slice_index_or, nat_lt, IsNonDecreasingBy, IsPartitionPoint, IsPartitionedBy, values_of, none-some, ◌∙◌, option_map, slice_get-map}
use Rattle.gpu_descriptor.proofs.Common.{cases_lt, ltb-true, ltb-false, BucketKey, DescriptorBucket, common_steps, rises, stored_ids}
use Rattle.gpu_descriptor.proofs.lists.Numbers.{rises_at}
use Rattle.std.proofs.lemmas.List.Sorted.{IsPartitionedBy-ltb}
use Rattle.indexmap.specs.Layout.{set_value_at}

module _ {P : Type 0} where
  id_at : (es : List (BucketKey × DescriptorBucket P)) (i : ℕ) (d : BucketKey × DescriptorBucket P) → i < length es → slice_get (stored_ids es) i ≡ Some (slice_index_or es i d).1.id
  id_at [] i d lt = absurd (omega arith)
  id_at (e ∷ es) zero d lt = refl
  id_at (e ∷ es) (suc i) d lt = id_at es i d (omega arith)

  -- the entry of an id
  pub record HasId (es : List (BucketKey × DescriptorBucket P)) (i id : ℕ) : Type 0 where
    pub entry : BucketKey × DescriptorBucket P
    pub at : slice_get es i ≡ Some entry
    pub is : entry.1.id ≡ id
    pub within : i < length es

  pub has_id : (es : List (BucketKey × DescriptorBucket P)) (i id : ℕ) → slice_get (stored_ids es) i ≡ Some id → HasId es i id
  has_id [] i id at = absurd (none-some id at)
  has_id (e ∷ es) zero id at = (let same : Some e.1.id ≡ Some id = at in record { entry = e; at = refl; is = cc; within = omega arith })
  has_id (e ∷ es) (suc i) id at = (let r = has_id es i id at in let lt = r.within in record { entry = r.entry; at = r.at; is = r.is; within = omega arith })

  module _ (es : List (BucketKey × DescriptorBucket P)) (rise : rises (stored_ids es) ≡ true) (id : ℕ) where
    in_order : IsNonDecreasingBy (λ e. e.1.id) es
    in_order i j d le lt = grind (arith, id_at, rises_at)

    -- those below an id stand in front
    pub parted : IsPartitionedBy (λ e. nat_lt e.1.id id) es
    parted = IsPartitionedBy-ltb (λ e. e.1.id) es id in_order

    -- the first that isn't below an id that is there has it
    pub at_point : (r : ℕ) → IsPartitionPoint (λ e. nat_lt e.1.id id ≡ true) (λ e. nat_lt e.1.id id ≡ false) es r → (i : ℕ) → slice_get (stored_ids es) i ≡ Some id → slice_get (stored_ids es) r ≡ Some id
    at_point r point i at =
        let here = has_id es i id at in
        let d = here.entry in
        let lt = here.within in
        elim (cases_lt r i) [
          | inl below ↦ absurd (
              let le = ltb-false (slice_index_or es r d).1.id id (point.1 r d (omega arith) (omega arith)) in
              grind (arith, common_steps, id_at, rises_at))
          | inr least ↦ elim (cases_lt i r) [
            | inl before ↦ absurd (
                let less = ltb-true (slice_index_or es i d).1.id id (point.0 i d (omega arith) before) in
                grind (arith, common_steps, id_at))
            | inr above ↦ (let is : r ≡ i = omega arith in rw is at)
          ]
        ]

module _ {P : Type 0} where
  pub id_of : (es : List (BucketKey × DescriptorBucket P)) (i : ℕ) (e : BucketKey × DescriptorBucket P) → slice_get es i ≡ Some e → slice_get (stored_ids es) i ≡ Some e.1.id
  id_of es i e at = slice_get-map (λ (r : BucketKey × DescriptorBucket P). r.1.id) es i ∙ ap (option_map (λ (r : BucketKey × DescriptorBucket P). r.1.id)) at

-- ---- as the table changes

module _ {P : Type 0} where
  -- a bucket that keeps its id changes none
  pub ids_put : (es : List (BucketKey × DescriptorBucket P)) (i : ℕ) (v w : DescriptorBucket P) → slice_get (values_of es) i ≡ Some v → w.id ≡ v.id → stored_ids (set_value_at es i w) ≡ stored_ids es
  ids_put [] i v w at same = refl
  ids_put (e ∷ es) zero v w at same = grind arith
  ids_put (e ∷ es) (suc i) v w at same = ap (λ (ids : List ℕ). e.1.id ∷ ids) (ids_put es i v w at same)
