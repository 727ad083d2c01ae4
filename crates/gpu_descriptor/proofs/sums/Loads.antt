-- The running totals of a table, and what a run takes from them.
-- For the functions of the allocator that keep its totals (IsConsistent). es and fs are the map's entries before and after a write, v
-- and w the bucket of the key k that was there and that is; left is the room then.
use Rattle.gpu_descriptor.proofs.Common.{◌≡◌, ℕ, ◌+◌, ◌-◌, ◌*◌, ◌≤◌, List, [], ◌∷◌, ◌++◌, length, map, sum_by, Some, inl, inr, refl, sym, ap, ◌∙◌, arith, zero, suc, slice_get, cases_Bool, sum_by-cons, BucketKey, DescriptorSet, DescriptorBucket, Key, true}
use Rattle.gpu_descriptor.proofs.Common.{sum_over, key_of, Allocations, common_steps, bucket_load, descriptors_out, set_descriptors, sets_out, marked_descriptors, items_of, outstanding_of, marked_load_of, AllByRecursion, kept_in, row_of, pools_load, IsConsistent, none-some}
use Rattle.indexmap.specs.Layout.{set_value_at}
use Rattle.gpu_descriptor.specs.Inner.RunSteps.{lies_at}
use Rattle.gpu_descriptor.proofs.sums.TableSums.{sum_map}
use Rattle.gpu_descriptor.proofs.release.WholeRun.{at_parts}
use Rattle.gpu_descriptor.proofs.table.RowAt.{IsAt}

pub set_descriptors-none : (k : Key) → set_descriptors k 0 ≡ 0
set_descriptors-none k = elim (cases_Bool k.marked) [ inl on ↦ rw on (omega arith) | inr off ↦ rw off refl ]

pub set_descriptors-add : (k : Key) (m n : ℕ) → set_descriptors k (m + n) ≡ set_descriptors k m + set_descriptors k n
set_descriptors-add k m n = elim (cases_Bool k.marked) [ inl on ↦ rw on (grind arith) | inr off ↦ rw off refl ]

pub set_descriptors-le : (k : Key) (m n : ℕ) → m ≤ n → set_descriptors k m ≤ set_descriptors k n
set_descriptors-le k m n le = grind arith

-- a set has each
pub set_descriptors-each : (k : Key) (n each : ℕ) → each ≡ set_descriptors k 1 → n * each ≡ set_descriptors k n
set_descriptors-each k n each is = ap (λ m. n * m) is ∙ elim (cases_Bool k.marked) [ inl on ↦ rw on (grind arith) | inr off ↦ rw off (omega arith) ]

-- a sum over all rows, once the value at a place is another
pub sum_put : {A B : Type 0} (f : A × B → ℕ) (es : List (A × B)) (i : ℕ) (k : A) (v w : B) → slice_get es i ≡ Some (k, v) → (f (k, v) ≤ sum_by f es) × (sum_by f (set_value_at es i w) + f (k, v) ≡ sum_by f es + f (k, w))
sum_put {A} {B} f [] i k v w at = absurd (none-some (k, v) at)
sum_put {A} {B} f (e ∷ es) zero k v w at = grind (arith, sum_by-cons)
sum_put {A} {B} f (e ∷ es) (suc i) k v w at = grind (arith, common_steps, sum_by-cons, (sum_put f es i k v w at))

module _ {P : Type 0} where
  -- ---- the totals that the code keeps are those that callers see

  -- what an entry of the map adds to the marked load, and to the pool load
  abbrev pub load_in : BucketKey × DescriptorBucket P → ℕ
  load_in r = set_descriptors (key_of r.0) r.1.total

  abbrev pub stored_load_in : BucketKey × DescriptorBucket P → ℕ
  stored_load_in r = pools_load (key_of r.0) r.1.pools.items

  -- live sets, marked load, pool load: the sums over the rows are sums over the map's entries
  pools_out : (r : BucketKey × DescriptorBucket P) → sets_out (key_of r.0) (kept_in r.1) ≡ r.1.total
  pools_out r = sym r.1.counted

  pub rows_out : (es : List (BucketKey × DescriptorBucket P)) → sum_over sets_out (map row_of es) ≡ sum_by (λ r. r.1.total) es
  rows_out = sum_map _ row_of _ pools_out

  pub rows_load : (es : List (BucketKey × DescriptorBucket P)) → sum_over descriptors_out (map row_of es) ≡ sum_by load_in es
  rows_load = sum_map _ row_of _ (λ r. ap (set_descriptors (key_of r.0)) (pools_out r))

  pub rows_pool_load : (es : List (BucketKey × DescriptorBucket P)) → sum_over bucket_load (map row_of es) ≡ sum_by stored_load_in es
  rows_pool_load = sum_map _ row_of _ (λ r. refl)

pub run_load : {S : Type 0} (name : S → ℕ) (k : Key) (n : ℕ) (xs : List (DescriptorSet S)) → AllByRecursion (λ y. lies_at k n y ≡ true) xs → marked_descriptors (items_of name xs) ≡ set_descriptors k (length xs)
run_load name k n [] have = sym (set_descriptors-none k)
run_load name k n (x ∷ xs) have = grind (arith, common_steps, at_parts, (run_load name k n xs have.1))

-- a new key comes last, and its pools took of the room
pub pools_end : {P : Type 0} (k : BucketKey) (es : List (BucketKey × DescriptorBucket P)) (w : DescriptorBucket P) (left room : ℕ) → left + pools_load (key_of k) w.pools.items ≡ room → left + sum_over bucket_load (map row_of (es ++ (k, w) ∷ [])) ≡ room + sum_over bucket_load (map row_of es)
pools_end {P} k es w left room moved = grind (arith, common_steps)

-- what a run takes from the totals
pub record Taken {P : Type 0} (k : Key) (n : ℕ) (es fs : List (BucketKey × DescriptorBucket P)) : Type 0 where
  pub out : sum_over sets_out (map row_of fs) + n ≡ sum_over sets_out (map row_of es)
  pub load : sum_over descriptors_out (map row_of fs) + set_descriptors k n ≡ sum_over descriptors_out (map row_of es)

module _ {P : Type 0} {k : Key} {es : List (BucketKey × DescriptorBucket P)} {i : ℕ} {v : DescriptorBucket P} (h : IsAt k es i v) where
  -- the sets of a row are of the table's
  pub total_present : v.total ≤ sum_over sets_out (map row_of es)
  total_present = (let le = (sum_put (λ (r : BucketKey × DescriptorBucket P). r.1.total) es i h.key v v h.at).0 in let is = rows_out es in omega arith)

  -- and so is the room that its pools take
  pub pools_present : pools_load k v.pools.items ≤ sum_over bucket_load (map row_of es)
  pools_present =
      let le = (sum_put (stored_load_in {P = P}) es i h.key v v h.at).0 in
      let here = ap (λ (l : Key). pools_load l v.pools.items) h.is in
      let all = rows_pool_load es in
      omega arith

  -- the bucket w is written there
  module _ (w : DescriptorBucket P) where
    abbrev fs : List (BucketKey × DescriptorBucket P)
    fs = set_value_at es i w

    -- its pools took of the room, or gave some back
    pub pools_set : (left room : ℕ) → left + pools_load k w.pools.items ≡ room + pools_load k v.pools.items → left + sum_over bucket_load (map row_of fs) ≡ room + sum_over bucket_load (map row_of es)
    pools_set left room moved = grind (arith, common_steps, sum_put, rows_pool_load)

    -- n sets fewer are live in it: so it is of the totals
    pub taken : {n : ℕ} → w.total + n ≡ v.total → Taken k n es fs
    taken {n} total =
        let out = (sum_put (λ (r : BucketKey × DescriptorBucket P). r.1.total) es i h.key v w h.at).1 in
        let load = (sum_put (load_in {P = P}) es i h.key v w h.at).1 in
        let was = ap (λ (l : Key). set_descriptors l v.total) h.is ∙ ap (set_descriptors k) (sym total) ∙ set_descriptors-add k w.total n in
        let now = ap (λ (l : Key). set_descriptors l w.total) h.is in
        let outs = rows_out es in
        let outs_after = rows_out fs in
        let loads = rows_load es in
        let loads_after = rows_load fs in
        record { out = omega arith; load = omega arith }

module _ {P : Type 0} {k : Key} {n : ℕ} {es fs : List (BucketKey × DescriptorBucket P)} (t : Taken k n es fs) where
  -- what goes was there
  pub load_fits : {limit marked room out : ℕ} → IsConsistent limit marked room out es → set_descriptors k n ≤ marked
  load_fits counted = (let is = counted.is_load in let load = t.load in omega arith)

  -- the totals that the code then writes are right
  pub counted_after : {limit marked room left out less : ℕ} → IsConsistent limit marked room out es → less ≡ set_descriptors k n → left + sum_over bucket_load (map row_of fs) ≡ room + sum_over bucket_load (map row_of es) → IsConsistent limit (marked - less) left (out - n) fs
  counted_after counted load pools = grind arith

  module _ (old : Allocations P) (is : old.table ≡ map row_of es) where
    pub out_after : sum_over sets_out (map row_of fs) + n ≡ outstanding_of old
    out_after = grind arith

    pub load_after : (m : ℕ) → m ≡ set_descriptors k n → sum_over descriptors_out (map row_of fs) + m ≡ marked_load_of old
    load_after m same = grind arith
