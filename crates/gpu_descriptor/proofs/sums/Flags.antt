-- How many keys may have a pool without sets: the number of the table that `trim_layout` tests.
-- For the functions that keep it. es are the map's entries, and v and w the bucket at a place before and after a write there.
use Rattle.gpu_descriptor.proofs.Common.{◌≡◌, ℕ, ◌+◌, ◌-◌, ◌≤◌, ◌++◌, Bool, true, false, if◌then◌else◌, List, [], ◌∷◌, length, length-map, length-append, filter, inl, inr, map, cases_Bool, sum_by, sum_by-append, sum_by-cons, slice_get, Some, refl, ap, ◌∙◌, arith, common_steps}
use Rattle.gpu_descriptor.proofs.Common.{BucketKey, DescriptorBucket, count_flagged, flag_of, has_pools, rises, stored_ids, Key, key_eq, key_of, books_in, row_of, left_of}
use Rattle.indexmap.specs.Layout.{set_value_at, length-set_value_at}
use Rattle.gpu_descriptor.proofs.cleanup.Rotation.{all_left, none_empty}
use Rattle.gpu_descriptor.proofs.cleanup.RowsCleaned.{sum_filter}
use Rattle.gpu_descriptor.proofs.lists.Numbers.{few_numbers, next_push}
use Rattle.gpu_descriptor.proofs.sums.Loads.{sum_put}
use mir.Val.{bool_byte}

-- a flag as a number of the code
pub byte_of : (is : Bool) → bool_byte is ≡ (if is then 1 else 0)
byte_of true = refl
byte_of false = refl

module _ {P : Type 0} where
  -- a key counts once at most, and ids are numbers of 64 bits
  few_flagged : (es : List (BucketKey × DescriptorBucket P)) → count_flagged es ≤ length es
  few_flagged [] = omega arith
  few_flagged (e ∷ es) = (let sum = sum_by-cons flag_of e es in let rest = few_flagged es in let one = once e.1.may_have_empty in omega arith)
    where
      once : (is : Bool) → (if is then 1 else 0) ≤ 1
      once true = omega arith
      once false = omega arith

  -- what a key without the flag counts
  abbrev unflagged : BucketKey × DescriptorBucket P → ℕ
  unflagged r = if r.1.may_have_empty then 0 else 1

  all_entries : (es : List (BucketKey × DescriptorBucket P)) → count_flagged es + sum_by unflagged es ≡ length es
  all_entries [] = refl
  all_entries (e ∷ es) = (let flags = sum_by-cons flag_of e es in let others = sum_by-cons unflagged e es in let rest = all_entries es in let one = either e.1.may_have_empty in omega arith)
    where
      either : (is : Bool) → ◌≡◌ {A = ℕ} ((if is then 1 else 0) + (if is then 0 else 1)) 1
      either true = refl
      either false = refl

  pub few_entries : (es : List (BucketKey × DescriptorBucket P)) (next : ℕ) → rises (stored_ids es ++ next ∷ []) ≡ true → length es ≤ next
  few_entries es next rise =
      let few = few_numbers (stored_ids es ++ next ∷ []) rise in
      let last = next_push (stored_ids es) next in
      let more = length-append (stored_ids es) (next ∷ []) in
      let long = length-map es (λ (r : BucketKey × DescriptorBucket P). r.1.id) in
      omega arith

  pub flags_below : (es : List (BucketKey × DescriptorBucket P)) (next : ℕ) → rises (stored_ids es ++ next ∷ []) ≡ true → count_flagged es ≤ next
  flags_below es next rise = (let few = few_flagged es in let ids = few_entries es next rise in omega arith)

  -- the flag of a bucket is one of those counted, and once another is counted in its place the number is right
  module _ (es : List (BucketKey × DescriptorBucket P)) (i : ℕ) (key : BucketKey) (v : DescriptorBucket P) (at : slice_get es i ≡ Some (key, v)) {count : ℕ} (counted : count ≡ count_flagged es) where
    pub flag_counted : flag_of (key, v) ≤ count
    flag_counted = (let here = (sum_put flag_of es i key v v at).0 in omega arith)

    pub flags_put : (w : DescriptorBucket P) → count - flag_of (key, v) + flag_of (key, w) ≡ count_flagged (set_value_at es i w)
    flags_put w = (let put = sum_put flag_of es i key v w at in let le = put.0 in let sum = put.1 in omega arith)

    -- and one more key can have it, if this one hasn't
    pub flags_room : count + (if v.may_have_empty then 0 else 1) ≤ length es
    flags_room = (let here = (sum_put unflagged es i key v v at).0 in let all = all_entries es in omega arith)

    -- and at most that of the keys
    pub flags_fit : (w : DescriptorBucket P) → count - flag_of (key, v) + flag_of (key, w) ≤ length es
    flags_fit w = (let put = flags_put w in let few = few_flagged (set_value_at es i w) in let long = length-set_value_at es i w in omega arith)

  -- a bucket that keeps its flag changes nothing, nor does a new key without the flag
  pub flags_stay : (es : List (BucketKey × DescriptorBucket P)) (i : ℕ) (key : BucketKey) (v w : DescriptorBucket P) → slice_get es i ≡ Some (key, v) → w.may_have_empty ≡ v.may_have_empty → count_flagged (set_value_at es i w) ≡ count_flagged es
  flags_stay es i key v w at same = (let put = (sum_put flag_of es i key v w at).1 in let is : flag_of (key, w) ≡ flag_of (key, v) = ap (λ (b : Bool). if b then 1 else 0) same in omega arith)

  pub flags_push : (es : List (BucketKey × DescriptorBucket P)) (key : BucketKey) (w : DescriptorBucket P) → w.may_have_empty ≡ false → count_flagged (es ++ (key, w) ∷ []) ≡ count_flagged es
  flags_push es key w off = (let all = sum_by-append flag_of es ((key, w) ∷ []) in let one = sum_by-cons flag_of (key, w) [] in let none : flag_of (key, w) ≡ 0 = ap (λ (b : Bool). if b then 1 else 0) off in omega arith)

  -- while no key is counted no pool is empty
  pub none_flagged : (name : P → ℕ) (es : List (BucketKey × DescriptorBucket P)) (k : Key) → count_flagged es ≡ 0 → (books_in name (map row_of es) k).pools ≡ left_of true (books_in name (map row_of es) k).pools
  none_flagged name [] k none = refl
  none_flagged name (e ∷ es) k none =
      let sum = sum_by-cons flag_of e es in
      elim (cases_Bool (key_eq (key_of e.0) k)) [
        | inl own ↦ rw own (none_empty name e.1.pools.items (all_left e.1.pools.items (e.1.full (off e.1.may_have_empty (let no : flag_of e ≡ 0 = omega arith in no)))))
        | inr other ↦ rw other (none_flagged name es k (omega arith))
      ]
    where
      off : (is : Bool) → ◌≡◌ {A = ℕ} (if is then 1 else 0) 0 → is ≡ false
      off true one = absurd (omega arith)
      off false zero = refl

  -- a key without pools isn't counted
  pub flags_filter : (es fs : List (BucketKey × DescriptorBucket P)) → fs ≡ filter (λ e. has_pools e.1) es → count_flagged fs ≡ count_flagged es
  flags_filter es fs kept = ap count_flagged kept ∙ sum_filter flag_of (λ e. has_pools e.1) (λ e none. no_flag e none) es
    where
      no_flag : (e : BucketKey × DescriptorBucket P) → has_pools e.1 ≡ false → flag_of e ≡ 0
      no_flag e none = grind (arith, common_steps)
