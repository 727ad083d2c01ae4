-- What a request leaves of an allocator: why it is declined before the walk, and what it took.
-- For `append_sets` and `serve_if_allowed`. es are the map's entries before and fs those after; max, marked, room and out are fields
-- of the allocator. above and past are the results of its tests, against the limit and against 64 bits.
use Rattle.gpu_descriptor.proofs.Common.{common_steps, side, Meaning, greatest_u64, ◌≡◌, ℕ, ◌+◌, ◌*◌, ◌<◌, ◌≤◌, ◌&&◌, Bool, true, false, List, map, length, sum, Option, Result, Err, inl, inr, refl, sym, ap, subst, ◌∙◌, arith, mul-le-mul_right, and_parts, ltb-true, ltb-false, IsDistinct}
use Rattle.gpu_descriptor.proofs.Common.{nat_lt, ◌⊎◌, kinds, Ledger, AllocationError, BucketKey, DescriptorSet, DescriptorBucket, Stop, Key, key_eq, Bucket, BucketOf, HasDistinctKeys, books_of, next_number, sum_over, key_of, Allocations, bucket_load, set_descriptors, IsWithinLimit, call_of}
use Rattle.gpu_descriptor.proofs.Common.{Allocates, taken_by, None, IsUnserved, ServesKey, Takes, named_row, state_of, table_of, outstanding_of, marked_load_of, pool_load_of, IsConsistent, row_of, stored_keys, books_in}
use Rattle.gpu_descriptor.specs.declared.errors.AllocationError.TheVariants.{Fragmentation, OutOfHostMemory}
use Rattle.gpu_descriptor.specs.Model.Outcomes.Allocates.{past_bound, no_memory_at_start}
use Rattle.gpu_descriptor.proofs.table.TableBooks.{distinct_rows}

-- what a test that failed says
pub within_of : (marked : Bool) (bound count : ℕ) → (marked && nat_lt bound count) ≡ false → marked ≡ true → count ≤ bound
within_of marked bound count off on = ltb-false bound count (let seen : (marked && nat_lt bound count) ≡ nat_lt bound count = ap (λ (b : Bool). b && nat_lt bound count) on in sym seen ∙ off)

-- what a table of the map says of an allocator that has it
module _ {P : Type 0} (a : Allocations P) (es : List (BucketKey × DescriptorBucket P)) (is : a.table ≡ map row_of es) where
  pub books_at : (name : P → ℕ) (before : Ledger) (k : Key) → (state_of name a before).books k ≡ books_in name (map row_of es) k
  books_at name before k = ap (λ (t : List (Key × BucketOf P)). books_of (map (named_row name) t) k) is

-- the fields of an allocator, as callers see them
abbrev pub seen : {P : Type 0} → ℕ → Option ℕ → ℕ × ℕ → ℕ → ℕ → List (BucketKey × DescriptorBucket P) → Allocations P
seen limit bound ids looks compared es = record { limit = limit; bound = bound; ids = ids; table = map row_of es; looks = looks; comparisons = compared }

pub same_range : {a b c d : ℕ} → a ≡ b → c ≡ d → ◌≡◌ {A = ℕ × ℕ} (a, c) (b, d)
same_range first end = λ i. (first i, end i)

-- no key has two rows, where the table has none twice
pub rows_distinct : {P : Type 0} (name : P → ℕ) (es : List (BucketKey × DescriptorBucket P)) → IsDistinct key_eq (stored_keys es) → HasDistinctKeys (map (named_row name) (map row_of es))
rows_distinct name es distinct = distinct_rows name es distinct

module _ {P : Type 0} {a : Allocations P} {max looks compared : ℕ} {bound : Option ℕ} {ids : ℕ × ℕ} (es : List (BucketKey × DescriptorBucket P)) (is : seen max bound ids looks compared es ≡ a) where
  pub table_is : a.table ≡ map row_of es
  table_is = ap (λ (x : Allocations P). x.table) (sym is)

  -- where nothing was written, callers see the same
  pub seen_again : {looked : ℕ} {bound_now : Option ℕ} {ids_now : ℕ × ℕ} (fs : List (BucketKey × DescriptorBucket P)) → fs ≡ es → looked ≡ looks → bound_now ≡ bound → ids_now ≡ ids → seen max bound_now ids_now looked compared fs ≡ a
  seen_again fs rows count stays range = (λ i. seen max (stays i) (range i) (count i) compared (rows i)) ∙ is

  pub rows_apart : (name : P → ℕ) → IsDistinct key_eq (stored_keys es) → HasDistinctKeys (table_of name a)
  rows_apart name apart = subst (λ (x : Allocations P). HasDistinctKeys (table_of name x)) is (rows_distinct name es apart)

  pub load_within : {marked room out : ℕ} → IsConsistent max marked room out es → marked_load_of a ≤ a.limit
  load_within counted = subst (λ (x : Allocations P). marked_load_of x ≤ x.limit) is (let load = counted.is_load in let within = counted.within in omega arith)

  pub pool_load_within : {marked room out : ℕ} → IsConsistent max marked room out es → pool_load_of a ≤ a.limit
  pool_load_within counted = subst (λ (x : Allocations P). pool_load_of x ≤ x.limit) is (let room = counted.is_room in omega arith)

-- ---- the tests of a request, over the fields of an allocator

module _ {L P S : Type 0} (means : Meaning L P S) {a : Allocations P} {max looks compared marked room out : ℕ}
    {bound : Option ℕ} {ids : ℕ × ℕ} {es : List (BucketKey × DescriptorBucket P)} (is : seen max bound ids looks compared es ≡ a)
    (counted : IsConsistent max marked room out es) (before : Ledger)
    (key : BucketKey) {count : ℕ} (some : 0 < count) {above : Bool} (test : above ≡ (key.marked && nat_lt a.limit (count * sum (kinds key.counts) + marked_load_of a))) where
  abbrev Declines : AllocationError → Type 0
  Declines error = (outcome : Allocates (call_of means (key_of key) count (side a before) (side a before) (Err error))) × (taken_by outcome ≡ None)

  -- why it is declined: the marked load would pass the limit, or one of two sums would pass 64 bits
  pub declined_by_limit : above ≡ true → Declines Fragmentation
  declined_by_limit passed = grind (arith, common_steps, and_parts, ltb-true)

  module _ (below : above ≡ false) {past : Bool} (bounded : past ≡ nat_lt greatest_u64 (out + count)) where
    in_limit : (answer : Result _ AllocationError) → IsWithinLimit (call_of means (key_of key) count (side a before) (side a before) answer)
    in_limit answer = within_of key.marked a.limit (count * sum (kinds key.counts) + marked_load_of a) (sym test ∙ below)

    declined_past : (greatest_u64 < next_number ((state_of means.pool_name a before).books (key_of key)) + count) ⊎ (greatest_u64 < outstanding_of a + count) → Declines Fragmentation
    declined_past more = (past_bound some (in_limit (Err Fragmentation)) more refl (record { state = refl; counters = refl }), refl)

    pub declined_by_bound : past ≡ true → Declines Fragmentation
    declined_by_bound passed = grind (arith, common_steps, declined_past, ltb-true)

    -- the table gave nothing, as an allocation failed or the pools' numbers would pass 64 bits
    pub declined_unserved :
        past ≡ false → {b : Allocations P} {after : Ledger} → b ≡ a → after ≡ before → (e : AllocationError)
        → IsUnserved count (next_number (books_in means.pool_name (map row_of es) (key_of key))) e
        → (outcome : Allocates (call_of means (key_of key) count (side a before) (side b after) (Err e))) × (taken_by outcome ≡ None)
    declined_unserved kept_in same kept e why = rw (same, kept) (elim (subst (λ (b : Bucket). IsUnserved count (next_number b) e) (sym (books_at a es (table_is es is) means.pool_name before (key_of key))) why) [
      | inl memory ↦ (
          let fits = ltb-false greatest_u64 (out + count) (sym bounded ∙ kept_in) in
          let all = ap outstanding_of is in
          let is_out = counted.is_out in
          rw memory.0 (no_memory_at_start (record { some = some; limit = in_limit (Err OutOfHostMemory); numbers = memory.1; sets = omega arith }) refl (record { state = refl; counters = refl }), refl))
      | inr many ↦ rw many.0 (declined_past (inl many.1))
    ])

-- a request that passed them, and took what its key has
module _ {L P S : Type 0} {means : Meaning L P S} {bound : Option ℕ} {key : BucketKey} {room count : ℕ} {sets : List (DescriptorSet S)} {ended : Result (Unit {0}) Stop} {es : List (BucketKey × DescriptorBucket P)} (fs : List (BucketKey × DescriptorBucket P)) {before after : Ledger}
    (s : ServesKey means bound (key_of key) room count sets ended (map row_of es) (map row_of fs) before after) {a : Allocations P} {max looks compared marked out : ℕ} {ids : ℕ × ℕ} (is : seen max bound ids looks compared es ≡ a) (counted : IsConsistent max marked room out es)
    {above : Bool} (test : above ≡ (key.marked && nat_lt a.limit (count * sum (kinds key.counts) + marked_load_of a))) (below : above ≡ false) where
  sets_within : key.marked ≡ true → count * sum (kinds key.counts) + marked_load_of a ≤ a.limit
  sets_within = within_of key.marked a.limit (count * sum (kinds key.counts) + marked_load_of a) (sym test ∙ below)

  -- their descriptors keep the limit
  pub given_fits : {given : ℕ} → given ≤ count → set_descriptors (key_of key) given + marked ≤ max
  given_fits {given} few = grind (arith, common_steps, mul-le-mul_right, sets_within)

  -- the totals that the code then writes are right
  pub counted_now : {given more left : ℕ} → given ≡ length sets → given ≤ count → more ≡ set_descriptors (key_of key) given → left + sum_over bucket_load (map row_of fs) ≡ room + sum_over bucket_load (map row_of es) → IsConsistent max (marked + more) left (out + given) fs
  counted_now long few load moved = grind (arith, common_steps, given_fits)

  pub takes_of : {past : Bool} → past ≡ nat_lt greatest_u64 (out + count) → past ≡ false → {looked : ℕ} {bound_now : Option ℕ} {ids_now : ℕ × ℕ} → Takes means (key_of key) count sets ended (side a before) (side (seen max bound_now ids_now looked compared fs) after)
  takes_of bounded kept_in {looked} {bound_now} {ids_now} = grind (arith, common_steps, ltb-false, sets_within)
