-- What a request takes of one key, in the table of keys.
-- For `serve`, if the key has a row, and `serve_absent`, if it has none. v and w are the key's bucket before and after.
use Rattle.gpu_descriptor.proofs.Common.{◌≡◌, ℕ, ◌+◌, ◌≤◌, Bool, false, List, [], ◌∷◌, ◌++◌, length, Option, Some, None, Result, Ok, Err, inl, inr, refl, sym, ap, ◌∙◌, subst, arith, map, lookup, option_map_or, sum_by, IsDistinct}
use Rattle.gpu_descriptor.proofs.Common.{cases_Bool, sum_by-append, Meaning, Ledger, Pool, BucketKey, DescriptorSet, DescriptorBucket, Stop, Key, key_eq, Bucket, no_pools, key_of, Item, set_descriptors, books_in, bucket_of, kept_in, named_bucket, row_of, stored_keys, HasTaken, Grant, IsGrantOf, IsTaken, OnOk, greatest_u64, items_of, next_number, ServesKey}
use Rattle.gpu_descriptor.proofs.table.Exact.{key_exact}
use Rattle.indexmap.specs.Layout.{set_value_at}
use Rattle.gpu_descriptor.proofs.sums.Loads.{load_in, sum_put, set_descriptors-add, rows_out, rows_load}
use Rattle.gpu_descriptor.proofs.sums.TableSums.{books_named}
use Rattle.gpu_descriptor.proofs.table.Readings.{kept_at}
use Rattle.gpu_descriptor.proofs.table.RowAt.{IsAt, present, written}
use Rattle.gpu_descriptor.proofs.table.TableBooks.{put_books}

-- a new key goes last
books_end : {P : Type 0} (name : P → ℕ) (k : BucketKey) (w : DescriptorBucket P) (test : BucketKey → Bool) → ((l : BucketKey) → test l ≡ key_eq (key_of k) (key_of l)) → (es : List (BucketKey × DescriptorBucket P)) → lookup test es ≡ None → (l : Key)
    → books_in name (map row_of (es ++ (k, w) ∷ [])) l ≡ put_books (books_in name (map row_of es)) (key_of k) (bucket_of name w) l
books_end name k w test same [] none l = refl
books_end {P} name k w test same (e ∷ es) none l = elim (cases_Bool (test e.0)) [
  | inl at ↦ (let found : Some e.1 ≡ None = rw at at none in absurd (cc))
  | inr at ↦ (
      let rest : lookup test es ≡ None = rw at at none in
      let ih = books_end name k w test same es rest l in
      elim (cases_Bool (key_eq (key_of e.0) l)) [
        | inl here ↦ (
            let other : key_eq (key_of k) l ≡ false = ap (key_eq (key_of k)) (sym (key_exact.same (key_of e.0) l here)) ∙ sym (same e.0) ∙ at in
            rw (here, other) refl)
        | inr there ↦ rw there ih
      ])
]

-- the books have none of a key without a row
pub missing : {P : Type 0} (name : P → ℕ) (k : Key) (es : List (BucketKey × DescriptorBucket P)) (test : BucketKey → Bool) → ((l : BucketKey) → test l ≡ key_eq k (key_of l)) → lookup test es ≡ None → books_in name (map row_of es) k ≡ no_pools
missing {P} name k es test same at = books_named name (map row_of es) k ∙ ap (named_bucket name) (kept_at test k same es ∙ ap (λ (o : Option (DescriptorBucket P)). option_map_or kept_in o no_pools) at)

load_grows : {P : Type 0} (k l : BucketKey) (v w : DescriptorBucket P) (n : ℕ) → key_of l ≡ key_of k → w.total ≡ v.total + n → load_in (l, w) ≡ load_in (l, v) + set_descriptors (key_of k) n
load_grows k l v w n is more =
    ap (λ (x : Key). set_descriptors x w.total) is ∙ ap (set_descriptors (key_of k)) more ∙ set_descriptors-add (key_of k) v.total n ∙ ap (λ (x : Key). set_descriptors x v.total + set_descriptors (key_of k) n) (sym is)

-- a key without pools may get any id
grant_new : {n id : ℕ} {ledger : ℕ → Option Pool} {g : Grant} → IsGrantOf n (record no_pools { id = id }) ledger g → IsGrantOf n no_pools ledger g
grant_new h = record { id = λ some. absurd (omega arith); refusing = h.refusing; parts = h.parts; new = h.new }

taken_new : {k : Key} {n id : ℕ} {g : Grant} {items : List Item} {b : Bucket} {l m : Ledger} → HasTaken k n g items (record no_pools { id = id }) b l m → HasTaken k n g items no_pools b l m
taken_new t = record { grant = grant_new t.grant; came = t.came; bucket = t.bucket; pools = t.pools; counters = t.counters; keeps = (let a = t.keeps in record { booked = a.booked; rising = a.rising; live = a.live; stays = a.stays; comes = a.comes; others = a.others }) }

taken_absent : (ended : Result (Unit {0}) Stop) (bound : Option ℕ) (k : Key) (room n id : ℕ) (items : List Item) (b : Bucket) (l m : Ledger) → IsTaken ended bound k room n items (record no_pools { id = id }) b l m → IsTaken ended bound k room n items no_pools b l m
taken_absent (Ok done) bound k room n id items b l m t = (t.0, taken_new t.1, t.2, t.3)
taken_absent (Err why) bound k room n id items b l m t = (t.0, t.1, taken_new t.2, t.3, t.4)

-- what one key gave, in the table
module _ {L P S : Type 0} {means : Meaning L P S} (k : BucketKey) (w : DescriptorBucket P) {old : Bucket} {bound : Option ℕ} {room count : ℕ} {sets : List (DescriptorSet S)} {ended : Result (Unit {0}) Stop} {before after : Ledger}
    (numbers : next_number old + count ≤ greatest_u64) (all : OnOk ended (length sets ≡ count)) (taken : IsTaken ended bound (key_of k) room count (items_of means.set_name sets) old (bucket_of means.pool_name w) before after) where
  module _ {had : ℕ} (total : w.total ≡ had + length sets) (es : List (BucketKey × DescriptorBucket P)) {fs : List (BucketKey × DescriptorBucket P)} where
    -- the key had a row, which was written; or its row came last (`serves_new`)
    pub serves_present : {i : ℕ} {v : DescriptorBucket P} → IsDistinct key_eq (stored_keys es) → bucket_of means.pool_name v ≡ old → v.total ≡ had → IsAt (key_of k) es i v → fs ≡ set_value_at es i w → ServesKey means bound (key_of k) room count sets ended (map row_of es) (map row_of fs) before after
    serves_present {i} {v} distinct was many h wrote =
        let here : books_in means.pool_name (map row_of es) (key_of k) ≡ old = present means.pool_name distinct h ∙ was in
        let out = (sum_put (λ b. b.1.total) es i h.key v w h.at).1 in
        let load = (sum_put load_in es i h.key v w h.at).1 in
        let grows = load_grows k h.key v w (length sets) h.is (total ∙ ap (λ n. n + length sets) (sym many)) in
        rw wrote (record {
          numbers = rw here numbers;
          all = all;
          bucket = bucket_of means.pool_name w;
          taken = rw here taken;
          books = written means.pool_name distinct h w;
          out = (let was = rows_out es in let is = rows_out (set_value_at es i w) in omega arith);
          load = (let was = rows_load es in let is = rows_load (set_value_at es i w) in omega arith);
        })

    pub serves_new :
        (test : BucketKey → Bool) → ((l : BucketKey) → test l ≡ key_eq (key_of k) (key_of l)) → lookup test es ≡ None
        → fs ≡ es ++ (k, w) ∷ [] → old ≡ record no_pools { id = old.id } → had ≡ 0
        → ServesKey means bound (key_of k) room count sets ended (map row_of es) (map row_of fs) before after
    serves_new test same at put empty none =
        let gone = missing means.pool_name (key_of k) es test same at in
        let bare = subst (λ (b : Bucket). (next_number b + count ≤ greatest_u64) × IsTaken ended bound (key_of k) room count (items_of means.set_name sets) b (bucket_of means.pool_name w) before after) empty (numbers, taken) in
        rw put (record {
          numbers = rw gone bare.0;
          all = all;
          bucket = bucket_of means.pool_name w;
          taken = rw gone (taken_absent ended bound (key_of k) room count old.id (items_of means.set_name sets) (bucket_of means.pool_name w) before after bare.1);
          books = books_end means.pool_name k w test same es at;
          out = (let was = rows_out es in let is = rows_out (es ++ (k, w) ∷ []) in let a = sum_by-append (λ (r : BucketKey × DescriptorBucket P). r.1.total) es ((k, w) ∷ []) in let one : sum_by (λ (r : BucketKey × DescriptorBucket P). r.1.total) ((k, w) ∷ []) ≡ w.total = omega arith in omega arith);
          load =
              (let was = rows_load es in
              let is = rows_load (es ++ (k, w) ∷ []) in
              let a = sum_by-append load_in es ((k, w) ∷ []) in
              let one : sum_by load_in ((k, w) ∷ []) ≡ set_descriptors (key_of k) w.total = omega arith in
              let n : w.total ≡ length sets = omega arith in let e = ap (set_descriptors (key_of k)) n in omega arith);
        })
