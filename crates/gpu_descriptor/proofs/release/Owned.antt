-- The row of a live set: its key's, and the only one with its id.
-- For `release_run`, which finds the row of a run by its id and compares no keys. es are the entries of the map, and s is the state.
use Rattle.std.proofs.lemmas.Grind.{common_steps}
use Rattle.gpu_descriptor.proofs.Common.{◌≡◌, ◌<◌, ℕ, zero, suc, Bool, list_all, true, false, List, [], ◌∷◌, ◌++◌, slice_get, Option, Some, None, IfSome, inl, inr, refl, sym, ap, subst, ◌∙◌, arith, eq-eqb, eqb-true, map, nat_eq, HoldsAlong, cases_Bool, and_from, and_parts, false_from_ne_true, IsDistinct}
use Rattle.gpu_descriptor.proofs.Common.{Ledger, count_by_yes, BucketKey, DescriptorSet, DescriptorBucket, AreOutstanding, Item, State, item_eq, outstanding, Bucket, Entry, Key, key_eq, books_of, books_in, entry_at, key_of, Allocations, item_of, items_of, state_of, rises, stored_ids, stored_keys, EndsRun, AllByRecursion}
use Rattle.gpu_descriptor.proofs.Common.{row_of, none-some, same_Some, true≢false}
use Rattle.std.proofs.iter.Next.{Yields-more}
use Rattle.gpu_descriptor.specs.Caller.States.{HasIds}
use Rattle.gpu_descriptor.specs.Caller.Values.{IsIdOf}
use Rattle.gpu_descriptor.specs.Inner.Ids.{is_id_of}
use Rattle.gpu_descriptor.specs.Inner.RunSteps.{at_place, lies_at}
use Rattle.gpu_descriptor.proofs.lists.Numbers.{rises_once}
use Rattle.gpu_descriptor.proofs.table.Exact.{item_exact, key_exact}
use Rattle.gpu_descriptor.proofs.callers.HeldSets.{out_back}
use Rattle.gpu_descriptor.proofs.release.Places.{outstanding_found}
use Rattle.gpu_descriptor.proofs.request.Requested.{books_at}
use Rattle.gpu_descriptor.proofs.table.Rising.{id_of}
use Rattle.gpu_descriptor.proofs.table.RowAt.{IsAt, present}
use Rattle.gpu_descriptor.proofs.table.TableBooks.{rows_in}
use Rattle.gpu_descriptor.proofs.release.WholeRun.{at_from, at_parts}

-- the row of a key, which has the id
pub record Owns {P : Type 0} (k : Key) (id : ℕ) (es : List (BucketKey × DescriptorBucket P)) : Type 0 where
  pub place : ℕ
  pub bucket : DescriptorBucket P
  pub row : IsAt k es place bucket
  pub has : bucket.id ≡ id

place_parts : {S : Type 0} (i n : ℕ) (x : DescriptorSet S) → at_place i n x ≡ true → (x.id ≡ i) × (x.number ≡ n)
unfolding at_place
place_parts i n x h = (let both = and_parts (nat_eq x.id i) (nat_eq x.number n) h in (eqb-true x.id i both.0, eqb-true x.number n both.1))

placed : {S : Type 0} (i n : ℕ) (x : DescriptorSet S) → x.id ≡ i → x.number ≡ n → at_place i n x ≡ true
unfolding at_place
placed i n x a b = and_from _ _ (eq-eqb x.id i a) (eq-eqb x.number n b)

module _ {P : Type 0} (es : List (BucketKey × DescriptorBucket P)) (rise : rises (stored_ids es) ≡ true) {k : Key} {id : ℕ} (own : Owns k id es) where
  pub own_id : slice_get (stored_ids es) own.place ≡ Some id
  own_id = id_of es own.place (own.row.key, own.bucket) own.row.at ∙ ap Some own.has

  -- what stands where the id does is of the key
  pub own_key : (i : ℕ) (e : BucketKey × DescriptorBucket P) → slice_get es i ≡ Some e → slice_get (stored_ids es) i ≡ Some id → key_of e.0 ≡ k
  own_key i e at there = grind (arith, common_steps, own_id, rises_once, same_Some)

  -- so one key has an id
  pub one_owner : {l : Key} → Owns l id es → l ≡ k
  one_owner other = sym other.row.is ∙ own_key other.place (other.row.key, other.bucket) other.row.at (id_of es other.place (other.row.key, other.bucket) other.row.at ∙ ap Some other.has)

-- a key that has a pool in the books has a row
found_row : {P : Type 0} (name : P → ℕ) (k : Key) (es : List (BucketKey × DescriptorBucket P)) (n : ℕ) (f : Entry) → entry_at (books_of (rows_in name es) k) n ≡ Some f → (i : ℕ) × (v : DescriptorBucket P) × IsAt k es i v
found_row name k [] n f at = absurd (none-some f at)
found_row name k (e ∷ es) n f at = elim (cases_Bool (key_eq (key_of e.0) k)) [
  | inl here ↦ (0, e.1, record { key = e.0; at = refl; is = key_exact.same (key_of e.0) k here })
  | inr other ↦ (let r = found_row name k es n f (rw other at at) in (suc r.0, r.1, record { key = r.2.key; at = r.2.at; is = r.2.is }))
]

id_within : (ids : ℕ × ℕ) (id : ℕ) → is_id_of ids id ≡ true → IsIdOf ids id
id_within ids id h = grind arith

all_at : (p : ℕ → Bool) (xs : List ℕ) → list_all p xs ≡ true → (i x : ℕ) → slice_get xs i ≡ Some x → p x ≡ true
all_at p [] h i x at = absurd (none-some x at)
all_at p (y ∷ ys) h zero x at = (let both = and_parts (p y) (list_all p ys) h in subst (λ (z : ℕ). p z ≡ true) (same_Some y x at) both.0)
all_at p (y ∷ ys) h (suc i) x at = all_at p ys (and_parts (p y) (list_all p ys) h).1 i x at

module _ {P S : Type 0} (name : P → ℕ) (set_name : S → ℕ) (a : Allocations P) (l : Ledger) (es : List (BucketKey × DescriptorBucket P)) (is : a.table ≡ map row_of es) (distinct : IsDistinct key_eq (stored_keys es)) where
  abbrev s : State
  s = state_of name a l

  -- the key of a live set has a row, with the set's id
  pub owns : (t : Item) → 0 < outstanding s t → Owns t.key t.id es
  owns t out =
      let f = outstanding_found s t 0 out in
      let books = books_at a es is name l t.key in
      let r = found_row name t.key es t.number f.0 (ap (λ (b : Bucket). entry_at b t.number) (sym books) ∙ f.1) in
      record { place = r.0; bucket = r.1; row = r.2; has = sym (ap (λ (b : Bucket). b.id) (books ∙ present name distinct r.2)) ∙ f.3 }

  -- the ids of the outstanding sets, from those of the rows
  pub has_ids : rises (stored_ids es) ≡ true → list_all (is_id_of a.ids) (stored_ids es) ≡ true → HasIds name a l
  has_ids rise ranged = record {
    within = λ t out. (let own = owns t out in id_within a.ids t.id (all_at (is_id_of a.ids) (stored_ids es) ranged own.place t.id (own_id es rise own)));
    apart = λ t u out_t out_u same. one_owner es rise (owns u out_u) (subst (λ (n : ℕ). Owns t.key n es) same (owns t out_t));
  }

  -- the first set of a list that is live
  pub first_owns : (x : DescriptorSet S) (xs : List (DescriptorSet S)) → AreOutstanding (items_of set_name (x ∷ xs)) s → Owns x.key.is x.id es
  first_owns x xs out =
      let t = item_of set_name x in
      let one = count_by_yes (λ u. item_eq u t) t (items_of set_name xs) (item_exact.self t) in
      let fits = out t in
      owns t (omega arith)

  module _ (rise : rises (stored_ids es) ≡ true) (k : Key) (id n : ℕ) (own : Owns k id es) where
    -- sets with the key's id are of the key
    pub lie_at : (xs : List (DescriptorSet S)) → AreOutstanding (items_of set_name xs) s → AllByRecursion (λ y. at_place id n y ≡ true) xs → AllByRecursion (λ y. lies_at k n y ≡ true) xs
    lie_at [] out have = tt
    lie_at (x ∷ xs) out have =
        let p = place_parts id n x have.0 in
        let other = first_owns x xs out in
        let key = one_owner es rise own (subst (λ (i : ℕ). Owns x.key.is i es) p.0 other) in
        (at_from k n x key p.1, lie_at xs (out_back set_name (x ∷ []) xs (x ∷ xs) s refl out) have.1)

    -- a set with another id isn't
    pub lies_apart : (x : DescriptorSet S) → AreOutstanding (items_of set_name (x ∷ [])) s → at_place id n x ≡ false → lies_at k n x ≡ false
    lies_apart x out apart = false_from_ne_true (lies_at k n x) (λ h.
        let other = first_owns x [] out in
        let here = at_parts k n x h in
        let ids : other.bucket.id ≡ own.bucket.id = ap (λ (b : Bucket). b.id) (sym (present name distinct other.row) ∙ ap (books_in name (map row_of es)) here.0 ∙ present name distinct own.row) in
        true≢false (sym (placed id n x (sym other.has ∙ ids ∙ own.has) here.1) ∙ apart))

    -- so a run by the id is one by the key
    pub ends_at :
        {T : Type 0} (steps : T → Option (DescriptorSet S) → T → Type 0) (x : DescriptorSet S) (given left : T)
        (xs : List (DescriptorSet S)) (ahead : Option (DescriptorSet S))
        → HoldsAlong steps given (λ zs. AreOutstanding (items_of set_name (x ∷ zs)) s)
        → EndsRun steps (at_place id n) given xs ahead left → EndsRun steps (lies_at k n) given xs ahead left
    ends_at steps x given left xs ahead out came = (
      lie_at xs (out_back set_name (x ∷ []) xs (x ∷ xs) s refl (out xs came.1.0 came.1.1)) came.0,
      came.1,
      apart ahead came.1.2 came.2,
    )
      where
        apart : (o : Option (DescriptorSet S)) → steps came.1.0 o left → IfSome o (λ y. at_place id n y ≡ false) → IfSome o (λ y. lies_at k n y ≡ false)
        apart None step none = tt
        apart (Some y) step other = lies_apart y (out_back set_name (x ∷ xs) (y ∷ []) (x ∷ (xs ++ y ∷ [])) s refl (out (xs ++ y ∷ []) left (Yields-more steps given xs came.1.0 y left came.1.1 step))) other
