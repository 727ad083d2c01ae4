-- What is left once the sets of a request, all of one key k, went back, and how the counters rose. For request.Outcomes.
use Rattle.gpu_descriptor.proofs.Common.{common_steps, ◌+◌, ◌≡◌, ℕ, ◌<◌, false, List, [], ◌∷◌, map, sum_by, inl, inr, refl, sym, ap, ◌∙◌, arith, suc, length, fun_ext, cases_Bool, or_parts, false_from_ne_true, sum_by-cons, list_any, if◌then◌else◌, any_found, count_by_yes, Counters, no_rise, State}
use Rattle.gpu_descriptor.proofs.Common.{Item, item_eq, count_of, Agree, Key, key_eq, Bucket, BucketOf, books_of, no_pools, HasDistinctKeys, set_descriptors, more_released, more_destroyed, given_back, released, pools_gone, spent_front, bucket_less, marked_descriptors, risen, named_row}
use Rattle.gpu_descriptor.proofs.lists.AtPlaces.{count_by_more}
use Rattle.gpu_descriptor.proofs.request.Asks.{same_counters}
use Rattle.gpu_descriptor.proofs.table.Exact.{key_exact, item_exact}
use Rattle.gpu_descriptor.proofs.release.ReleaseAgrees.{none_back}
use Rattle.gpu_descriptor.proofs.sums.Loads.{set_descriptors-none, set_descriptors-add}
use Rattle.gpu_descriptor.proofs.release.Given.{names_key}
use Rattle.gpu_descriptor.proofs.release.Parts.{quiet_key}
use Rattle.gpu_descriptor.proofs.release.Places.{back}
use Rattle.gpu_descriptor.proofs.table.Tables.{key_eq_symm}

-- ---- counters

pub give_back_rise : (gone calls : ℕ) (c : Counters) → more_destroyed gone (more_released calls c) ≡ risen (record no_rise { released = calls; destroyed = gone }) c
give_back_rise gone calls c = same_counters _ _ (omega arith) (omega arith) (omega arith) (omega arith) (omega arith) (omega arith) (omega arith) (omega arith)

-- ---- the pools that go are the key's

module _ (k : Key) (f : Key → ℕ) (none : (l : Key) → key_eq k l ≡ false → f l ≡ 0) where
  -- what is 0 at all keys but k adds up over a table to what it is at k
  others : (j : Key) → j ≡ k → (t : List (Key × Bucket)) → list_any (λ row. key_eq row.0 j) t ≡ false → sum_by f (map (λ row. row.0) t) ≡ 0
  others j is [] h = refl
  others j is (row ∷ t) h = grind (arith, common_steps, key_eq_symm, or_parts, sum_by-cons, (others j is t))

  pub one_row : (t : List (Key × Bucket)) → HasDistinctKeys t → (books_of t k ≡ no_pools → f k ≡ 0) → sum_by f (map (λ row. row.0) t) ≡ f k
  one_row [] h empty = sym (empty refl)
  one_row (row ∷ t) h empty =
      let sum = sum_by-cons f row.0 (map (λ (r : Key × Bucket). r.0) t) in
      elim (cases_Bool (key_eq row.0 k)) [
        | inl at ↦ (
            let is : row.0 ≡ k = key_exact.same row.0 k at in
            let rest = others row.0 is t h.0 in
            let here = ap f is in
            omega arith)
        | inr other ↦ (
            let here = none row.0 (key_eq_symm k row.0 ∙ other) in
            let same : books_of (row ∷ t) k ≡ books_of t k = rw other refl in
            let rest = one_row t h.1 (λ e. empty (same ∙ e)) in
            omega arith)
      ]

-- sets of one key name no other
pub unnamed_key : (k : Key) (m : List Item) → ((u : Item) → 0 < count_of u m → u.key ≡ k) → (l : Key) → key_eq k l ≡ false → names_key m l ≡ false
unnamed_key k m of_key l other = grind (arith, common_steps, any_found, false_from_ne_true, item_exact, key_exact)

-- giving sets back leaves the books of keys that they don't name
pub other_key : (m : List Item) (s : State) → Agree s → (k : Key) → names_key m k ≡ false → (released m s).books k ≡ s.books k
other_key m s agree k none =
    let here : (released m s).books k ≡ (given_back m s).books k = rw none refl in
    let zero : (pool : ℕ) → back m s pool ≡ back [] s pool + back m s pool = λ pool. (let e : back m s pool ≡ 0 + back m s pool = omega arith in e) in
    here ∙ ap (λ (f : ℕ → ℕ). bucket_less f (s.books k)) (fun_ext zero) ∙ quiet_key [] m s agree k none ∙ ap (λ (w : State). w.books k) (none_back s)

-- the pools that go are the key's
pub only_key : (k : Key) (m : List Item) (s : State) (t : List (Key × Bucket)) → HasDistinctKeys t → ((l : Key) → books_of t l ≡ s.books l) → ((u : Item) → 0 < count_of u m → u.key ≡ k) → pools_gone (map (λ row. row.0) t) m s ≡ pools_gone (k ∷ []) m s
only_key k m s t distinct keeps of_key =
    let f : Key → ℕ = λ l. if names_key m l then spent_front ((given_back m s).books l) else 0 in
    let only : (l : Key) → key_eq k l ≡ false → f l ≡ 0 = λ l other. (let unnamed = unnamed_key k m of_key l other in rw unnamed refl) in
    let empty : books_of t k ≡ no_pools → f k ≡ 0 = λ e.
    let is : (given_back m s).books k ≡ no_pools = ap (bucket_less _) (sym (keeps k) ∙ e) in
    let zero : spent_front ((given_back m s).books k) ≡ 0 = ap spent_front is in
    elim (cases_Bool (names_key m k)) [ inl on ↦ rw on zero | inr off ↦ rw off refl ] in
    let one = sum_by-cons f k [] in
    one_row k f only t distinct empty ∙ (omega arith)

-- the keys that callers see are those of the books' table
pub keys_table : {P : Type 0} (name : P → ℕ) (rows : List (Key × BucketOf P)) → map (λ r. r.0) rows ≡ map (λ row. row.0) (map (named_row name) rows)
keys_table name [] = refl
keys_table name (r ∷ rows) = ap (λ (l : List Key). r.0 ∷ l) (keys_table name rows)

-- ---- totals

-- sets of one key have as many descriptors as their number says
pub load_of_items : (k : Key) (m : List Item) → ((u : Item) → 0 < count_of u m → u.key ≡ k) → marked_descriptors m ≡ set_descriptors k (length m)
load_of_items k [] of_key = sym (set_descriptors-none k)
load_of_items k (t ∷ m) of_key =
    let own : count_of t (t ∷ m) ≡ suc (count_of t m) = count_by_yes (λ u. item_eq u t) t m (item_exact.self t) in
    let key : t.key ≡ k = of_key t (omega arith) in
    let one : set_descriptors t.key 1 ≡ set_descriptors k 1 = ap (λ (l : Key). set_descriptors l 1) key in
    let rest = load_of_items k m (λ u some. of_key u (let bound = count_by_more (λ v. item_eq v u) t m in omega arith)) in
    let sum = sum_by-cons (λ (t : Item). set_descriptors t.key 1) t m in
    let parts = set_descriptors-add k 1 (length m) in
    let long : 1 + length m ≡ length (t ∷ m) = omega arith in
    let whole = ap (set_descriptors k) long in
    omega arith
