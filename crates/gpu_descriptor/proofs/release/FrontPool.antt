-- One pool leaves the front.
-- For `destroy_empty_front`: each turn of its loop destroys x, the first of items, and news are left; keep is how many are to stay.
use Rattle.gpu_descriptor.proofs.Common.{◌≡◌, ◌≢◌, ℕ, suc, ◌<◌, ◌≤◌, true, List, [], ◌∷◌, length, map, drop, get_or, Option, None, inl, inr, refl, sym, ap, ◌∙◌, arith, eq-eqb, cases_eq, length-map, Pool, Ledger, HasNoSets, after_destroy, DescriptorPool, Key, Entry, Bucket, AreBookedIn, front_but}
use Rattle.gpu_descriptor.proofs.Common.{bucket_but_front, ledger_but_front, is_empty, entry_of}
use Rattle.gpu_descriptor.proofs.table.Exact.{bucket}
use Rattle.gpu_descriptor.proofs.release.Fronts.{trim_yes, trim_short}
use Rattle.gpu_descriptor.proofs.release.Places.{size_pos}
use Rattle.gpu_descriptor.proofs.foreign.LedgerPools.{with_pool, with_pool_other}

-- what is left in the end is the same from before the turn and from after it, in the books and in the ledger
pub step_books : (keep id : ℕ) (x : Entry) (es : List Entry) → keep ≤ length es → is_empty x ≡ true → bucket_but_front keep (bucket id es) ≡ bucket_but_front keep (bucket id (x ∷ es))
step_books keep id x es le empty = grind (arith, trim_yes)

pub step_ledger : (keep id : ℕ) (x : Entry) (es : List Entry) (l : Ledger) → keep ≤ length es → is_empty x ≡ true → ledger_but_front keep (bucket id es) (after_destroy x.pool l) ≡ ledger_but_front keep (bucket id (x ∷ es)) l
step_ledger keep id x es l le empty = grind (arith, trim_yes)

-- if none of its sets is allocated, it has none on the device
pub front_unused : (k : Key) (x : Entry) (es : List Entry) (l : Ledger) → AreBookedIn k l.pools (x ∷ es) → x.allocated ≡ 0 → HasNoSets x.pool l
front_unused k x es l stored none =
    let found = stored.each 0 x refl in
    record {
      pool = found.0;
      is_live = found.1;
      empty = λ name. elim (cases_eq 0 (found.0.live name)) [
        | inl same ↦ sym same
        | inr some ↦ absurd (let bad = size_pos found.0.live x.allocated name found.2.allocated (omega arith) in omega arith)
      ];
    }

pub step_stored : (k : Key) (x : Entry) (es : List Entry) (pools : ℕ → Option Pool) → AreBookedIn k pools (x ∷ es) → AreBookedIn k (with_pool pools x.pool None) es
step_stored k x es pools stored = record {
  distinct = λ i j d e at at' same. let both : suc i ≡ suc j = stored.distinct (suc i) (suc j) d e at at' same in let one : i ≡ j = omega arith in one;
  each = λ i e at.
      let had = stored.each (suc i) e at in
      let other : e.pool ≢ x.pool = λ same. let both : suc i ≡ 0 = stored.distinct (suc i) 0 e x at refl same in omega arith in
      (had.0, with_pool_other pools x.pool e.pool None other ∙ had.1, had.2);
}

pub still : (keep : ℕ) (b : Bucket) (l : Ledger) → front_but keep b ≡ 0 → ledger_but_front keep b l ≡ l
still keep b l none = grind arith

module _ {P : Type 0} (name : P → ℕ) (keep : ℕ) where
  -- the first of more stored pools than are to stay
  pub record IsFront (items : List (DescriptorPool P)) (p : DescriptorPool P) : Type 0 where
    pub long : keep < length items
    pub is : p ≡ get_or items 0 p
    pub empty : p.allocated ≡ 0

  pub is_front : (items : List (DescriptorPool P)) (p q : DescriptorPool P) → keep < length items → p ≡ get_or items 0 p → q ≡ get_or items 0 q → q.allocated ≡ 0 → IsFront items p
  is_front [] p q long is other empty = absurd (omega arith)
  is_front (x ∷ items) p q long is other empty = record { long = long; is = is; empty = ap (λ (y : DescriptorPool P). y.allocated) (is ∙ sym other) ∙ empty }

  abbrev pub stored : Key → List (DescriptorPool P) → (ℕ → Option Pool) → Type 0
  stored k items pools = AreBookedIn k pools (map (entry_of name) items)

  pub turn_unused : (k : Key) (items : List (DescriptorPool P)) (p : DescriptorPool P) (l : Ledger) → IsFront items p → stored k items l.pools → HasNoSets (name p.pool) l
  turn_unused k [] p l front agree = (let bad = front.long in absurd (omega arith))
  turn_unused k (x ∷ items) p l front agree = grind (arith, front_unused)

  -- one turn of the loop
  pub record Turned (k : Key) (id : ℕ) (items news : List (DescriptorPool P)) (before after : Ledger) : Type 0 where
    pub agree : stored k news after.pools
    pub books : bucket_but_front keep (bucket id (map (entry_of name) news)) ≡ bucket_but_front keep (bucket id (map (entry_of name) items))
    pub ledger : ledger_but_front keep (bucket id (map (entry_of name) news)) after ≡ ledger_but_front keep (bucket id (map (entry_of name) items)) before

  pub turn : (k : Key) (id : ℕ) (items news : List (DescriptorPool P)) (p : DescriptorPool P) (l after : Ledger) → IsFront items p → news ≡ drop 1 items → after ≡ after_destroy (name p.pool) l → stored k items l.pools → Turned k id items news l after
  turn k id [] news p l after front new taken agree = (let bad = front.long in absurd (omega arith))
  turn k id (x ∷ items) news p l after front new taken agree =
      let is : p ≡ x = front.is in
      let long : keep < suc (length items) = front.long in
      let same = length-map items (entry_of name) in
      let le : keep ≤ length (map (entry_of name) items) = omega arith in
      let gone : after ≡ after_destroy (name x.pool) l = taken ∙ ap (λ (z : DescriptorPool P). after_destroy (name z.pool) l) is in
      let empty : is_empty (entry_of name x) ≡ true = eq-eqb x.allocated 0 (ap (λ (z : DescriptorPool P). z.allocated) (sym is) ∙ front.empty) in
      rw (new, gone) (record {
        agree = step_stored k (entry_of name x) (map (entry_of name) items) l.pools agree;
        books = step_books keep id (entry_of name x) (map (entry_of name) items) le empty;
        ledger = step_ledger keep id (entry_of name x) (map (entry_of name) items) l le empty;
      })

  -- a front with sets stays, and so do the last pools that are kept
  pub stop_full : (id : ℕ) (items : List (DescriptorPool P)) (q : DescriptorPool P) → keep < length items → q ≡ get_or items 0 q → (q.allocated ≡ 0 → ⊥) → front_but keep (bucket id (map (entry_of name) items)) ≡ 0
  stop_full id [] q long is full = absurd (omega arith)
  stop_full id (x ∷ items) q long is full = grind arith

  pub stop_short : (id : ℕ) (items : List (DescriptorPool P)) → length items ≤ keep → front_but keep (bucket id (map (entry_of name) items)) ≡ 0
  stop_short id items short = trim_short keep (map (entry_of name) items) (let same = length-map items (entry_of name) in omega arith)
