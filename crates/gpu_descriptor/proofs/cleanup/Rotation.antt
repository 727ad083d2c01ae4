-- Pools are taken from the front, one after another: an empty one is destroyed, and any other goes to the back.
-- For `destroy_without_sets`, the loop of a trim. old are the pools before it, now those after n were taken, and x is the next; after
-- the last one the pools with sets are left, in their order (`end`).
use Rattle.gpu_descriptor.proofs.Common.{common_steps, ◌≡◌, ℕ, suc, ◌+◌, ◌<◌, ◌≤◌, Bool, true, false, nat_lt, List, [], ◌∷◌, ◌++◌, length, take, drop, map, filter, slice_get, Some, None, inl, inr, refl, sym, ap, ◌∙◌, subst, arith, eq-eqb, ne_eqb, lt-ltb, ltb-false, ltb-true, sum_by, cases_Bool, append-nil}
use Rattle.gpu_descriptor.proofs.Common.{All, append_assoc, length-append, map-append, list_any-append, if◌then◌else◌, take_all, drop_all, Ledger, HasNoSets, after_destroy, DescriptorPool, Key, Entry, AreBookedIn, ledger_but, are_named, gone_of, left_of, is_empty, entry_of, has_sets, more_destroyed}
use Rattle.std.proofs.lemmas.List.Elements.{All-head, All-tail, All-weaker, filter-append, filter_passes}
use Rattle.gpu_descriptor.proofs.cleanup.RowsCleaned.{sum_filter}
use Rattle.gpu_descriptor.proofs.lists.AtPlaces.{drop_at, take_get}
use Rattle.gpu_descriptor.proofs.release.FrontPool.{front_unused, step_stored}

pub none_destroyed : (l : Ledger) → l ≡ ledger_but [] l
none_destroyed l = (let same : l.counters.destroyed ≡ l.counters.destroyed + 0 = omega arith in λ i. record { pools = l.pools; counters = record l.counters { destroyed = same i } })

module _ {P : Type 0} (name : P → ℕ) (k : Key) where
  abbrev entries : List (DescriptorPool P) → List Entry
  entries pools = map (entry_of name) pools

  -- the pools and the ledger after the first n were taken
  pub record Turning (old now : List (DescriptorPool P)) (n : ℕ) (before after : Ledger) : Type 0 where
    pub pools : now ≡ drop n old ++ filter has_sets (take n old)
    -- those that were not are in the ledger as the books say
    pub stored : AreBookedIn k after.pools (entries (drop n old))
    pub ledger : after ≡ ledger_but (gone_of true (entries (take n old))) before

  pub start : (old : List (DescriptorPool P)) (l : Ledger) → AreBookedIn k l.pools (entries old) → Turning old old 0 l l
  start old l stored = record { pools = sym (append-nil old); stored = stored; ledger = none_destroyed l }

  module _ (old now : List (DescriptorPool P)) (n : ℕ) (before after : Ledger) (turned : Turning old now n before after) (x : DescriptorPool P) (at : slice_get old n ≡ Some x) where
    -- the next pool is the first, and is in the ledger as the books say
    pub first : now ≡ x ∷ (drop (suc n) old ++ filter has_sets (take n old))
    first = turned.pools ∙ ap (λ l. l ++ filter has_sets (take n old)) (drop_at old n x at)

    next_stored : AreBookedIn k after.pools (entry_of name x ∷ entries (drop (suc n) old))
    next_stored = (let is : entries (drop n old) ≡ entry_of name x ∷ entries (drop (suc n) old) = ap entries (drop_at old n x at) in subst (λ l. AreBookedIn k after.pools l) is turned.stored)

    -- with this pool: those that stay, and those that go
    kept_more : (b : Bool) → has_sets x ≡ b → filter has_sets (take (suc n) old) ≡ filter has_sets (take n old) ++ (if b then x ∷ [] else [])
    kept_more b is = ap (filter has_sets) (take_get old n x at) ∙ filter-append has_sets (take n old) (x ∷ []) ∙ ap (λ l. filter has_sets (take n old) ++ l) (one b is)
      where
        one : (b : Bool) → has_sets x ≡ b → filter has_sets (x ∷ []) ≡ (if b then x ∷ [] else [])
        one true h = rw h refl
        one false h = rw h refl

    gone_more : (b : Bool) → is_empty (entry_of name x) ≡ b → gone_of true (entries (take (suc n) old)) ≡ gone_of true (entries (take n old)) ++ (if b then entry_of name x ∷ [] else [])
    gone_more b is =
        ap (λ l. gone_of true (entries l)) (take_get old n x at)
        ∙ ap (filter is_empty) (map-append (entry_of name) (take n old) (x ∷ []))
        ∙ filter-append is_empty (entries (take n old)) (entry_of name x ∷ [])
        ∙ ap (λ l. gone_of true (entries (take n old)) ++ l) (one b is)
      where
        one : (b : Bool) → is_empty (entry_of name x) ≡ b → filter is_empty (entry_of name x ∷ []) ≡ (if b then entry_of name x ∷ [] else [])
        one true h = rw h refl
        one false h = rw h refl

    -- a pool with sets goes to the back
    pub goes_back : 0 < x.allocated → (now' : List (DescriptorPool P)) → now' ≡ (drop (suc n) old ++ filter has_sets (take n old)) ++ x ∷ [] → Turning old now' (suc n) before after
    goes_back some now' is =
        let full : is_empty (entry_of name x) ≡ false = ne_eqb x.allocated 0 (λ none. omega arith) in
        let rest = next_stored in
        record {
          pools = is ∙ append_assoc (drop (suc n) old) (filter has_sets (take n old)) (x ∷ []) ∙ ap (λ l. drop (suc n) old ++ l) (sym (kept_more true (lt-ltb 0 x.allocated some)));
          stored = record {
            distinct = λ i j d e at at' same. (let both : suc i ≡ suc j = rest.distinct (suc i) (suc j) d e at at' same in omega arith);
            each = λ i e at. rest.each (suc i) e at;
          };
          ledger = turned.ledger ∙ ap (λ l. ledger_but l before) (sym (gone_more false full ∙ append-nil (gone_of true (entries (take n old)))));
        }

    -- an empty one has no sets on the device
    pub unused : x.allocated ≡ 0 → HasNoSets (name x.pool) after
    unused none = front_unused k (entry_of name x) (entries (drop (suc n) old)) after next_stored none

    pub destroyed : x.allocated ≡ 0 → (now' : List (DescriptorPool P)) → now' ≡ drop (suc n) old ++ filter has_sets (take n old) → (after' : Ledger) → after' ≡ after_destroy (name x.pool) after → Turning old now' (suc n) before after'
    destroyed none now' is after' done =
        let empty : is_empty (entry_of name x) ≡ true = eq-eqb x.allocated 0 none in
        let no_sets : has_sets x ≡ false = ap (nat_lt 0) none in
        let gone = gone_of true (entries (take n old)) in
        let pools : (p : ℕ) → after'.pools p ≡ (if are_named (gone ++ entry_of name x ∷ []) p then None else before.pools p) = λ p.
        ap (λ (l : Ledger). l.pools p) (done ∙ ap (after_destroy (name x.pool)) turned.ledger) ∙ one_more gone p in
        let counters : after'.counters ≡ more_destroyed (length (gone ++ entry_of name x ∷ [])) before.counters =
        ap (λ (l : Ledger). l.counters) (done ∙ ap (after_destroy (name x.pool)) turned.ledger)
        ∙ (let long = length-append gone (entry_of name x ∷ []) in let e : before.counters.destroyed + length gone + 1 ≡ before.counters.destroyed + length (gone ++ entry_of name x ∷ []) = omega arith in λ i. record before.counters { destroyed = e i }) in
        record {
          pools = is ∙ ap (λ l. drop (suc n) old ++ l) (sym (kept_more false no_sets ∙ append-nil (filter has_sets (take n old))));
          stored = rw done (step_stored k (entry_of name x) (entries (drop (suc n) old)) after.pools next_stored);
          ledger = (λ i. record { pools = λ p. pools p i; counters = counters i }) ∙ ap (λ l. ledger_but l before) (sym (gone_more true empty));
        }
      where
        one_more : (gone : List Entry) (p : ℕ) → (after_destroy (name x.pool) (ledger_but gone before)).pools p ≡ (if are_named (gone ++ entry_of name x ∷ []) p then None else before.pools p)
        one_more gone p = grind (arith, common_steps, list_any-append)

  pub as_turned : (old now : List (DescriptorPool P)) (n m : ℕ) (before after after' : Ledger) → n ≡ m → after ≡ after' → Turning old now n before after → Turning old now m before after'
  as_turned old now n m before after after' same is turned = subst (λ l. Turning old now m before l) is (subst (λ i. Turning old now i before after) same turned)

  pub end : (old now : List (DescriptorPool P)) (n : ℕ) (before after : Ledger) → length old ≤ n → Turning old now n before after → (now ≡ filter has_sets old) × (after ≡ ledger_but (gone_of true (entries old)) before)
  end old now n before after le turned = grind (arith, common_steps, drop_all, entries, take_all)

-- ---- the pools with sets

module _ {P : Type 0} where
  pub entries_left : (name : P → ℕ) (pools : List (DescriptorPool P)) → map (entry_of name) (filter has_sets pools) ≡ filter (λ e. nat_lt 0 e.allocated) (map (entry_of name) pools)
  entries_left name [] = refl
  entries_left name (p ∷ pools) = grind (arith, common_steps, (entries_left name pools))

  pub none_empty : (name : P → ℕ) (pools : List (DescriptorPool P)) → filter has_sets pools ≡ pools → map (entry_of name) pools ≡ left_of true (map (entry_of name) pools)
  none_empty name pools full = ap (map (entry_of name)) (sym full) ∙ entries_left name pools

  pub length_left : (pools : List (DescriptorPool P)) → length (filter has_sets pools) ≤ length pools
  length_left [] = omega arith
  length_left (p ∷ pools) = (let rest = length_left pools in elim (cases_Bool (has_sets p)) [ inl some ↦ rw some (omega arith) | inr none ↦ rw none (omega arith) ])

  -- each of them has one, and where each pool has one all are left
  abbrev pub Has : DescriptorPool P → Type 0
  Has p = 0 < p.allocated

  pub each_left : (pools : List (DescriptorPool P)) → All Has (filter has_sets pools)
  each_left pools = All-weaker _ _ (λ p some. ltb-true 0 p.allocated some) (filter has_sets pools) (filter_passes has_sets pools)

  pub all_left : (pools : List (DescriptorPool P)) → All Has pools → filter has_sets pools ≡ pools
  all_left [] all = refl
  all_left (p ∷ pools) all = rw (lt-ltb 0 p.allocated (All-head Has p pools all)) (ap (λ l. p ∷ l) (all_left pools (All-tail Has p pools all)))

  -- no other pool has one
  pub sets_left : (pools : List (DescriptorPool P)) → sum_by (λ p. p.allocated) (filter has_sets pools) ≡ sum_by (λ p. p.allocated) pools
  sets_left pools = sum_filter (λ p. p.allocated) has_sets (λ p none. (let le = ltb-false 0 p.allocated none in omega arith)) pools
