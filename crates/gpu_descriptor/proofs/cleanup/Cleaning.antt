-- Cleaning up and trimming: each key loses empty pools.
-- For `sweep`, `trim_layout` and `laws::clean_again`. t is the state that a cleanup or a trim leaves of s, and u what the same leaves of t.
use Rattle.gpu_descriptor.proofs.Common.{if◌then◌else◌, cases_Bool, subst, ◌≡◌, ℕ, suc, Bool, true, false, List, [], ◌∷◌, length, count_by, slice_get, Some, None, inl, inr, refl, sym, ap, ◌∙◌, arith, eq-eqb, ∥∥₁_elim, props, list_any, cases_eq, sum_by-cons}
use Rattle.gpu_descriptor.proofs.Common.{set_of, Item, State, outstanding, HasSize, Agree, HasNoPools, Key, key_eq, Entry, Bucket, no_pools, LiveSet, set_eq, set_exact, count_by_yes, common_steps, LosesEmpty, are_named, gone_of, left_of, pools_lost, with_pools, without_empty}
use Rattle.gpu_descriptor.proofs.Common.{is_empty, none-some, true≢false}
use Rattle.gpu_descriptor.proofs.cleanup.Emptied.{Empties, emptied_agree, emptied_outstanding}
use Rattle.gpu_descriptor.proofs.cleanup.Splitting.{Split, all_go, gone_twice, id_with, is_named_at, left_or_gone, left_twice, none_first, pools_with, split, with_twice}
use Rattle.gpu_descriptor.proofs.lists.Numbers.{entry_at-from}
use Rattle.gpu_descriptor.proofs.release.Places.{outstanding_at}
use Rattle.gpu_descriptor.proofs.table.Exact.{key_exact}

-- a pool without live sets has none allocated
none_live : (live : LiveSet → ℕ) (a : ℕ) → ∥ HasSize live a ∥₁ → ((name : LiveSet) → live name ≡ 0) → a ≡ 0
none_live live a some none = ∥∥₁_elim some (search props) (λ size. elim size.0 as (λ xs. length xs ≡ a → ((name : LiveSet) → count_by (λ x. set_eq x name) xs ≡ live name) → a ≡ 0) [
  | [] ↦ λ long counts. sym long
  | x ∷ xs ↦ λ long counts. (
      let own : count_by (λ y. set_eq y x) (x ∷ xs) ≡ suc (count_by (λ y. set_eq y x) xs) = count_by_yes (λ y. set_eq y x) x xs (set_exact.self x) in
      grind (arith, common_steps))
] size.1 size.2)

-- with nothing outstanding each pool is empty
pub all_empty : (s : State) → Agree s → ((i : Item) → outstanding s i ≡ 0) → (k : Key) (i : ℕ) (e : Entry) → slice_get (s.books k).pools i ≡ Some e → is_empty e ≡ true
all_empty s agree nothing k i e at =
    let b = s.books k in
    let here = entry_at-from b i e (agree.rising k) at in
    let booked = agree.booked k i e at in
    let zero_live : (x : LiveSet) → booked.0.live x ≡ 0 = λ x. elim (cases_eq 0 (booked.0.live x)) [
      | inl none ↦ sym none
      | inr some ↦ (
          let counts = booked.2.sets x (omega arith) in
          let t : Item = record { key = k; id = b.id; number = e.number; name = x.name } in
          let one : set_of t ≡ x = λ j. record { name = x.name; counts = sym counts j } in
          ap booked.0.live (sym one) ∙ sym (outstanding_at s t e booked.0 refl here booked.1) ∙ nothing t)
    ] in
    eq-eqb e.allocated 0 (none_live booked.0.live e.allocated booked.2.allocated zero_live)

module _ (everywhere : Bool) where
  -- what is left of a key's pools, and what goes
  abbrev left : State → Key → List Entry
  left s k = left_of everywhere (s.books k).pools

  abbrev gone : State → Key → List Entry
  gone s k = gone_of everywhere (s.books k).pools

  pub pools_left : (s t : State) → LosesEmpty everywhere s t → (k : Key) → (t.books k).pools ≡ left s k
  pools_left s t less k = ap (λ (b : Bucket). b.pools) (less.books k) ∙ pools_with (s.books k) (left s k)

  -- a second time nothing changes, and no pool goes
  pub again : (s t u : State) → LosesEmpty everywhere s t → LosesEmpty everywhere t u → u ≡ t
  again s t u first second =
      let none : (k : Key) → gone t k ≡ [] = λ k. ap (gone_of everywhere) (pools_left s t first k) ∙ gone_twice everywhere (s.books k).pools in
      let books : (k : Key) → u.books k ≡ t.books k = λ k.
      second.books k ∙ ap (λ (b : Bucket). with_pools b (left_of everywhere b.pools)) (first.books k) ∙ with_twice (s.books k) everywhere (left s k) (left_twice everywhere (s.books k).pools) ∙ sym (first.books k) in
      let ledger : (pool : ℕ) → u.ledger pool ≡ t.ledger pool = λ pool. second.kept pool (λ k. ap (λ (es : List Entry). are_named es pool) (none k)) in
      λ i. record { books = λ k. books k i; ledger = λ pool. ledger pool i }

  pub again_none : (keys : List Key) (s t : State) → LosesEmpty everywhere s t → pools_lost everywhere keys t ≡ 0
  again_none [] s t less = refl
  again_none (k ∷ keys) s t less = grind (arith, common_steps, gone, gone_twice, pools_left, sum_by-cons, (again_none keys s t less))

  -- with no set outstanding no key has a pool left, and no pool of the books is live
  pub nothing_left : (s t : State) → Agree s → ((i : Item) → outstanding s i ≡ 0) → LosesEmpty everywhere s t → (k : Key) → t.books k ≡ no_pools
  nothing_left s t agree nothing less k = less.books k ∙ ap (with_pools (s.books k)) (all_go everywhere (s.books k).pools (all_empty s agree nothing k))

  pub no_pool_left : (s t : State) → Agree s → ((i : Item) → outstanding s i ≡ 0) → LosesEmpty everywhere s t → HasNoPools t
  no_pool_left s t agree nothing less k = ap (λ (b : Bucket). b.pools) (nothing_left s t agree nothing less k)

  pub all_gone : (s t : State) → Agree s → ((i : Item) → outstanding s i ≡ 0) → LosesEmpty everywhere s t → (k : Key) (i : ℕ) (e : Entry) → slice_get (s.books k).pools i ≡ Some e → t.ledger e.pool ≡ None
  all_gone s t agree nothing less k i e at = elim (left_or_gone (s.books k).pools (left s k) (gone s k) (split everywhere (s.books k).pools) i e at) [
    | inl l ↦ absurd (none-some e (ap (λ es. slice_get es l.0) (sym (all_go everywhere (s.books k).pools (all_empty s agree nothing k))) ∙ l.1))
    | inr g ↦ less.gone k e.pool (is_named_at (gone s k) g.0 e g.1)
  ]

  -- so empty pools go: books and ledger agree afterwards, and the same sets are outstanding (`takes_none`)
  pub emptied : (s t : State) → LosesEmpty everywhere s t → Empties s t
  emptied s t less = record {
    left = left s;
    gone = gone s;
    split = λ k. split everywhere (s.books k).pools;
    pools = pools_left s t less;
    id = λ k i e at. ap (λ (b : Bucket). b.id) (less.books k) ∙ id_with (s.books k) (left s k) i e at;
    lost = less.gone;
    kept = less.kept;
  }

  pub clean_agrees : (s t : State) → Agree s → LosesEmpty everywhere s t → Agree t
  clean_agrees s t agree less = emptied_agree (emptied s t less) agree

  pub takes_none : (s t : State) → Agree s → LosesEmpty everywhere s t → (i : Item) → outstanding t i ≡ outstanding s i
  takes_none s t agree less i = emptied_outstanding (emptied s t less) agree i

  -- where finitely many keys have pools, it is known which pools go
  pub once : (keys : List Key) (s t u : State) → ((k : Key) → list_any (λ l. key_eq l k) keys ≡ false → (s.books k).pools ≡ []) → LosesEmpty everywhere s t → LosesEmpty everywhere s u → t ≡ u
  once keys s t u covers first second = grind arith

-- a trim of one key: its empty pools go
pub emptied_key : (k : Key) (s : State) → Empties s (without_empty k s)
emptied_key k s = record {
  left = λ l. ((without_empty k s).books l).pools;
  gone = λ l. if key_eq k l then gone_of true (s.books k).pools else [];
  split = λ l. elim (cases_Bool (key_eq k l)) [
    | inl own ↦ rw own (subst (λ (x : Key). Split (s.books x).pools (left_of true (s.books k).pools) (gone_of true (s.books k).pools)) (key_exact.same k l own) (split true (s.books k).pools))
    | inr other ↦ rw other (none_first (s.books l).pools)
  ];
  pools = λ l. refl;
  id = λ l i e at. elim (cases_Bool (key_eq k l)) [ inl own ↦ rw own (ap (λ (x : Key). (s.books x).id) (key_exact.same k l own)) | inr other ↦ rw other refl ];
  lost = λ l pool named. elim (cases_Bool (key_eq k l)) [ inl own ↦ rw (rw own at named) refl | inr other ↦ absurd (true≢false (sym (rw other at named))) ];
  kept = λ pool none. rw (rw (key_exact.self k) at (none k)) refl;
}
