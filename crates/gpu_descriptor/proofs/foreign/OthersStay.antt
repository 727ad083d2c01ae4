-- The pools that are none of the allocator's are a function of books and ledger, and each call leaves it.
-- For the field `others` of Keeps, and `emptied` of Sweeps. a and l are the allocator and its ledger before a call, b and m after it.
use Rattle.gpu_descriptor.proofs.Common.{common_steps, ◌≡◌, ℕ, Bool, true, false, List, [], ◌∷◌, Option, Some, None, inl, inr, refl, sym, ap, ◌∙◌, arith, fun_ext, list_any, cases_Bool, nil_from_length, ∥∥₁_elim, props, Pool, Ledger, State, Item, Agree, HasNoPools, count_of, outstanding, Key}
use Rattle.gpu_descriptor.proofs.Common.{Bucket, HasDistinctKeys, books_of, Allocations, LosesEmpty, IsForeign, IsNamed, KeepsForeign, is_named, outstanding_of, state_of, table_of, side, GivesBack, Meaning, DescriptorSet, none-some, true≢false}
use Rattle.gpu_descriptor.specs.Caller.Others.{others_of}
use Rattle.gpu_descriptor.proofs.cleanup.Cleaning.{no_pool_left}
use Rattle.gpu_descriptor.proofs.cleanup.Emptied.{Empties, emptied_foreign, emptied_loses}
use Rattle.gpu_descriptor.proofs.table.Exact.{key_exact}
use Rattle.gpu_descriptor.proofs.foreign.ForeignPools.{cleaned_foreign, cleaned_loses, freed_foreign, freed_loses}
use Rattle.gpu_descriptor.proofs.cleanup.Splitting.{named_at}
use Rattle.gpu_descriptor.proofs.foreign.NoneLost.{all_foreign, none_in}
use Rattle.gpu_descriptor.proofs.sums.OutSets.{out_is_size}
use Rattle.gpu_descriptor.proofs.table.Tables.{absent}
use Rattle.gpu_descriptor.proofs.sums.TableSums.{outstanding_of-table}

found_row : {R : Type 0} (g : R → Bool) (rows : List R) → list_any g rows ≡ true → (row : R) × (g row ≡ true) × ((f : R → Bool) → f row ≡ true → list_any f rows ≡ true)
found_row g [] any = absurd (true≢false (sym any))
found_row g (x ∷ rows) any = grind (arith, (found_row g rows))

module _ (table : List (Key × Bucket)) (l : ℕ → Option Pool) (pool : ℕ) where
  -- whether a table's books name a pool: the test and the statement
  pub named : is_named table pool ≡ true → IsNamed (record { books = books_of table; ledger = l }) pool
  named any = grind (arith, common_steps, named_at, found_row)

  pub unnamed : is_named table pool ≡ false → IsForeign (record { books = books_of table; ledger = l }) pool
  unnamed none k n e at same = grind (arith, absent, found_row, key_exact, none_in)

-- two that each say what the other has are one
one : (was is : Option Pool) → ((p : Pool) → was ≡ Some p → is ≡ Some p) → ((p : Pool) → is ≡ Some p → was ≡ Some p) → is ≡ was
one (Some p) is to from = to p refl
one None (Some p) to from = sym (from p refl)
one None None to from = refl

module _ {P : Type 0} (name : P → ℕ) where
  none_of : (o : Option Pool) → ((p : Pool) → o ≡ Some p → ⊥) → o ≡ None
  none_of None h = refl
  none_of (Some p) h = absurd (h p refl)

  apart : (c : Allocations P) (n : Ledger) (q : ℕ) → is_named (table_of name c) q ≡ true → IsForeign (state_of name c n) q → ⊥
  apart c n q is foreign = (let x = named (table_of name c) n.pools q is in foreign x.0 x.1 x.2 x.3 x.4)

  -- if foreign pools stay and none gets lost, the pools of others are the same; and the other way (`from_others`)
  pub others_stay : (a b : Allocations P) (l m : Ledger) → KeepsForeign (state_of name a l) (state_of name b m) → KeepsForeign (state_of name b m) (state_of name a l) → others_of name b m ≡ others_of name a l
  unfolding others_of
  others_stay a b l m keeps loses = fun_ext (λ q. elim (cases_Bool (is_named (table_of name a) q)) [
    | inl was ↦ elim (cases_Bool (is_named (table_of name b) q)) [
      | inl is ↦ rw was (rw is refl)
      | inr is ↦ rw was (rw is (none_of (m.pools q) (λ p live. apart a l q was (loses q p (unnamed (table_of name b) m.pools q is) live).1)))
    ]
    | inr was ↦ elim (cases_Bool (is_named (table_of name b) q)) [
      | inl is ↦ rw was (rw is (sym (none_of (l.pools q) (λ p live. apart b m q is (keeps q p (unnamed (table_of name a) l.pools q was) live).1))))
      | inr is ↦ rw was (rw is (one (l.pools q) (m.pools q) (λ p live. (keeps q p (unnamed (table_of name a) l.pools q was) live).0) (λ p live. (loses q p (unnamed (table_of name b) m.pools q is) live).0)))
    ]
  ])

  pub from_others : (a b : Allocations P) (l m : Ledger) → others_of name b m ≡ others_of name a l → KeepsForeign (state_of name a l) (state_of name b m)
  unfolding others_of
  from_others a b l m same q p foreign live = elim (cases_Bool (is_named (table_of name a) q)) [
    | inl was ↦ absurd (apart a l q was foreign)
    | inr was ↦ (
        let here : others_of name b m q ≡ Some p = ap (λ (f : ℕ → Option Pool). f q) same ∙ rw was live in
        elim (cases_Bool (is_named (table_of name b) q)) [
          | inl is ↦ absurd (none-some p (rw is at here))
          | inr is ↦ (rw is at here, unnamed (table_of name b) m.pools q is)
        ])
  ]

  -- without pools in the books all are others
  pub all_others : (a : Allocations P) (l : Ledger) → HasNoPools (state_of name a l) → others_of name a l ≡ l.pools
  unfolding others_of
  all_others a l empty = fun_ext (λ q. elim (cases_Bool (is_named (table_of name a) q)) [
    | inl is ↦ absurd (let x = named (table_of name a) l.pools q is in all_foreign (state_of name a l) empty q x.0 x.1 x.2 x.3 x.4)
    | inr is ↦ rw is refl
  ])

  pub emptied_others : (a b : Allocations P) (l m : Ledger) → Empties (state_of name a l) (state_of name b m) → others_of name b m ≡ others_of name a l
  emptied_others a b l m less = others_stay a b l m (emptied_foreign less) (emptied_loses less)

  pub cleaned_others : (everywhere : Bool) (a b : Allocations P) (l m : Ledger) → LosesEmpty everywhere (state_of name a l) (state_of name b m) → others_of name b m ≡ others_of name a l
  cleaned_others everywhere a b l m clean = others_stay a b l m (cleaned_foreign everywhere _ _ clean) (cleaned_loses everywhere _ _ clean)

  -- an allocator whose sets are all back, cleaned up, leaves only the pools of others
  pub emptied : (everywhere : Bool) (a b : Allocations P) (l m : Ledger) → HasDistinctKeys (table_of name a) → Agree (state_of name a l) → LosesEmpty everywhere (state_of name a l) (state_of name b m) → outstanding_of a ≡ 0 → m.pools ≡ others_of name a l
  emptied everywhere a b l m distinct agree clean back =
      let s : State = state_of name a l in
      let t : State = state_of name b m in
      let sets = out_is_size s (outstanding_of a) agree (record { table = table_of name a; distinct = distinct; keeps = λ k. refl; total = sym (outstanding_of-table name a) }) in
      let nothing : (i : Item) → outstanding s i ≡ 0 = λ i. ∥∥₁_elim sets (search props) (λ all. sym (all.2 i) ∙ ap (count_of i) (nil_from_length all.0 (all.1 ∙ back))) in
      sym (all_others b m (no_pool_left everywhere s t agree nothing clean)) ∙ cleaned_others everywhere a b l m clean

-- the sets of a call that frees went back
pub freed_others : {L P S : Type 0} (means : Meaning L P S) (sets : List (DescriptorSet S)) (calls : ℕ) (old new : Allocations P) (before after : Ledger) → GivesBack means sets calls (side old before) (side new after) → others_of means.pool_name new after ≡ others_of means.pool_name old before
freed_others means sets calls old new before after back = others_stay means.pool_name old new before after (freed_foreign means sets calls old new before after back) (freed_loses means sets calls old new before after back)
