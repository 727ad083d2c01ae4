-- What an allocator leaves of the ledger when it is done, nothing of its own: for `laws::no_pool_is_lost`.
use Rattle.gpu_descriptor.proofs.Common.{Allocations, ◌≡◌, ◌≢◌, ◌⊎◌, ℕ, ◌==◌, false, List, [], ◌∷◌, slice_get, Option, Some, None, inl, inr, refl, sym, ap, ◌∙◌, arith, eqb-false, fun_ext, list_any, cases_Bool, Pool, Ledger, State, Item, outstanding, Agree, HasNoPools}
use Rattle.gpu_descriptor.proofs.Common.{Key, key_eq, Entry, Bucket, HasDistinctKeys, books_of, no_pools, common_steps, LosesEmpty, IsForeign, IsNamed, KeepsForeign, table_of, state_of, none-some}
use Rattle.gpu_descriptor.proofs.cleanup.Cleaning.{no_pool_left}
use Rattle.gpu_descriptor.proofs.cleanup.Splitting.{named_at}
use Rattle.gpu_descriptor.proofs.lists.AtPlaces.{none_at}
use Rattle.gpu_descriptor.proofs.foreign.ForeignPools.{cleaned_foreign, cleaned_loses, foreign_through}
use Rattle.gpu_descriptor.proofs.table.Tables.{first_books, none_behind}

-- ---- nothing is left

-- without pools no place has one
pub nothing_at : (b : Bucket) (i : ℕ) (e : Entry) → b.pools ≡ [] → slice_get b.pools i ≡ Some e → ⊥
nothing_at b i e empty at = (none-some e (ap (λ es. slice_get es i) (sym empty) ∙ at))

pub all_foreign : (s : State) → HasNoPools s → (name : ℕ) → IsForeign s name
all_foreign s empty name k n e at same = nothing_at (s.books k) n e (empty k) at

-- from no pools, by calls that lose no pool, to a cleanup with no set out: the ledger has the pools that it had
pub restores : (s t u : State) → HasNoPools s → KeepsForeign s t → KeepsForeign t s → Agree t → ((i : Item) → outstanding t i ≡ 0) → LosesEmpty false t u → u.ledger ≡ s.ledger
restores s t u began keeps loses agree nothing clean =
    let kept = foreign_through s t u keeps (cleaned_foreign false t u clean) in
    let lost_none = foreign_through u t s (cleaned_loses false t u clean) loses in
    fun_ext (λ name. same name (s.ledger name) (u.ledger name) refl refl (λ pool live. (kept name pool (all_foreign s began name) live).0) (λ pool live. (lost_none name pool (all_foreign u (no_pool_left false t u agree nothing clean) name) live).0))
  where
    same : (name : ℕ) (before after : Option Pool) → s.ledger name ≡ before → u.ledger name ≡ after → ((pool : Pool) → s.ledger name ≡ Some pool → u.ledger name ≡ Some pool) → ((pool : Pool) → u.ledger name ≡ Some pool → s.ledger name ≡ Some pool) → u.ledger name ≡ s.ledger name
    same name (Some pool) after was is to from = to pool was ∙ sym was
    same name None (Some pool) was is to from = is ∙ sym (from pool is)
    same name None None was is to from = is ∙ sym was

-- ---- a pool is in the books, or not

pub none_in : (es : List Entry) (name : ℕ) → list_any (λ e. e.pool == name) es ≡ false → (i : ℕ) (e : Entry) → slice_get es i ≡ Some e → e.pool ≢ name
none_in es name none i e at = eqb-false e.pool name (none_at (λ d. d.pool == name) es i e none at)

-- the books of a table name a pool, or it is foreign
in_table : (l : ℕ → Option Pool) (rows : List (Key × Bucket)) → HasDistinctKeys rows → (name : ℕ) → IsNamed (record { books = books_of rows; ledger = l }) name ⊎ IsForeign (record { books = books_of rows; ledger = l }) name
in_table l [] distinct name = inr (λ k n e at same. nothing_at no_pools n e refl at)
in_table l (row ∷ rows) distinct name = elim (cases_Bool (list_any (λ e. e.pool == name) row.1.pools)) [
  | inl own ↦ (
      let f = named_at row.1.pools name own in
      let b = row.1 in
      inl (row.0, f.0, f.1, ap (λ (x : Bucket). slice_get x.pools f.0) (first_books row rows) ∙ f.2, f.3))
  | inr none ↦ elim (in_table l rows distinct.1 name) [
    | inl later ↦ elim (cases_Bool (key_eq row.0 later.0)) [
      | inl at ↦ absurd (nothing_at no_pools later.1 later.2 refl (ap (λ (x : Bucket). slice_get x.pools later.1) (sym (none_behind row rows distinct later.0 at)) ∙ later.3))
      | inr other ↦ (
          grind (arith, common_steps))
    ]
    | inr foreign ↦ inr (λ k n e at. elim (cases_Bool (key_eq row.0 k)) [
      | inl own ↦ (
          grind (arith, common_steps, none_in))
      | inr other ↦ (
          grind (arith, common_steps))
    ])
  ]
]

pub named_or_foreign : (P : Type 0) → (name : P → ℕ) (a : Allocations P) (l : Ledger) → HasDistinctKeys (table_of name a) → (pool : ℕ) → IsNamed (state_of name a l) pool ⊎ IsForeign (state_of name a l) pool
named_or_foreign P name a l distinct pool = in_table l.pools (table_of name a) distinct pool
