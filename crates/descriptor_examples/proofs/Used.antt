-- A pool that is created and destroyed.
use Rattle.std.proofs.Common.{◌≡◌, ℕ, List, None, Some, inl, inr, nat_eq, eqb-true, refl, sym, ap, ◌∙◌}
use Rattle.std.proofs.Math.Path.{fun_ext}
use Rattle.std.specs.Map.{update}
use Rattle.std.proofs.lemmas.Bool.{cases_Bool}
use Rattle.std.proofs.lemmas.Map.{update_here}
use Rattle.gpu_descriptor_types.specs.Ledger.{Ledger, HasNoSets, after_create, after_destroy, fresh}

-- a pool that was just created has no sets
pub empty_pool : (l m : Ledger) (counts : List ℕ) (capacity flags name : ℕ) → m ≡ after_create counts capacity flags name l → HasNoSets name m
empty_pool l m counts capacity flags name is = record {
  pool = fresh counts capacity flags;
  is_live = ap (λ (x : Ledger). x.pools name) is ∙ update_here l.pools name (Some (fresh counts capacity flags));
  empty = λ x. refl;
}

-- when it is destroyed, the pools are as before
pub came_and_went : (l m n : Ledger) (counts : List ℕ) (capacity flags name : ℕ) → l.pools name ≡ None → m ≡ after_create counts capacity flags name l → n ≡ after_destroy name m → n.pools ≡ l.pools
came_and_went l m n counts capacity flags name none made gone = ap (λ (x : Ledger). x.pools) gone ∙ ap (λ (x : Ledger). update nat_eq x.pools name None) made ∙ fun_ext (λ q. elim (cases_Bool (nat_eq name q)) [
  | inl same ↦ rw same (sym (ap l.pools (sym (eqb-true name q same)) ∙ none))
  | inr other ↦ rw other refl
])
