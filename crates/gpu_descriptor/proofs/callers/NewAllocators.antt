-- An allocator that no key came to agrees with every ledger.
use Rattle.gpu_descriptor.proofs.Common.{ℕ, ◌≡◌, sym, subst, Allocations, Agrees, Ledger}
use Rattle.gpu_descriptor.proofs.release.Places.{empty_agrees}
use Rattle.gpu_descriptor.specs.Caller.Values.{without_keys}

pub new_agrees : {P : Type 0} {a : Allocations P} {limit : ℕ} {ids : ℕ × ℕ} → a ≡ without_keys limit ids → (name : P → ℕ) (l : Ledger) → Agrees name a l
new_agrees is name l = subst (λ x. Agrees name x l) (sym is) (record { rows = tt; books = empty_agrees l.pools })
