-- What calls keep where nothing changed, and one after another.
use Rattle.gpu_descriptor.proofs.Common.{◌≡◌, ◌≤◌, ◌∙◌, side, Meaning, Ledger, Allocations, arith, Agrees, marked_load_of, pool_load_of, common_steps}
use Rattle.gpu_descriptor.specs.Caller.Keeps.{Keeps}

-- nothing changed
module _ {L P S : Type 0} {means : Meaning L P S} {old new : Allocations P} {before after : Ledger} (same : new ≡ old) (ledger : after ≡ before) where
  pub keeps_still : Agrees means.pool_name old before → marked_load_of new ≤ new.limit → pool_load_of new ≤ new.limit → Keeps means (side old before) (side new after)
  keeps_still agree load pool_load = grind (arith, common_steps)

pub keeps_through : {L P S : Type 0} {means : Meaning L P S} {a b c : Allocations P} {l m n : Ledger} → Keeps means (side a l) (side b m) → Keeps means (side b m) (side c n) → Keeps means (side a l) (side c n)
keeps_through {L} {P} {S} {means} {a} {b} {c} {l} {m} {n} p q = search (arith, ◌∙◌)
