use Rattle.descriptor_table.proofs.Common.{◌≡◌, ℕ, [], ◌∷◌, length, sym, ap, ◌∙◌, arith, common_steps, chain_at}
use Rattle.descriptor_table.proofs.set_table.SetTable.new.Goals as goal

pub invariant_of-result-clause-counted : goal.invariant_of-result-clause-counted
invariant_of-result-clause-counted g c = record { long = ap length c.new-3.ensures.users ∙ sym c.new-2.ensures.layouts; each = λ n lt. absurd (omega (arith, c.new-2.ensures.layouts)) }

-- none of its lists has a slot
empty_at : (k : ℕ) → chain_at (record { first = 0; count = 0 } ∷ record { first = 0; count = 0 } ∷ []) k ≡ record { first = 0; count = 0 }
empty_at k = grind (arith, common_steps)

pub invariant_of-result-clause-sound : goal.invariant_of-result-clause-sound
invariant_of-result-clause-sound g c = grind (arith, common_steps, empty_at)
