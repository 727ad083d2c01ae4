-- Taking sets out of their slots, ticket by ticket.
use Rattle.std.specs.Prelude.{◌≡◌, ℕ, [], ◌∷◌, slice_set, Option, None, Some, MatchOption}
use Rattle.std.specs.Slice.Iter.{iter_rest}
use Rattle.gpu_descriptor.specs.declared.set.DescriptorSet.{DescriptorSet}
use Rattle.descriptor_script.specs.Sessions.Tickets.{set_at}
use Rattle.descriptor_script.specs.declared.taking.Taking.{Taking}

-- the set of the next ticket was taken, or no ticket was left
abbrev pub TakesNext : {S : Type 0} → Taking S → Option (DescriptorSet S) → Taking S → Type 0
TakesNext s r t = MatchOption r ((iter_rest s.tickets ≡ []) × (iter_rest t.tickets ≡ []) × (t.slots.sets.items ≡ s.slots.sets.items))
    (λ x. (n : ℕ) × (iter_rest s.tickets ≡ n ∷ iter_rest t.tickets) × (set_at s.slots.sets.items n ≡ Some x) × (t.slots.sets.items ≡ slice_set s.slots.sets.items n None))
