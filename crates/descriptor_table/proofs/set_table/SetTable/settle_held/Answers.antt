use Rattle.descriptor_table.proofs.Common.{arith, common_steps, refl, subst, Becomes, IsBack, Settings, TurnEach, slots_of, used_for, Going, Taken}
use Rattle.descriptor_table.proofs.Turning.{stays_more}
use Rattle.descriptor_table.proofs.set_table.SetTable.settle_held.Goals.{After-take_each}
use Rattle.descriptor_table.proofs.set_table.SetTable.settle_held.Goals as goal

pub returns-clause-back : goal.returns-clause-back
returns-clause-back g c =
    let handles = g.N.SetName.handles_of c.args.names.now in
    let taken = slots_of c.take_each.new.self in
    let kept = c.if-keep_each.ensures in
    let took : TurnEach handles (Becomes (used_for Taken)) (slots_of c.args.self.now) taken = subst (λ l. TurnEach handles (Becomes (used_for Taken)) l taken) (kept.none refl) (c.if-not-take_each.ensures.took refl) in
    let back = subst (λ (s : Settings). TurnEach handles (IsBack (used_for Going) s.removed s.keep) taken (slots_of c.settle_each.new.self)) (stays_more _ _ _ kept.stays c.take_each.ensures.stays).settings c.settle_each.ensures.slots in
    λ t. grind (arith, common_steps, took, back)
