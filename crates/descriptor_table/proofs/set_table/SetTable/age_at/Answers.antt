use Rattle.descriptor_table.proofs.Common.{refl, slots_in}
use Rattle.descriptor_table.proofs.Numbers.{slot_counted}
use Rattle.descriptor_table.proofs.set_table.SetTable.age_at.Goals as goal

pub invariant_of-self-clause-counted : goal.invariant_of-self-clause-counted
invariant_of-self-clause-counted g c = slot_counted c.args.self.now (slots_in c.age.new.self) c.args.place _ c.age.ensures.writes.slots c.requires refl refl
