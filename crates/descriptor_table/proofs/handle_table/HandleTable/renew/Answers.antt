use Rattle.descriptor_table.proofs.Common.{common_steps, refl, set, arith, set-set, values_of, filled, slot_at, is_usable}
use Rattle.descriptor_table.proofs.Listed.{slot_set, test_within}
use Rattle.descriptor_table.proofs.Renewing.{puts_there}
use Rattle.descriptor_table.proofs.handle_table.HandleTable.renew.Goals as goal

pub returns-clause-puts : goal.returns-clause-puts
returns-clause-puts g c =
    let old = values_of c.args.self.now in
    let p = c.args.place in
    let within = test_within is_usable old p refl c.requires in
    (set old p (filled 0 c.args.value (slot_at old p)), puts_there 0 c.args.value p old _ c.requires refl, grind (arith, common_steps, set-set, slot_set old p (filled 0 c.args.value (slot_at old p)) within))
