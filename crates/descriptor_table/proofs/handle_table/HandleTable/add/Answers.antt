use Rattle.descriptor_table.proofs.Common.{common_steps, [], ◌∷◌, ◌++◌, arith, get_or-append_seam, set-append_seam, values_of, filled, no_slot}
use Rattle.descriptor_table.proofs.Growing.{puts_end}
use Rattle.descriptor_table.proofs.handle_table.HandleTable.add.Goals as goal

pub returns-clause-puts : goal.returns-clause-puts
returns-clause-puts g c =
    let old = values_of c.args.self.now in
    (old ++ filled 0 c.args.value no_slot ∷ [], grind (arith, common_steps, puts_end 0 c.args.value), grind (arith, common_steps, set-append_seam, get_or-append_seam))
