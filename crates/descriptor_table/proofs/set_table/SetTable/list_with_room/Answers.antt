use Rattle.descriptor_table.proofs.Common.{common_steps, arith}
use Rattle.descriptor_table.proofs.Counts.{there_counts}
use Rattle.descriptor_table.proofs.set_table.SetTable.list_with_room.Goals as goal

-- that of a removed layout has no room
pub returns : goal.returns
returns g c = grind (arith, common_steps, there_counts c.args.self.now c.list-layout.result)
