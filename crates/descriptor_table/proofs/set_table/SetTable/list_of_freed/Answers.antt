use Rattle.descriptor_table.proofs.Common.{common_steps, arith}
use Rattle.descriptor_table.proofs.Counts.{there_counts}
use Rattle.descriptor_table.proofs.set_table.SetTable.list_of_freed.Goals as goal

-- that of an old set would have a number that no list has, and that of a removed layout is never below a max
pub returns-clause-may : goal.returns-clause-may
returns-clause-may g c = let numbers = c.args.self.now.sound.numbers in grind (arith, common_steps, there_counts c.args.self.now c.list-layout.result)
