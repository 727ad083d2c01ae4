use Rattle.descriptor_table.proofs.Common.{common_steps, ◌+◌, arith}
use Rattle.descriptor_table.proofs.Counts.{there_counts}
use Rattle.descriptor_table.proofs.Relisted.{list_is}
use Rattle.descriptor_table.proofs.set_table.SetTable.kept_count.Goals as goal

pub returns-clause-count : goal.returns-clause-count
returns-clause-count g c = grind (arith, common_steps, there_counts c.args.self.now c.args.layout)

pub returns-clause-few : goal.returns-clause-few
returns-clause-few g c = let s = c.args.self.now in grind (arith, common_steps, list_is s.lists c.args.layout, s.sound.few (c.args.layout + 2))
