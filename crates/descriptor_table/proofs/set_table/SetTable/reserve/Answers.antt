use Rattle.descriptor_table.proofs.Common.{common_steps, arith}
use Rattle.descriptor_table.proofs.Counts.{chain_counts}
use Rattle.descriptor_table.proofs.set_table.SetTable.reserve.Goals as goal

pub returns-then-additional-vacant-clause-room : goal.returns-then-additional-vacant-clause-room
returns-then-additional-vacant-clause-room g c = grind (arith, common_steps, chain_counts c.args.self.now 0)

pub returns-clause-room : goal.returns-clause-room
returns-clause-room g c = grind (arith, common_steps, chain_counts c.args.self.now 0)

pub returns-clause-fits : goal.returns-clause-fits
returns-clause-fits g c = grind (arith, common_steps, chain_counts c.args.self.now 0)

pub returns-clause-full : goal.returns-clause-full
returns-clause-full g c = grind (arith, common_steps, chain_counts c.args.self.now 0)
