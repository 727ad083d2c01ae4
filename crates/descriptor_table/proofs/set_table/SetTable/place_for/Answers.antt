use Rattle.descriptor_table.proofs.Waiting.{last_waits}
use Rattle.descriptor_table.proofs.set_table.SetTable.place_for.Goals as goal

pub place_before-requires-clause-last : goal.place_before-requires-clause-last
place_before-requires-clause-last g c = λ some. (last_waits c.args.self.now some).1
