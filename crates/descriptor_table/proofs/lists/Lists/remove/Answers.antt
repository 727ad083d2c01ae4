use Rattle.descriptor_table.proofs.Relisted.{chain_written}
use Rattle.descriptor_table.proofs.lists.Lists.remove.Goals as goal

pub returns-clause-chains : goal.returns-clause-chains
returns-clause-chains c = chain_written c.args.self.now c.args.layout _
