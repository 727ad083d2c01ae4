use Rattle.descriptor_table.proofs.Common.{◌∙◌, ap, list_of, Chain}
use Rattle.descriptor_table.proofs.Counts.{chain_counts}
use Rattle.descriptor_table.proofs.set_table.SetTable.count.Goals as goal

pub returns : goal.returns
returns g c = ap (λ (c : Chain). c.count) c.get.ensures ∙ chain_counts c.args.self.now (list_of c.args.group)
