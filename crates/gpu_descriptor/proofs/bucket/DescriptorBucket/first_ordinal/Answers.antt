use Rattle.gpu_descriptor.proofs.Common.{◌+◌, ℕ, length, ap, ◌∙◌}
use Rattle.gpu_descriptor.proofs.lists.Ordinals.{first_fits}
use Rattle.gpu_descriptor.proofs.bucket.DescriptorBucket.first_ordinal.Goals as goal

pub returns-clause-fits : goal.returns-clause-fits
returns-clause-fits g c = ap (λ (n : ℕ). n + length c.args.self.now.pools.items) c.args.self.now.ordinal ∙ first_fits c.args.self.now.pools.items c.args.self.now.rising
