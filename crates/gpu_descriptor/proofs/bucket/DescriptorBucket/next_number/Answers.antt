use Rattle.gpu_descriptor.proofs.Common.{arith}
use Rattle.gpu_descriptor.proofs.lists.Ordinals.{first_fits}
use Rattle.gpu_descriptor.proofs.bucket.DescriptorBucket.next_number.Goals as goal

pub returns : goal.returns
returns g c = (let fits = first_fits c.args.self.now.pools.items c.args.self.now.rising in let first = c.args.self.now.ordinal in let long = c.args.self.now.pools.ok.0 in let many = c.len.ensures in omega arith)
