use Rattle.gpu_descriptor.proofs.Common.{length-map, rules}
use Rattle.gpu_descriptor.proofs.lists.Numbers.{no_gaps}
use Rattle.gpu_descriptor.proofs.bucket.DescriptorBucket.place_of_pool.Goals as goal

pub returns-clause-compares : goal.returns-clause-compares
returns-clause-compares g c = search (rules, length-map, no_gaps)
