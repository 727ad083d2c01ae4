use Rattle.gpu_descriptor.proofs.Common.{rules}
use Rattle.gpu_descriptor.proofs.allocator.DescriptorAllocator.allocate_one.Goals as goal

pub returns-clause-own : goal.returns-clause-own
returns-clause-own g c = search rules
