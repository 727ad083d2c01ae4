use Rattle.gpu_descriptor.proofs.Common.{arith, common_steps}
use Rattle.gpu_descriptor.proofs.allocator.DescriptorAllocator.would_exceed_limit.Goals as goal

pub returns-then-key : goal.returns-then-key
returns-then-key g c = grind (arith, common_steps)
