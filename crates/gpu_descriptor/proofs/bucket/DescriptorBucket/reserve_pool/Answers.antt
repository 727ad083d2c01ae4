use Rattle.gpu_descriptor.proofs.Common.{common_steps, arith}
use Rattle.gpu_descriptor.proofs.lists.OpenList.{few_listed}
use Rattle.gpu_descriptor.proofs.bucket.DescriptorBucket.reserve_pool.Goals as goal

pub reserve_for-requires : goal.reserve_for-requires
reserve_for-requires g c = grind (arith, common_steps, few_listed)
