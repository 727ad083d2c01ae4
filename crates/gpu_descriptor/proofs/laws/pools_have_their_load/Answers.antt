use Rattle.gpu_descriptor.proofs.sums.PoolCounts.{pool_load_is}
use Rattle.gpu_descriptor.proofs.sums.PoolSums.{pool_load_is_created, marked_within_pools}
use Rattle.gpu_descriptor.proofs.laws.pools_have_their_load.Goals as goal

pub returns : goal.returns
returns c = record { each = pool_load_is; created = pool_load_is_created; marked = marked_within_pools }
