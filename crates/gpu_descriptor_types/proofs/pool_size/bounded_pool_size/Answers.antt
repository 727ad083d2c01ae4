use Rattle.gpu_descriptor_types.specs.Counts.{kinds as kinds_of}
use Rattle.gpu_descriptor_types.proofs.Sizes.{fewer_fit}
use Rattle.gpu_descriptor_types.proofs.pool_size.bounded_pool_size.Goals as goal

pub counts_of_sets-requires : goal.counts_of_sets-requires
counts_of_sets-requires c = fewer_fit (kinds_of c.args.counts.now) c.bounded_pool_sets-sets.result c.args.size.1 c.bounded_pool_sets-sets.ensures.at_most c.requires.fits
