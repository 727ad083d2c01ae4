use Rattle.std.proofs.Common.{sym}
use Rattle.gpu_descriptor_types.specs.Counts.{kinds as kinds_of}
use Rattle.gpu_descriptor_types.proofs.Sizes.{pool_size_below, pool_size_fits, pool_size_small, pool_size_some}
use Rattle.gpu_descriptor_types.proofs.pool_size.new_pool_sets.Goals as goal

pub returns-clause-sets : goal.returns-clause-sets
returns-clause-sets c = c.pool_sets_for_greatest.ensures.sets (kinds_of c.args.counts.now) (sym c.greatest_count.ensures)

pub returns-clause-at_most : goal.returns-clause-at_most
returns-clause-at_most c = pool_size_small (kinds_of c.args.counts.now) c.args.total c.args.wanted _ (returns-clause-sets c)

pub returns-clause-below_twice : goal.returns-clause-below_twice
returns-clause-below_twice c = pool_size_below (kinds_of c.args.counts.now) c.args.total c.args.wanted _ (returns-clause-sets c)

pub returns-clause-at_least : goal.returns-clause-at_least
returns-clause-at_least c = pool_size_some (kinds_of c.args.counts.now) c.args.total c.args.wanted _ (returns-clause-sets c)

pub returns-clause-fits : goal.returns-clause-fits
returns-clause-fits c = pool_size_fits (kinds_of c.args.counts.now) c.args.total c.args.wanted _ (returns-clause-sets c)
