use Rattle.gpu_descriptor.proofs.Common.{arith, common_steps, sym, ap, subst, IsNonDecreasing, numbers_of}
use Rattle.gpu_descriptor.proofs.lists.Numbers.{rises_sorted, search_ends}
use Rattle.gpu_descriptor.proofs.bucket.search.search_pools.Goals as goal

pub place_of-requires : goal.place_of-requires
place_of-requires g c = subst IsNonDecreasing (ap (λ v. numbers_of v.items) (sym c.new-view.ensures.numbers)) (rises_sorted (numbers_of c.args.pools.now.items) c.requires.rising)

pub returns-clause-place : goal.returns-clause-place
returns-clause-place g c = grind (arith, common_steps, search_ends)
