use Rattle.std.proofs.Common.{◌∙◌, ap, min, sym}
use Rattle.gpu_descriptor_types.specs.PoolSize.{sets_of_kind}
use Rattle.gpu_descriptor_types.proofs.Sizes.{greatest_allows}
use Rattle.gpu_descriptor_types.proofs.pool_size.pool_sets_for_greatest.Goals as goal

pub returns-clause-sets : goal.returns-clause-sets
returns-clause-sets c = λ kinds is. record {
  start = c.rounded_up.result;
  rounded = rw c.start_size.ensures at c.rounded_up.ensures.rounded;
  is_least = c.cut_to.ensures ∙ ap (λ kind. min c.rounded_up.result (sets_of_kind kind)) (sym is) ∙ greatest_allows c.rounded_up.result kinds c.rounded_up.ensures.at_most;
}
