use Rattle.gpu_descriptor.proofs.Common.{common_steps, arith, length-map}
use Rattle.gpu_descriptor.proofs.lists.Numbers.{few_numbers}
use Rattle.gpu_descriptor.proofs.bucket.first_ordinal_of.Goals as goal

pub overflow_sub-result : goal.overflow_sub-result
overflow_sub-result g c = grind (arith, common_steps, few_numbers, length-map)

pub returns-clause-fits : goal.returns-clause-fits
returns-clause-fits g c = (let fits = overflow_sub-result g c in let all = c.args.pools.now.ok.0 in let next = c.next_number_of.ensures in let many = c.len.ensures in omega arith)
