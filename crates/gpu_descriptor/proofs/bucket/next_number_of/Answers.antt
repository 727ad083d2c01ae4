use Rattle.gpu_descriptor.proofs.Common.{common_steps, ◌≡◌, ◌+◌, sym, arith, number_after, slice_get_read, numbers_of}
use Rattle.gpu_descriptor.proofs.lists.Ordinals.{next_after}
use Rattle.gpu_descriptor.proofs.bucket.next_number_of.Goals.{In-Some}
use Rattle.gpu_descriptor.proofs.bucket.next_number_of.Goals as goal

-- the newest pool is the last
next : (g : _) (c : In-Some g) → number_after (numbers_of c.args.pools.now.items) ≡ c.in-Some.newest.now.number + 1
next g c = grind (arith, common_steps, next_after, slice_get_read)

pub overflow_add-result : goal.overflow_add-result
overflow_add-result g c = (let is = next g (goal.at.overflow_add-result g c).In-Some in let fits = c.requires in omega arith)

pub returns-in-Some : goal.returns-in-Some
returns-in-Some g c = sym (next g (goal.at.returns-in-Some g c).In-Some)
