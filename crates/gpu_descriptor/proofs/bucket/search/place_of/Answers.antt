use Rattle.gpu_descriptor.proofs.Common.{arith, common_steps}
use Rattle.gpu_descriptor.proofs.lists.Searching.{search_start, search_right, search_left}
use Rattle.gpu_descriptor.proofs.bucket.search.place_of.Goals as goal

pub loop-size-init : goal.loop-size-init
loop-size-init g c = grind (arith, common_steps, search_start)

pub loop-size-preserved-then-is_below : goal.loop-size-preserved-then-is_below
loop-size-preserved-then-is_below g c = grind (arith, common_steps, search_right)

pub loop-size-preserved : goal.loop-size-preserved
loop-size-preserved g c = grind (arith, common_steps, search_left)
