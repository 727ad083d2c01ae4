-- The pools up to a place have sets.
use Rattle.gpu_descriptor.proofs.Common.{◌≡◌, filter, take, has_sets}
use Rattle.gpu_descriptor.proofs.bucket.trim.all_have_sets.Given as goal

abbrev pub invariant-loop-place : goal.invariant-loop-place
invariant-loop-place g l = filter has_sets (take l.place l.pools.items) ≡ take l.place l.pools.items
