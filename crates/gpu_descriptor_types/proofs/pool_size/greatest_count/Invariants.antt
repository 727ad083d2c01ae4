-- So far the greatest of the counts before.
use Rattle.std.proofs.Common.{◌≡◌, take}
use Rattle.gpu_descriptor_types.specs.Counts.{greatest, kinds}
use Rattle.gpu_descriptor_types.proofs.pool_size.greatest_count.Given as goal

abbrev pub invariant-loop-kind : goal.invariant-loop-kind
invariant-loop-kind l = l.max ≡ greatest (take l.kind-index (kinds l.counts))
