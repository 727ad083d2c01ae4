use Rattle.gpu_descriptor.proofs.Common.{arith, common_steps}
use Rattle.gpu_descriptor.proofs.cleanup.Rotation.{each_left, entries_left, length_left, sets_left}
use Rattle.gpu_descriptor.proofs.release.StoredNumbers.{next_stored, rises_stored}
use Rattle.gpu_descriptor.proofs.bucket.DescriptorBucket.destroy_all_empty.Goals as goal

pub relist-requires : goal.relist-requires
relist-requires g c = grind (arith, common_steps, rises_stored, next_stored, length_left)

pub invariant_of-self : goal.invariant_of-self
invariant_of-self g c = grind (arith, common_steps, next_stored, rises_stored, sets_left, length_left, each_left)

pub first_ordinal_of-self-requires : goal.first_ordinal_of-self-requires
first_ordinal_of-self-requires g c = grind (arith, common_steps, next_stored, rises_stored)

pub returns-clause-books : goal.returns-clause-books
returns-clause-books g c = grind (arith, common_steps, entries_left)
