use Rattle.gpu_descriptor.proofs.Common.{arith, common_steps}
use Rattle.gpu_descriptor.proofs.table.TableBooks.{distinct_stored}
use Rattle.gpu_descriptor.proofs.key_table.KeyTable.new.Goals as goal

pub invariant_of-result : goal.invariant_of-result
invariant_of-result g c = record {
  rising = grind (arith, common_steps);
  begun = grind (arith, common_steps);
  ranged = grind (arith, common_steps);
  flagged = grind (arith, common_steps);
  distinct = grind (arith, common_steps, distinct_stored);
}
