use Rattle.gpu_descriptor.proofs.Common.{arith, common_steps}
use Rattle.gpu_descriptor.proofs.sums.TableSums.{books_named, outstanding_of-table, marked_load_of-table, pool_load_of-table}
use Rattle.gpu_descriptor.proofs.laws.rows_add_up.Goals as goal

pub returns : goal.returns
returns g c = grind (arith, common_steps, outstanding_of-table, marked_load_of-table, pool_load_of-table, books_named)
