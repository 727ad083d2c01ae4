use Rattle.descriptor_table.proofs.Common.{common_steps, arith}
use Rattle.descriptor_table.proofs.Listed.{past_end}
use Rattle.descriptor_table.proofs.laws.none_is_no_handle.Goals as goal

pub returns-clause-no_set : goal.returns-clause-no_set
returns-clause-no_set g c table number frame opened = grind (arith, common_steps, past_end, table.sound.size)
