use Rattle.descriptor_table.proofs.Common.{rules, length-set, cases_eq}
use Rattle.descriptor_table.proofs.Listed.{other_slots, slot_set}
use Rattle.descriptor_table.proofs.set_table.SetTable.let_held_go.Goals as goal

pub loop-place-preserved : goal.loop-place-preserved
loop-place-preserved g c = search (rules, cases_eq, length-set, other_slots, slot_set)
