use Rattle.descriptor_table.proofs.Common.{common_steps, arith, get_or-map, length-map, length-set, map-set}
use Rattle.descriptor_table.proofs.Entries.{slot_stays}
use Rattle.descriptor_table.proofs.slot_list.SlotList.link_after.Goals as goal

pub returns-clause-writes : goal.returns-clause-writes
returns-clause-writes g c = grind (arith, common_steps, length-set, slot_stays c.link.new.self.entries.items c.args.near c.index_mut.result.now)

pub returns-clause-nexts : goal.returns-clause-nexts
returns-clause-nexts g c = grind (arith, common_steps, get_or-map, length-map, map-set)
