use Rattle.descriptor_table.proofs.Common.{common_steps, arith, used_for}
use Rattle.descriptor_table.proofs.Entries.{next_set, written}
use Rattle.descriptor_table.proofs.slot_list.SlotList.link.Goals as goal

pub returns-clause-writes : goal.returns-clause-writes
returns-clause-writes g c = grind (arith, common_steps, written c.args.self.now.entries.items c.args.place c.index_mut-entry.result.now c.requires c.index_mut-entry.ensures.value c.set_use.new.self (used_for c.args.used) c.set_use.ensures.slot)

pub returns-clause-nexts : goal.returns-clause-nexts
returns-clause-nexts g c = next_set c.args.self.now.entries.items c.args.place c.index_mut-entry.result.now c.requires c.index_mut-entry.ensures.value c.set_use.new.self c.args.next c.set_use.ensures.next
