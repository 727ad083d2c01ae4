use Rattle.descriptor_table.proofs.Common.{common_steps, arith, length-map, slot_of, used_for}
use Rattle.descriptor_table.proofs.Entries.{next_set, written}
use Rattle.descriptor_table.proofs.slot_list.SlotList.use_named.Goals as goal

pub returns-clause-writes : goal.returns-clause-writes
returns-clause-writes g c = grind (arith, common_steps, written c.args.self.now.entries.items c.handle-handle.result.place c.in-Some.entry.now (omega (arith, c.in-Some.ensures, length-map c.args.self.now.entries.items slot_of)) c.in-Some.ensures.value c.set_use.new.self (used_for c.args.used) c.set_use.ensures.slot)

pub returns-clause-nexts : goal.returns-clause-nexts
returns-clause-nexts g c = grind (arith, common_steps, length-map, next_set c.args.self.now.entries.items c.handle-handle.result.place c.in-Some.entry.now)
