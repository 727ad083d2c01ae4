use Rattle.descriptor_table.proofs.Common.{refl}
use Rattle.descriptor_table.proofs.Entries.{next_set, slot_stays}
use Rattle.descriptor_table.proofs.slot_list.SlotList.set_next.Goals as goal

pub returns-clause-slots : goal.returns-clause-slots
returns-clause-slots g c = slot_stays c.args.self.now.entries.items c.args.place c.index_mut.result.now c.requires c.index_mut.ensures.value _ refl

pub returns-clause-nexts : goal.returns-clause-nexts
returns-clause-nexts g c = next_set c.args.self.now.entries.items c.args.place c.index_mut.result.now c.requires c.index_mut.ensures.value _ c.args.next refl
