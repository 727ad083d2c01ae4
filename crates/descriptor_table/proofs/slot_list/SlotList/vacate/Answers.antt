use Rattle.descriptor_table.proofs.Common.{refl, vacated}
use Rattle.descriptor_table.proofs.Entries.{next_set, written}
use Rattle.descriptor_table.proofs.slot_list.SlotList.vacate.Goals as goal

pub returns-clause-writes : goal.returns-clause-writes
returns-clause-writes g c =
    let e = c.index_mut-entry.result.now in
    record {
      slots = written c.args.self.now.entries.items c.args.place e c.requires c.index_mut-entry.ensures.value _ vacated (λ i. record (c.set_use.ensures.slot i) { set = c.take.ensures.after i });
      space = refl;
    }

pub returns-clause-nexts : goal.returns-clause-nexts
returns-clause-nexts g c = next_set c.args.self.now.entries.items c.args.place c.index_mut-entry.result.now c.requires c.index_mut-entry.ensures.value _ c.args.next c.set_use.ensures.next
