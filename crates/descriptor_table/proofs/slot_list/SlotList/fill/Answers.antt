use Rattle.descriptor_table.proofs.Common.{Some, rules, mod-eq_of_lt, lt-leb, ◌≡◌, ◌+◌, ◌∙◌, sym, ap, Slot, filled, renewed}
use Rattle.descriptor_table.proofs.Entries.{next_stays, slot_is, written}
use Rattle.descriptor_table.proofs.slot_list.SlotList.fill.Goals as goal

pub returns-clause-writes : goal.returns-clause-writes
returns-clause-writes g c =
    let e = c.index_mut-entry.result.now in
    let small = mod-eq_of_lt c.requires.layout in
    let young = lt-leb 2147483648 c.args.layout c.requires.layout in
    let next : c.args.generation ≡ e.generation + 1 = c.requires.next ∙ ap (λ (s : Slot g.row.T.Denot). s.generation + 1) (sym (slot_is c.args.self.now.entries.items c.args.place e c.requires.within c.index_mut-entry.ensures.value)) in
    let slots = written c.args.self.now.entries.items c.args.place e c.requires.within c.index_mut-entry.ensures.value c.set_use.new.self (λ slot. renewed c.args.used (filled c.args.layout c.args.set slot)) (c.set_use.ensures.slot ∙ λ i. record { generation = next i; layout = small i; used = c.args.used; is_aged = young i; set = Some c.args.set }) in
    search (rules, slots)

pub returns-clause-nexts : goal.returns-clause-nexts
returns-clause-nexts g c = next_stays c.args.self.now.entries.items c.args.place c.index_mut-entry.result.now c.requires.within c.index_mut-entry.ensures.value c.set_use.new.self c.set_use.ensures.next
