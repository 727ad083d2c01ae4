use Rattle.descriptor_table.proofs.Common.{add-mod_right, mod-eq_of_lt, ◌+◌, ◌%◌, ◌∙◌, refl, arith, le-leb, slot_of, aged}
use Rattle.std.proofs.lemmas.Nat.{mod_below}
use Rattle.descriptor_table.proofs.Entries.{next_stays, written}
use Rattle.descriptor_table.proofs.slot_list.SlotList.age.Goals as goal

pub returns-clause-writes : goal.returns-clause-writes
returns-clause-writes g c =
    let e = c.index_mut-entry.result.now in
    let layout = add-mod_right (e.list % 2147483648) 2147483648 ∙ mod-eq_of_lt (mod_below e.list 2147483648 (omega arith)) in
    let old = le-leb 2147483648 (e.list % 2147483648 + 2147483648) (omega arith) in
    record {
      slots = written c.args.self.now.entries.items c.args.place e c.requires c.index_mut-entry.ensures.value _ aged (λ i. record (slot_of e) { layout = layout i; is_aged = old i });
      space = refl;
    }

pub returns-clause-nexts : goal.returns-clause-nexts
returns-clause-nexts g c = next_stays c.args.self.now.entries.items c.args.place c.index_mut-entry.result.now c.requires c.index_mut-entry.ensures.value _ refl
