use Rattle.descriptor_table.proofs.Common.{◌-◌, ap, refl, set, arith, Chain}
use Rattle.descriptor_table.proofs.Relisted.{regrouped}
use Rattle.descriptor_table.proofs.lists.Lists.pop.Goals as goal

pub returns-in-KeptOf : goal.returns-in-KeptOf
returns-in-KeptOf c =
    let now : Chain → Chain = λ w. record { first = c.args.next; count = w.count - 1 } in
    regrouped c.args.self.now _ c.args.group c.in-KeptOf.layout c.in-KeptOf.is c.requires.there c.index_mut.result.now c.index_mut.ensures.value now (let few = c.requires.few in omega arith) refl refl (ap (set c.args.self.now.kept.items c.in-KeptOf.layout) c.pop-in-KeptOf.ensures)
