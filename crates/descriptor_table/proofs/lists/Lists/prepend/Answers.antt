use Rattle.descriptor_table.proofs.Common.{◌+◌, refl, Chain, KeptOf}
use Rattle.descriptor_table.proofs.Relisted.{regrouped}
use Rattle.descriptor_table.proofs.lists.Lists.prepend.Goals as goal

pub returns : goal.returns
returns c =
    let now : Chain → Chain = λ w. record { first = c.args.first; count = w.count + c.args.many } in
    regrouped c.args.self.now _ (KeptOf c.args.layout) c.args.layout refl c.requires.there c.index_mut-list.result.now c.index_mut-list.ensures.value now c.requires.few refl refl refl
