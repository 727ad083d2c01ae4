use Rattle.descriptor_table.proofs.Common.{◌∷◌, ap, if◌then◌else◌, sym, map-set_same, chain_at, shown}
use Rattle.descriptor_table.proofs.lists.Lists.renew.Goals as goal

pub returns-clause-chains : goal.returns-clause-chains
returns-clause-chains c = let l = c.args.self.now in ap (λ x. l.vacant ∷ l.going ∷ x) (map-set_same shown l.kept.items c.args.layout _ _ (sym (ap (λ b. if b then record { first = 0; count = 0 } else chain_at l.kept.items c.args.layout) c.requires.removed)))
