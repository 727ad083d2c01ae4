use Rattle.descriptor_manager.proofs.Common.{ap, ◌∙◌, rules}
use Rattle.descriptor_manager.proofs.Given.{accounted_as, exact_as, turned_whole}
use Rattle.descriptor_manager.proofs.Back.{cleaned}
use Rattle.descriptor_manager.proofs.Arriving.{arrived, clears, clears_arrives}
use Rattle.descriptor_manager.proofs.store.Store.cleanup.Goals.{After-trim}
use Rattle.descriptor_manager.proofs.store.Store.cleanup.Goals as goal

pub invariant_of-self : goal.invariant_of-self
invariant_of-self g c =
    let same = turned_whole _ _ c.trim.ensures.turns.stays c.trim.ensures.turns.slots (search rules) ∙ turned_whole _ _ c.age.ensures.stays c.age.ensures.slots (search rules) in
    record { agree = search rules; exact = exact_as c.args.self.now same; accounted = accounted_as c.args.self.now same }

pub returns-clause-cleaned : goal.returns-clause-cleaned
returns-clause-cleaned g c = search (rules, cleaned)

pub returns-clause-settles : goal.returns-clause-settles
returns-clause-settles g c = arrived _ _ _ (λ p. clears_arrives _ _ _ (clears _ _ (returns-clause-cleaned g c) p)) (ap (λ v. v.items) c.give.ensures.coming ∙ c.requires.rest.none_coming) c.requires.rest (search rules)
