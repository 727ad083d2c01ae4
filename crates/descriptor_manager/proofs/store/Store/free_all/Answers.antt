use Rattle.descriptor_manager.proofs.Common.{ap, ◌∙◌, is_some, rules, Becomes, Turns, slots_of, vacated}
use Rattle.descriptor_manager.proofs.Given.{accounted_as, exact_as, turned_whole}
use Rattle.descriptor_manager.proofs.Back.{all_leave, left_follows}
use Rattle.descriptor_manager.proofs.Arriving.{arrived}
use Rattle.descriptor_manager.proofs.store.Store.free_all.Goals.{After-give, After-trim}
use Rattle.descriptor_manager.proofs.store.Store.free_all.Goals as goal

pub invariant_of-self : goal.invariant_of-self
invariant_of-self g c =
    let same = turned_whole _ _ c.trim.ensures.turns.stays c.trim.ensures.turns.slots (search rules) ∙ turned_whole _ _ c.let_held_go.ensures.stays c.let_held_go.ensures.slots (search rules) ∙ turned_whole _ _ c.let_waiting_go.ensures.stays c.let_waiting_go.ensures.slots (search rules) in
    record { agree = search rules; exact = exact_as c.args.self.now same; accounted = accounted_as c.args.self.now same }

-- each left its slot
left : (g : _) (c : After-give g) → Turns (λ s. is_some s.set) (Becomes vacated) (slots_of c.args.self.now.table) (slots_of c.give.new.self.table)
left g c = all_leave (slots_of c.args.self.now.table) (slots_of c.let_waiting_go.new.self) (slots_of c.let_held_go.new.self) (slots_of c.trim.new.self) (slots_of c.give.new.self.table) c.requires.rest.placed c.let_waiting_go.ensures.slots c.let_held_go.ensures.slots c.trim.ensures.turns.slots c.trim.ensures.few c.give.ensures.frees.turns

pub returns-clause-frees : goal.returns-clause-frees
returns-clause-frees g c = record { turns = left g (goal.at.returns-clause-frees g c).After-give; back = c.give.ensures.frees.back }

pub returns-clause-settles : goal.returns-clause-settles
returns-clause-settles g c = arrived _ _ _ (λ p. left_follows _ _ (left g (goal.at.returns-clause-settles g c).After-give) p _) (ap (λ v. v.items) c.give.ensures.coming ∙ c.requires.rest.none_coming) c.requires.rest (search rules)
