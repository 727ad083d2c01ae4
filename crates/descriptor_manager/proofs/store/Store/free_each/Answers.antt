use Rattle.descriptor_manager.proofs.Common.{ap, ◌∙◌, refl, rules, IsBack, TurnEach, removed_of, slots_of, vacated}
use Rattle.descriptor_manager.proofs.Given.{accounted_as, any_whole, exact_as}
use Rattle.descriptor_manager.proofs.Arriving.{follow_each, follows_back, arrived}
use Rattle.descriptor_manager.proofs.Back.{back_each}
use Rattle.descriptor_manager.proofs.store.Store.free_each.Goals.{After-give, After-settle_held}
use Rattle.descriptor_manager.proofs.store.Store.free_each.Goals as goal

pub invariant_of-self : goal.invariant_of-self
invariant_of-self g c =
    let s = c.args.self.now in
    let held = c.settle_held.ensures in
    let same = any_whole _ _ held.stays (search rules) c.settle_held.result held.back held.none in
    record { agree = search rules; exact = exact_as c.args.self.now same; accounted = accounted_as c.args.self.now same }

back : (g : _) (c : After-give g) → TurnEach (g.N.SetName.handles_of c.args.names.now) (IsBack vacated (removed_of c.args.self.now.table) c.args.self.now.table.keep) (slots_of c.args.self.now.table) (slots_of c.give.new.self.table)
back g c =
    let s = c.args.self.now in
    let held = c.if-not-settle_held.ensures in
    back_each (g.N.SetName.handles_of c.args.names.now) s.table.number (removed_of s.table) s.table.keep (slots_of s.table) (slots_of c.settle_held.new.self) (slots_of c.give.new.self.table) (held.once.0 refl).0 (held.back refl) c.requires.rest.placed c.give.ensures.frees.turns

pub returns-clause-frees : goal.returns-clause-frees
returns-clause-frees g c = λ t. record { turns = back g (goal.at.returns-clause-frees g c).After-give; back = c.give.ensures.frees.back }

pub returns-clause-settles : goal.returns-clause-settles
returns-clause-settles g c =
    let s = c.args.self.now in
    let turns = back g (goal.at.returns-clause-settles g c).After-give in
    arrived _ s c.give.new.self (follow_each turns (follows_back (removed_of s.table) s.table.keep (slots_of c.give.new.self.table))) (ap (λ v. v.items) c.give.ensures.coming ∙ c.requires.rest.none_coming) c.requires.rest (search rules)
