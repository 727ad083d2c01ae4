use Rattle.descriptor_manager.proofs.Common.{rules, is_due, removed_of, slots_of, vacated, IsBack, Turns, due_full}
use Rattle.descriptor_manager.proofs.Given.{accounted_as, exact_as, turned_whole}
use Rattle.descriptor_manager.proofs.Back.{came_back}
use Rattle.descriptor_manager.proofs.Arriving.{follow_turns, follows_back, none_goes, arrived}
use Rattle.descriptor_manager.proofs.store.Store.finish.Goals.{After-give, After-settle_due}
use Rattle.descriptor_manager.proofs.store.Store.finish.Goals as goal

pub invariant_of-self : goal.invariant_of-self
invariant_of-self g c =
    let same = turned_whole _ _ c.settle_due.ensures.stays c.settle_due.ensures.slots (search rules) in
    record { agree = search rules; exact = exact_as c.args.self.now same; accounted = accounted_as c.args.self.now same }

-- those that were due were freed
turns : (g : _) (c : After-give g) → Turns (is_due c.args.frame) (IsBack vacated (removed_of c.args.self.now.table) c.args.self.now.table.keep) (slots_of c.args.self.now.table) (slots_of c.give.new.self.table)
turns g c = search (rules, came_back, due_full, none_goes)

pub returns-clause-back : goal.returns-clause-back
returns-clause-back g c = record { turns = turns g c; back = c.give.ensures.frees.back }

pub returns-clause-settles : goal.returns-clause-settles
returns-clause-settles g c = search (rules, turns, arrived, follow_turns, follows_back)
