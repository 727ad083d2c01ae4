use Rattle.descriptor_manager.proofs.Common.{rules}
use Rattle.descriptor_manager.proofs.Given.{accounted_as, any_whole, exact_as}
use Rattle.descriptor_manager.proofs.Arriving.{follow_any, follows_waits, arrived}
use Rattle.descriptor_manager.proofs.store.Store.wait_each.Goals as goal

pub invariant_of-self : goal.invariant_of-self
invariant_of-self g c =
    let same = any_whole _ _ c.wait_each.ensures.stays (search rules) c.wait_each.result c.wait_each.ensures.waits c.wait_each.ensures.none in
    record { agree = search rules; exact = exact_as c.args.self.now same; accounted = accounted_as c.args.self.now same }

pub returns-clause-settles : goal.returns-clause-settles
returns-clause-settles g c = arrived _ _ _ (follow_any c.wait_each.result c.wait_each.ensures.waits c.wait_each.ensures.none (follows_waits c.args.frame)) c.requires.rest.none_coming c.requires.rest (search rules)
