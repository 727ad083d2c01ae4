use Rattle.descriptor_manager.proofs.Common.{refl, rules, room_stays}
use Rattle.descriptor_manager.proofs.Given.{accounted_as, exact_as, renewed_whole}
use Rattle.descriptor_manager.proofs.Handing.{kept_fewer, kept_long, kept_one, usable_stays}
use Rattle.descriptor_manager.proofs.Requests.{kept_holds}
use Rattle.descriptor_manager.proofs.store.Store.hold_next.Goals as goal

pub invariant_of-self : goal.invariant_of-self
invariant_of-self g c =
    let same = renewed_whole _ _ c.hold_kept.ensures.stays _ _ _ _ c.hold_kept.ensures.renews in
    record { agree = search rules; exact = exact_as c.args.self.now same; accounted = accounted_as c.args.self.now same }

pub returns-clause-holds : goal.returns-clause-holds
returns-clause-holds g c = search (rules, kept_one)

pub returns-clause-fewer : goal.returns-clause-fewer
returns-clause-fewer g c = search (rules, kept_fewer)

pub returns-clause-table : goal.returns-clause-table
returns-clause-table g c = search (rules, kept_long, room_stays, usable_stays)

pub returns-clause-keeps : goal.returns-clause-keeps
returns-clause-keeps g c = (let e = c.hold_kept.ensures in kept_holds _ _ _ _ refl (record { settings = e.stays.settings; limit = refl; bound = refl; besides = refl }) _ _ e.kept e.renews)
