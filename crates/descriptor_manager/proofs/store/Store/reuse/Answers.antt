use Rattle.descriptor_manager.proofs.Common.{◌≡◌, None, refl, ap, rules, slots_of, slots_in, eq-eqb}
use Rattle.descriptor_manager.proofs.Given.{accounted_as, exact_as, reused_whole}
use Rattle.descriptor_manager.proofs.Requests.{one_or_none}
use Rattle.descriptor_manager.proofs.store.Store.reuse.Goals as goal

pub invariant_of-self : goal.invariant_of-self
invariant_of-self g c =
    let same = reused_whole _ _ c.hold_for_frame.ensures.stays _ _ c.hold_for_frame.result c.hold_for_frame.ensures.renews (λ is. ap slots_of (c.hold_for_frame.ensures.none is)) in
    record { agree = search rules; exact = exact_as c.args.self.now same; accounted = accounted_as c.args.self.now same }

pub returns : goal.returns
returns g c =
    let e = c.hold_for_frame.ensures in
    let none : c.hold_for_frame.result ≡ None → slots_of c.hold_for_frame.new.self ≡ slots_in c.args.self.now = λ is. ap slots_of (e.none is) in
    let one = one_or_none _ _ c.args.self.now _ refl (record { settings = e.stays.settings; limit = refl; bound = refl; besides = refl }) _ (eq-eqb c.args.frame _ refl) c.requires.rest refl e.some e.kept e.renews none in
    record { reuses = one.0; kept = e.some; meets = e.meets; side = refl; settles = one.1; as_many = one.2; none = none }
