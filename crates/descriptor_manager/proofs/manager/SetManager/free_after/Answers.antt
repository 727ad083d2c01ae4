use Rattle.descriptor_manager.proofs.Common.{refl, subst, ◌∙◌, rules, AreHeldOnce, seen, slots_in}
use Rattle.descriptor_manager.proofs.Owned.{only_store, sets_stay}
use Rattle.descriptor_manager.proofs.Naming.{lost_names}
use Rattle.descriptor_manager.proofs.manager.SetManager.free_after.Goals.{Else-not-wait_each}
use Rattle.descriptor_manager.proofs.manager.SetManager.free_after.Goals as goal

pub invariant_of-self-clause-sets : goal.invariant_of-self-clause-sets
invariant_of-self-clause-sets g c = sets_stay c.wait_each.ensures.settles c.args.self.now.sets

pub returns-clause-names : goal.returns-clause-names
returns-clause-names g c =
    let old = c.args.self.now in
    let once = subst (λ n. AreHeldOnce n (slots_in old.store) (g.N.SetName.handles_of c.args.sets.now)) old.sets.number (c.if-not-wait_each.ensures.once.0 refl).0 in
    lost_names old.frame old.is_open old.manager once (c.if-not-wait_each.ensures.waits refl) (search rules)

pub returns-then-not-wait_each-clause-stay : goal.returns-then-not-wait_each-clause-stay
returns-then-not-wait_each-clause-stay g c = only_store c.args.self.now c.wait_each.new.self c.wait_each.ensures.settles.stays ∙ (λ i. record (seen c.args.self.now) { slots = c.if-not-wait_each.ensures.none refl i; side = c.wait_each.ensures.side i })

pub returns-then-not-wait_each-clause-rest : goal.returns-then-not-wait_each-clause-rest
returns-then-not-wait_each-clause-rest g c = only_store c.args.self.now c.wait_each.new.self c.wait_each.ensures.settles.stays ∙ (λ i. record (seen c.args.self.now) { slots = slots_in c.wait_each.new.self; side = c.wait_each.ensures.side i })
