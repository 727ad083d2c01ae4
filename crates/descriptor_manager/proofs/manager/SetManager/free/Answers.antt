use Rattle.descriptor_manager.proofs.Common.{refl, subst, ◌∙◌, AreHeldOnce, seen, removed_in, slots_in}
use Rattle.descriptor_manager.proofs.Owned.{only_store, sets_stay}
use Rattle.descriptor_manager.proofs.Naming.{back_quiet, lost_names}
use Rattle.descriptor_manager.proofs.manager.SetManager.free.Goals as goal

pub invariant_of-self-clause-sets : goal.invariant_of-self-clause-sets
invariant_of-self-clause-sets g c = sets_stay c.free_each.ensures.settles c.args.self.now.sets

pub returns-clause-names : goal.returns-clause-names
returns-clause-names g c =
    let old = c.args.self.now in
    let once = subst (λ n. AreHeldOnce n (slots_in old.store) (g.N.SetName.handles_of c.args.sets.now)) old.sets.number (c.if-not-free_each.ensures.once.0 refl).0 in
    lost_names old.frame old.is_open old.manager once (c.if-not-free_each.ensures.frees refl).turns (back_quiet old.frame old.is_open (removed_in old.store) old.store.table.keep (slots_in c.free_each.new.self))

pub returns-then-not-free_each-clause-stay : goal.returns-then-not-free_each-clause-stay
returns-then-not-free_each-clause-stay g c = only_store c.args.self.now c.free_each.new.self c.free_each.ensures.settles.stays ∙ (λ i. record (seen c.args.self.now) { slots = (c.if-not-free_each.ensures.none refl).0 i; side = (c.if-not-free_each.ensures.none refl).1 i })

pub returns-then-not-free_each-clause-rest : goal.returns-then-not-free_each-clause-rest
returns-then-not-free_each-clause-rest g c = only_store c.args.self.now c.free_each.new.self c.free_each.ensures.settles.stays
