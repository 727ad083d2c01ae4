use Rattle.descriptor_manager.proofs.Common.{common_steps, length, refl, inl, sym, arith, Held, count_few, rules}
use Rattle.descriptor_manager.proofs.Owned.{refused_names}
use Rattle.descriptor_manager.proofs.Requests.{come_then, can_take, sets_then}
use Rattle.descriptor_manager.proofs.manager.SetManager.allocate_into.Goals as goal

pub allocate_each-requires-clause-can : goal.allocate_each-requires-clause-can
allocate_each-requires-clause-can g c = can_take c.args.self.now c.args.layout _ _ c.place.ensures (sym c.in-Some.ensures.layout) (search rules)

pub invariant_of-self-2-clause-sets : goal.invariant_of-self-2-clause-sets
invariant_of-self-2-clause-sets g c = sets_then c.args.self.now c.args.layout c.in-Some.known.now c.place.result c.place.ensures (sym c.in-Some.ensures.layout) (length c.args.sets.now) Held (g.N.SetName.handles_of c.allocate_each.new.names) c.allocate_each.new.self c.allocate_each.result c.allocate_each.ensures.requests

pub returns-in-Ok-clause-creates : goal.returns-in-Ok-clause-creates
returns-in-Ok-clause-creates g c = come_then c.args.self.now c.args.layout _ _ c.place.ensures (sym c.in-Some.ensures.layout) _ _ _ _ _ c.in-Ok.ensures.requests refl _ refl

pub returns-in-Err-clause-sets : goal.returns-in-Err-clause-sets
returns-in-Err-clause-sets g c = grind (arith, common_steps, refused_names c.in-Some.known.now.layout _ (length c.args.sets.now) c.in-Err.error c.args.self.now.store c.allocate_each.new.self c.in-Err.ensures.requests.refused c.args.self.now.manager c.args.self.now.frame c.args.self.now.is_open)

pub returns-then-sets-clause-fits : goal.returns-then-sets-clause-fits
returns-then-sets-clause-fits g c = grind (arith, common_steps, count_few)

pub returns-then-sets-clause-refused : goal.returns-then-sets-clause-refused
returns-then-sets-clause-refused g c = λ error e. inl (cc, c.if-sets.true, refl)
