use Rattle.descriptor_manager.proofs.Common.{◌≡◌, refl, subst, sym, rules, IsRefusedAtLast, handles_in}
use Rattle.descriptor_manager.proofs.Owned.{if_some, refused_names}
use Rattle.descriptor_manager.proofs.Requests.{come_then, can_take, one_refused, sets_then}
use Rattle.descriptor_manager.proofs.manager.SetManager.allocate_as.Goals as goal

pub allocate-requires-clause-can : goal.allocate-requires-clause-can
allocate-requires-clause-can g c = can_take c.args.self.now c.args.layout _ _ c.place.ensures (sym c.in-Some.ensures.layout) (search rules)

pub invariant_of-self-2-clause-sets : goal.invariant_of-self-2-clause-sets
invariant_of-self-2-clause-sets g c = sets_then c.args.self.now c.args.layout c.in-Some.known.now c.place.result c.place.ensures (sym c.in-Some.ensures.layout) 1 c.args.used (handles_in c.allocate.result) c.allocate.new.self c.allocate.result c.allocate.ensures

pub returns-in-Ok-clause-creates : goal.returns-in-Ok-clause-creates
returns-in-Ok-clause-creates g c = come_then c.args.self.now c.args.layout _ _ c.place.ensures (sym c.in-Some.ensures.layout) _ _ _ _ _ c.in-Ok.ensures c.requires.live _ refl

pub returns-in-Err-clause-refused : goal.returns-in-Err-clause-refused
returns-in-Err-clause-refused g c = λ error is.
    let known = c.in-Some.known.now.layout in
    let same : c.in-Err.error ≡ error = cc in
    let one = one_refused c.args.self.now c.args.layout _ _ c.place.ensures (sym c.in-Some.ensures.layout) _ _ _ _ c.in-Err.ensures in
    if_some _ _ _ c.in-Some.ensures.layout (subst (λ e. IsRefusedAtLast known 1 1 e c.args.self.now.store c.allocate.new.self) same one)

pub returns-in-Err-clause-sets : goal.returns-in-Err-clause-sets
returns-in-Err-clause-sets g c =
    let one = one_refused c.args.self.now c.args.layout _ _ c.place.ensures (sym c.in-Some.ensures.layout) _ _ _ _ c.in-Err.ensures in
    record { stay = refused_names _ _ _ _ _ _ one _ _ _; grows = c.allocate.ensures.grows; rest = search rules }
