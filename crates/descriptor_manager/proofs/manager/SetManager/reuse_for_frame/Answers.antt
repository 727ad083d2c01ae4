use Rattle.std.proofs.lemmas.Option.{IfSome_then}
use Rattle.descriptor_manager.proofs.Common.{◌&&◌, ◌==◌, ◌∙◌, eq-eqb, refl, sym, rules, ap, Use}
use Rattle.descriptor_manager.proofs.Owned.{if_some, sets_stay}
use Rattle.descriptor_manager.proofs.Requests.{come_then}
use Rattle.descriptor_manager.proofs.manager.SetManager.reuse_for_frame.Goals as goal

pub invariant_of-self-clause-sets : goal.invariant_of-self-clause-sets
invariant_of-self-clause-sets g c = sets_stay c.reuse.ensures.settles c.args.self.now.sets

pub returns-clause-reuses : goal.returns-clause-reuses
returns-clause-reuses g c =
    let frame = c.args.self.now.frame in
    let live = ap (λ o. o && (frame == frame)) c.if-not-self.false ∙ eq-eqb frame frame refl in
    IfSome_then c.reuse.result (c.reuse.ensures.reuses c.in_ok-get.field-0.now.layout) (λ handle requests.
    come_then c.args.self.now c.args.layout _ _ c.place.ensures (sym c.in_ok-get.ensures.layout) 1 (Use.InFrame frame) _ _ _ requests live _ refl)

pub returns-clause-takes : goal.returns-clause-takes
returns-clause-takes g c = (let e = c.reuse.ensures.reuses c.in_ok-get.field-0.now.layout in search (rules, if_some))
