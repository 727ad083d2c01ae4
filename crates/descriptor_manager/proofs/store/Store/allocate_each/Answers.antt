use Rattle.descriptor_manager.proofs.Common.{ap, length, refl, arith, Held, handles_long}
use Rattle.descriptor_manager.proofs.Requests.{from_kept}
use Rattle.descriptor_manager.proofs.store.Store.allocate_each.Goals as goal

pub returns-clause-requests : goal.returns-clause-requests
returns-clause-requests g c =
    let h = g.N.SetName.handles_of c.hold_kept.new.names in
    let names = handles_long g.N.SetName g.met.N.SetName.each c.hold_kept.new.names in
    from_kept c.args.known.now.layout c.args.layout (length c.args.names.now) Held h c.args.self.now c.hold_kept.new.self tt refl c.requires.can.rest (omega arith) c.hold_kept.ensures.holds (λ i lt. c.hold_kept.ensures.were_kept i (omega arith)) c.hold_kept.ensures.as_many c.hold_kept.ensures.keeps (ap (λ v. v.items) c.hold_kept.ensures.coming)
