use Rattle.std.proofs.Common.{ap, [], ◌∷◌, arith, below_more, below_none}
use Rattle.descriptor_manager.proofs.Requests.{from_kept}
use Rattle.descriptor_manager.proofs.store.Store.allocate.Goals as goal

pub returns : goal.returns
returns g c =
    from_kept c.args.known.now.layout c.args.layout 1 c.args.used (c.hold_next.result ∷ []) c.args.self.now c.hold_next.new.self c.hold_next.result c.requires.live c.requires.can.rest (omega arith) c.hold_next.ensures.holds (below_more _ 0 (below_none _) c.hold_next.ensures.was_kept) c.hold_next.ensures.as_many c.hold_next.ensures.keeps (ap (λ v. v.items) c.hold_next.ensures.coming)
