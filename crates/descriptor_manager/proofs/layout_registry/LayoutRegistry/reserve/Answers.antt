use Rattle.descriptor_manager.proofs.Common.{sym, ap, ◌∙◌, slot_at}
use Rattle.descriptor_manager.proofs.layout_registry.LayoutRegistry.reserve.Goals as goal

pub invariant_of-self : goal.invariant_of-self
invariant_of-self g c = record { meant = λ p known is. c.args.self.now.meant p known (ap (λ l. (slot_at l p).set) (sym c.reserve.ensures.slots) ∙ is) }
