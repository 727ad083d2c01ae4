use Rattle.descriptor_manager.proofs.Adding.{left_names, left_only}
use Rattle.descriptor_manager.proofs.layout_registry.LayoutRegistry.remove.Goals as goal

pub invariant_of-self : goal.invariant_of-self
invariant_of-self g c = record { meant = λ p known is. c.args.self.now.meant p known (left_only _ _ _ _ c.remove.result c.remove.ensures.held c.remove.ensures.slots c.remove.ensures.none p known is) }

pub returns-clause-names : goal.returns-clause-names
returns-clause-names g c = λ some. rw c.remove.ensures.number (left_names _ _ _ _ (c.remove.ensures.held some) (c.remove.ensures.slots some))
