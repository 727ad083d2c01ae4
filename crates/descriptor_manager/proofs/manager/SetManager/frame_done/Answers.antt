use Rattle.descriptor_manager.proofs.Common.{rules}
use Rattle.descriptor_manager.proofs.Owned.{sets_stay}
use Rattle.descriptor_manager.proofs.Naming.{back_names}
use Rattle.descriptor_manager.proofs.manager.SetManager.frame_done.Goals as goal

pub invariant_of-self-clause-sets : goal.invariant_of-self-clause-sets
invariant_of-self-clause-sets g c = sets_stay c.finish.ensures.settles c.args.self.now.sets

pub returns-clause-names : goal.returns-clause-names
returns-clause-names g c = back_names _ _ _ _ _ _ _ _ (search rules) c.finish.ensures.back.turns
