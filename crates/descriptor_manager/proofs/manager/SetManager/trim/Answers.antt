use Rattle.descriptor_manager.proofs.Owned.{sets_stay}
use Rattle.descriptor_manager.proofs.manager.SetManager.trim.Goals as goal

pub invariant_of-self-clause-sets : goal.invariant_of-self-clause-sets
invariant_of-self-clause-sets g c = sets_stay c.trim.ensures.settles c.args.self.now.sets
