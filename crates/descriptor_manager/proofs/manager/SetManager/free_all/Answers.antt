use Rattle.descriptor_manager.proofs.Owned.{sets_stay}
use Rattle.descriptor_manager.proofs.manager.SetManager.free_all.Goals as goal

pub invariant_of-self-clause-sets : goal.invariant_of-self-clause-sets
invariant_of-self-clause-sets g c = sets_stay c.free_all.ensures.settles c.args.self.now.sets
