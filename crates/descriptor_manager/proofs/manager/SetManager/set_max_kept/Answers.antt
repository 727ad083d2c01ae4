use Rattle.descriptor_manager.proofs.Common.{rules}
use Rattle.descriptor_manager.proofs.Owned.{sets_stay}
use Rattle.descriptor_manager.proofs.Naming.{trim_names}
use Rattle.descriptor_manager.proofs.manager.SetManager.set_max_kept.Goals as goal

pub invariant_of-self-clause-sets : goal.invariant_of-self-clause-sets
invariant_of-self-clause-sets g c = sets_stay c.set_max_kept.ensures.settles c.args.self.now.sets

pub returns-clause-names : goal.returns-clause-names
returns-clause-names g c = search (rules, trim_names)
