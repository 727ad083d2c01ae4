use Rattle.descriptor_manager.proofs.Common.{ap}
use Rattle.gpu_descriptor.specs.Caller.Others.{others_of}
use Rattle.descriptor_manager.proofs.store.Store.set_max_pool_descriptors.Goals as goal

pub returns-clause-besides : goal.returns-clause-besides
unfolding others_of
returns-clause-besides g c = ap (λ a. others_of g.D.DescriptorDevice.meaning.pool_name a (g.D.DescriptorDevice.ledger c.args.self.now.device)) c.set_max_pool_descriptors.ensures.value
