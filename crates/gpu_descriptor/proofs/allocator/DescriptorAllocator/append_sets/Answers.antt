use Rattle.gpu_descriptor.proofs.Common.{refl}
use Rattle.gpu_descriptor.proofs.callers.Unchanged.{keeps_still}
use Rattle.gpu_descriptor.proofs.request.Requested.{load_within, pool_load_within}
use Rattle.gpu_descriptor.proofs.allocator.DescriptorAllocator.append_sets.Goals as goal

pub returns-then-count-eq0-clause-keeps : goal.returns-then-count-eq0-clause-keeps
returns-then-count-eq0-clause-keeps g c =
    keeps_still refl refl c.requires.agree (load_within _ c.self.view_is c.self.invariant) (pool_load_within _ c.self.view_is c.self.invariant)
