use Rattle.descriptor_manager.proofs.Common.{◌≡◌, subst, BucketOf}
use Rattle.gpu_descriptor.specs.Caller.Views.{view_in}
use Rattle.descriptor_manager.proofs.Owned.{if_some, known_pools}
use Rattle.descriptor_manager.proofs.manager.SetManager.pool.Goals as goal

pub returns-clause-view : goal.returns-clause-view
returns-clause-view g c =
    let known = c.in_ok-known.known.now in
    let pools = known_pools c.args.self.now known _ _ c.in_ok-known.ensures.meant c.allocator-allocator.ensures c.is_marked.ensures in
    if_some _ known _ c.in_ok-known.ensures.layout (subst (λ (b : BucketOf _). c.pool.result ≡ view_in b c.args.index) pools c.pool.ensures.view)
