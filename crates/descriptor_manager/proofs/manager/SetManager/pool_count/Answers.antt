use Rattle.descriptor_manager.proofs.Common.{◌≡◌, length, subst, BucketOf}
use Rattle.descriptor_manager.proofs.Owned.{if_some, known_pools}
use Rattle.descriptor_manager.proofs.manager.SetManager.pool_count.Goals as goal

pub returns-in-Some-clause-count : goal.returns-in-Some-clause-count
returns-in-Some-clause-count g c =
    let known = c.in-Some.known.now in
    let pools = known_pools c.args.self.now known _ _ c.in-Some.ensures.meant c.allocator-allocator.ensures c.is_marked.ensures in
    if_some _ known _ c.in-Some.ensures.layout (subst (λ (b : BucketOf _). c.pool_count.result ≡ length b.pools) pools c.pool_count.ensures.count)
