use Rattle.gpu_descriptor.proofs.Common.{length, sym, ap, ◌∙◌, rules, Key, BucketOf, key_of, Allocations}
use Rattle.gpu_descriptor.proofs.table.Readings.{seen_at}
use Rattle.gpu_descriptor.proofs.allocator.DescriptorAllocator.pool_count.Goals as goal

pub returns-in-Some : goal.returns-in-Some
returns-in-Some g c =
    let k : Key = key_of (record { counts = c.args.counts.now; marked = c.args.update_after_bind }) in
    let here = seen_at _ k (λ l. search rules) c.args.self.now c.self.inside.table.buckets.entries (ap (λ (a : Allocations _). a.table) c.self.view_is) (sym c.in-Some.ensures.value) in
    record { count = c.len.ensures ∙ c.in-Some.bucket.now.pools.ok.0 ∙ ap (λ (b : BucketOf _). length b.pools) (sym here) }

pub returns-in-None : goal.returns-in-None
returns-in-None g c =
    let k : Key = key_of (record { counts = c.args.counts.now; marked = c.args.update_after_bind }) in
    let here = seen_at _ k (λ l. search rules) c.args.self.now c.self.inside.table.buckets.entries (ap (λ (a : Allocations _). a.table) c.self.view_is) (sym c.in-None.ensures.value) in
    record { count = ap (λ (b : BucketOf _). length b.pools) (sym here) }
