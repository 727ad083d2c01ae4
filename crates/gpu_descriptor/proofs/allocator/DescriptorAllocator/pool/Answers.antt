use Rattle.gpu_descriptor.proofs.Common.{option_map, ◌<◌, ◌≤◌, arith, rules, ap, sym, ◌∙◌, length, refl, inl, inr, cases_lt, slice_get_past, slice_get_read, option_copied, Allocations, Key, BucketOf, DescriptorPool, key_of, false≢true}
use Rattle.gpu_descriptor.specs.Caller.Views.{view_in}
use Rattle.gpu_descriptor.proofs.table.Readings.{seen_at}
use Rattle.gpu_descriptor.proofs.allocator.DescriptorAllocator.pool.Goals as goal

pub returns-in_err-bucket : goal.returns-in_err-bucket
returns-in_err-bucket g c =
    let k : Key = key_of (record { counts = c.args.counts.now; marked = c.args.update_after_bind }) in
    let here = seen_at _ k (λ l. search rules) c.args.self.now c.self.inside.table.buckets.entries (ap (λ (a : Allocations _). a.table) c.self.view_is) (sym c.get.ensures.value ∙ ap option_copied c.in_err-bucket.was) in
    record { view = c.from_residual.ensures ∙ ap (λ (b : BucketOf _). view_in b c.args.index) (sym here) }

pub returns-in_err-pool : goal.returns-in_err-pool
returns-in_err-pool g c =
    let k : Key = key_of (record { counts = c.args.counts.now; marked = c.args.update_after_bind }) in
    let q = c.in_ok-bucket.bucket.now.pools in
    let long = q.ok.0 in
    let short : length q.items ≤ c.args.index = elim (cases_lt c.args.index q.len) [
      | inl lt ↦ absurd (false≢true (c.in_err-pool.ensures.variant.1 lt))
      | inr le ↦ omega arith
    ] in
    let here = seen_at _ k (λ l. search rules) c.args.self.now c.self.inside.table.buckets.entries (ap (λ (a : Allocations _). a.table) c.self.view_is) (sym c.get.ensures.value ∙ ap option_copied c.in_ok-bucket.was) in
    let past = slice_get_past q.items c.args.index short in
    record { view = c.from_residual-in_err-pool.ensures ∙ sym (ap (λ (b : BucketOf _). view_in b c.args.index) here ∙ ap (option_map (λ (e : DescriptorPool _). record { number = e.number; allocated = e.allocated; available = e.available })) past) }

pub returns : goal.returns
returns g c =
    let k : Key = key_of (record { counts = c.args.counts.now; marked = c.args.update_after_bind }) in
    let lt : c.args.index < length c.in_ok-bucket.bucket.now.pools.items = (let lt = c.in_ok-pool.ensures.variant.0 refl in omega (arith, c.in_ok-bucket.bucket.now.pools.ok.0)) in
    let b = c.in_ok-bucket.bucket.now in
    let here = seen_at _ k (λ l. search rules) c.args.self.now c.self.inside.table.buckets.entries (ap (λ (a : Allocations _). a.table) c.self.view_is) (sym c.get.ensures.value ∙ ap option_copied c.in_ok-bucket.was) in
    let there = slice_get_read b.pools.items (length b.pools.items) c.args.index c.in_ok-pool.pool.now refl lt c.in_ok-pool.ensures.lookup in
    record { view = sym (ap (λ (r : BucketOf _). view_in r c.args.index) here ∙ ap (option_map (λ (e : DescriptorPool _). record { number = e.number; allocated = e.allocated; available = e.available })) there) }
