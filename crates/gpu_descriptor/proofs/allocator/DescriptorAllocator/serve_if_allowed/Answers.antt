use Rattle.gpu_descriptor.proofs.Common.{common_steps, ◌≡◌, ◌+◌, ◌*◌, ◌<◌, ◌≤◌, length, arith, refl, sym, subst, None, ap, false≢true, greatest_u64, Bucket, next_number, outstanding_of, key_of, set_descriptors, IsConsistent, ◌∙◌, Allocations, rules}
use Rattle.gpu_descriptor.proofs.sums.Loads.{set_descriptors-each}
use Rattle.gpu_descriptor.proofs.cleanup.KeyOrder.{keys_seen}
use Rattle.gpu_descriptor.proofs.callers.Unchanged.{keeps_still}
use Rattle.gpu_descriptor.proofs.request.Certain.{allowed, in_bound, in_limit, some_pools}
use Rattle.gpu_descriptor.proofs.Common.{[], ◌∷◌, stored_ids}
use Rattle.gpu_descriptor.proofs.lists.Numbers.{rises_front}
use Rattle.gpu_descriptor.proofs.release.Owned.{has_ids}
use Rattle.gpu_descriptor.proofs.request.HandedOut.{keeps_all}
use Rattle.gpu_descriptor.proofs.request.Requested.{load_within, pool_load_within, rows_apart, same_range, seen, seen_again, table_is, declined_by_limit, declined_by_bound, declined_unserved, given_fits, counted_now, takes_of, books_at}
use Rattle.gpu_descriptor.specs.Caller.SetLists.{appended}
use Rattle.gpu_descriptor.proofs.request.Passed.{passed}
use Rattle.gpu_descriptor.proofs.allocator.DescriptorAllocator.serve_if_allowed.Goals.{After-from-taken}
use Rattle.gpu_descriptor.proofs.request.StateAgrees.{booked_of}
use Rattle.gpu_descriptor.proofs.allocator.DescriptorAllocator.serve_if_allowed.Goals as goal

pub returns-then-would_exceed_limit-clause-declined : goal.returns-then-would_exceed_limit-clause-declined
returns-then-would_exceed_limit-clause-declined g c =
    declined_by_limit g.D.DescriptorDevice.meaning c.self.view_is c.self.invariant _ c.args.request.now.key c.requires.some c.would_exceed_limit.ensures c.if-would_exceed_limit.true

pub returns-then-would_exceed_64_bits-clause-declined : goal.returns-then-would_exceed_64_bits-clause-declined
returns-then-would_exceed_64_bits-clause-declined g c = grind (arith, common_steps, declined_by_bound)

pub returns-in_err-ended-clause-declined : goal.returns-in_err-ended-clause-declined
returns-in_err-ended-clause-declined g c =
    rw (passed c.from_residual.result c.in_err-ended.field-0.0 c.from_residual.ensures.1)
    (declined_unserved g.D.DescriptorDevice.meaning c.self.view_is c.self.invariant _ c.args.request.now.key c.requires.some c.would_exceed_limit.ensures c.if-would_exceed_limit.false
    c.would_exceed_64_bits.ensures c.if-would_exceed_64_bits.false
    (seen_again _ c.self.view_is _ c.in_err-ended.ensures.serves.stays.1
    (ap (λ b. b.looks.count) c.in_err-ended.ensures.serves.stays.2) (ap (λ b. b.bound) c.in_err-ended.ensures.serves.stays.2) (same_range c.in_err-ended.ensures.range.0 c.in_err-ended.ensures.range.1))
    c.in_err-ended.ensures.serves.stays.3 c.in_err-ended.field-0.0 c.in_err-ended.ensures.serves.refused)

many : (g : _) (c : After-from-taken g) → c.from-taken.result ≡ length (appended (g.K.SetPlaces.items c.args.sink.now.sets) (g.K.SetPlaces.items c.serve.new.sink.sets))
many g c = (let left = c.in_ok-ended.ensures.serves.appends.rest in let came = c.from-taken.ensures in omega arith)

few : (g : _) (c : After-from-taken g) → c.from-taken.result ≤ c.args.request.now.count
few g c = (let is = many g c in let rest = c.in_ok-ended.ensures.serves.appends.rest in omega arith)

-- the descriptors of what came keep the limit
fits : (g : _) (c : After-from-taken g) → set_descriptors (key_of c.args.request.now.key) c.from-taken.result + c.self.inside.update_after_bind_descriptors ≤ c.self.inside.max_update_after_bind_descriptors_in_all_pools
fits g c = given_fits c.serve.new.self.buckets.entries c.in_ok-ended.ensures.serves.served c.self.view_is c.self.invariant c.would_exceed_limit.ensures c.if-would_exceed_limit.false (few g c)

descriptors : (g : _) (c : After-from-taken g) → c.from-taken.result * c.marked_descriptors_of_set-each.result ≡ set_descriptors (key_of c.args.request.now.key) c.from-taken.result
descriptors g c = set_descriptors-each (key_of c.args.request.now.key) c.from-taken.result c.marked_descriptors_of_set-each.result c.marked_descriptors_of_set-each.ensures

pub overflow_mul-descriptors : goal.overflow_mul-descriptors
overflow_mul-descriptors g c = grind (arith, common_steps)

pub overflow_cast-descriptors : goal.overflow_cast-descriptors
overflow_cast-descriptors g c = grind (arith, common_steps)

pub overflow_add-self-2 : goal.overflow_add-self-2
overflow_add-self-2 g c = grind (arith, common_steps)

-- the totals count what came
counted :
    (g : _) (c : After-from-taken g)
    → IsConsistent c.self.inside.max_update_after_bind_descriptors_in_all_pools
    (c.self.inside.update_after_bind_descriptors + c.from-taken.result * c.marked_descriptors_of_set-each.result)
    c.serve.new.budget.room (c.self.inside.outstanding + c.from-taken.result) c.serve.new.self.buckets.entries
counted g c =
    counted_now c.serve.new.self.buckets.entries c.in_ok-ended.ensures.serves.served c.self.view_is c.self.invariant
    c.would_exceed_limit.ensures c.if-would_exceed_limit.false
    (many g c) (few g c) (descriptors g c) c.serve.ensures.serves.room

pub invariant_of-self-2 : goal.invariant_of-self-2
invariant_of-self-2 g c = counted g (goal.at.invariant_of-self-2 g c).After-from-taken

pub returns-clause-taken : goal.returns-clause-taken
returns-clause-taken g c =
    takes_of c.serve.new.self.buckets.entries c.in_ok-ended.ensures.serves.served c.self.view_is c.self.invariant c.would_exceed_limit.ensures c.if-would_exceed_limit.false c.would_exceed_64_bits.ensures c.if-would_exceed_64_bits.false

pub returns-clause-keys : goal.returns-clause-keys
returns-clause-keys g c = keys_seen (key_of c.args.request.now.key) c.args.self.now (seen 0 None (0, 0) 0 0 c.serve.new.self.buckets.entries) c.self.inside.table.buckets.entries c.serve.new.self.buckets.entries (table_is _ c.self.view_is) refl c.in_ok-ended.ensures.serves.keys

pub returns-clause-keeps : goal.returns-clause-keeps
returns-clause-keeps g c =
    let fs = c.serve.new.self.buckets.entries in
    let all = counted g (goal.at.returns-clause-keeps g c).After-from-taken in
    let now : Allocations _ = seen c.self.inside.max_update_after_bind_descriptors_in_all_pools c.serve.new.budget.bound (c.serve.new.self.first_id, c.serve.new.self.end_id) c.serve.new.budget.looks.count c.self.inside.comparisons.count fs in
    keeps_all {new = now}
    (takes_of fs c.in_ok-ended.ensures.serves.served c.self.view_is c.self.invariant c.would_exceed_limit.ensures c.if-would_exceed_limit.false c.would_exceed_64_bits.ensures c.if-would_exceed_64_bits.false)
    c.requires.agree.books (rows_apart {a = now} fs refl g.D.DescriptorDevice.meaning.pool_name c.serve.new.self.distinct) (ap (λ (a : Allocations _). a.limit) c.self.view_is)
    (c.in_ok-ended.ensures.serves.bound ∙ ap (λ (a : Allocations _). a.bound) c.self.view_is) (same_range c.in_ok-ended.ensures.range.0 c.in_ok-ended.ensures.range.1 ∙ ap (λ (a : Allocations _). a.ids) c.self.view_is) (load_within {a = now} fs refl all) (pool_load_within {a = now} fs refl all)

pub returns-then-would_exceed_limit-clause-keeps : goal.returns-then-would_exceed_limit-clause-keeps
returns-then-would_exceed_limit-clause-keeps g c = keeps_still refl refl c.requires.agree (load_within _ c.self.view_is c.self.invariant) (pool_load_within _ c.self.view_is c.self.invariant)

pub returns-then-would_exceed_64_bits-clause-keeps : goal.returns-then-would_exceed_64_bits-clause-keeps
returns-then-would_exceed_64_bits-clause-keeps g c = keeps_still refl refl c.requires.agree (load_within _ c.self.view_is c.self.invariant) (pool_load_within _ c.self.view_is c.self.invariant)

pub serve-requires-clause-booked : goal.serve-requires-clause-booked
serve-requires-clause-booked g c = search (rules, booked_of, books_at, table_is)

pub returns-then-would_exceed_limit-clause-certain : goal.returns-then-would_exceed_limit-clause-certain
returns-then-would_exceed_limit-clause-certain g c provided =
    absurd (false≢true (sym (in_limit _ _ _ _ c.would_exceed_limit.ensures (allowed _ c.args.self.now _ c.requires.agree (pool_load_within _ c.self.view_is c.self.invariant) (key_of c.args.request.now.key) c.args.request.now.count provided.free)) ∙ c.if-would_exceed_limit.true))

pub returns-then-would_exceed_64_bits-clause-certain : goal.returns-then-would_exceed_64_bits-clause-certain
returns-then-would_exceed_64_bits-clause-certain g c provided =
    let all = ap outstanding_of c.self.view_is in
    let is_out = c.self.invariant.is_out in
    let sets = provided.sets in
    absurd (false≢true (sym (in_bound _ _ _ c.would_exceed_64_bits.ensures (omega arith)) ∙ c.if-would_exceed_64_bits.true))

pub returns-in_err-ended-clause-certain : goal.returns-in_err-ended-clause-certain
returns-in_err-ended-clause-certain g c provided =
    let is = books_at c.args.self.now c.self.inside.table.buckets.entries (table_is _ c.self.view_is) g.D.DescriptorDevice.meaning.pool_name (g.D.DescriptorDevice.ledger c.args.device.now) (key_of c.args.request.now.key) in
    let free = provided.free in
    let some = c.requires.some in
    let pools = some_pools _ (omega arith) in
    absurd (false≢true (c.in_err-ended.ensures.fits provided.room (subst (λ (b : Bucket). 0 < length b.pools) is pools) (subst (λ (b : Bucket). next_number b + c.args.request.now.count ≤ greatest_u64) is provided.numbers)))

pub returns-clause-ids : goal.returns-clause-ids
returns-clause-ids g c =
    let table = c.serve.new.self in
    let es = table.buckets.entries in
    let now : Allocations _ = seen c.self.inside.max_update_after_bind_descriptors_in_all_pools c.serve.new.budget.bound (table.first_id, table.end_id) c.serve.new.budget.looks.count c.self.inside.comparisons.count es in
    has_ids g.D.DescriptorDevice.meaning.pool_name g.D.DescriptorDevice.meaning.set_name now _ es refl table.distinct (rises_front (stored_ids es) (table.next_id ∷ []) table.rising) table.ranged
