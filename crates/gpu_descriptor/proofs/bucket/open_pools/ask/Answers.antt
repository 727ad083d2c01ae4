use Rattle.gpu_descriptor.proofs.Common.{◌≡◌, ℕ, ◌+◌, ◌-◌, ◌<◌, ◌≤◌, List, [], length, map, refl, sym, ap, ◌∙◌, subst, arith, min, length-map, append-nil, if◌then◌else◌, Ledger, after_alloc, live_sets, pool_refusals, Entry, Key, key_of, entry_of, IsBookedIn, IsAsked, All, All-nil, IsOfLayout}
use Rattle.gpu_descriptor.proofs.request.PlacesFree.{can_give}
use Rattle.gpu_descriptor.proofs.request.Asks.{same_entry, given, refuses}
use Rattle.gpu_descriptor.proofs.bucket.open_pools.ask.Goals as goal

pub alloc_descriptor_sets-requires : goal.alloc_descriptor_sets-requires
alloc_descriptor_sets-requires g c =
    let few : c.min-count.result ≤ c.args.pool.now.available = (let a = c.min-count.ensures in omega arith) in
    let e : Entry = entry_of g.D.DescriptorDevice.meaning.pool_name c.args.pool.now in
    let l : Ledger = g.D.DescriptorDevice.ledger c.args.device.now in
    let booked = subst (λ (k : Key). IsBookedIn k l.pools e) c.args.request.now.same c.requires.booked in
    record { fits = record { gives = rw (c.new.ensures.left, c.new.ensures.layout) (can_give (g.D.DescriptorDevice.meaning.counts c.args.request.now.layout.now) (g.D.DescriptorDevice.meaning.mark c.args.request.now.layout.now) e c.min-count.result l booked few); room = (let a = c.min-count.ensures in let n = c.new.ensures.left in omega arith) } }

pub returns-in-Ok-clause-asked : goal.returns-in-Ok-clause-asked
returns-in-Ok-clause-asked g c =
    let count = c.min-count.ensures in
    let put = c.in-Ok.ensures.ok in
    let key : Key = key_of c.args.request.now.key in
    let e : Entry = entry_of g.D.DescriptorDevice.meaning.pool_name c.args.pool.now in
    let l : Ledger = g.D.DescriptorDevice.ledger c.args.device.now in
    let m : Ledger = g.D.DescriptorDevice.ledger c.alloc_descriptor_sets.new.self in
    let names : List ℕ = map g.D.DescriptorDevice.meaning.set_name put.sets in
    let many : length put.sets ≡ c.min-count.result = put.many ∙ c.new.ensures.left in
    let long : length names ≡ min c.args.sink.now.left e.available = length-map put.sets g.D.DescriptorDevice.meaning.set_name ∙ many ∙ count in
    let some : 0 < min c.args.sink.now.left e.available = (let free = c.requires.free in let wanted = c.requires.some in omega arith) in
    let counts : g.D.DescriptorDevice.meaning.counts c.args.request.now.layout.now ≡ key.counts = sym (ap (λ (k : Key). k.counts) c.args.request.now.same) in
    let is : m ≡ after_alloc e.pool (live_sets key.counts names) l = put.ledger ∙ ap (λ cs. after_alloc e.pool (live_sets cs names) l) (ap g.D.DescriptorDevice.meaning.counts c.new.ensures.layout ∙ counts) in
    let was = given key c.args.sink.now.left names e l m some long is in
    let now : record e { allocated = e.allocated + min c.args.sink.now.left e.available; available = e.available - min c.args.sink.now.left e.available }
    ≡ entry_of g.D.DescriptorDevice.meaning.pool_name (record { pool = c.alloc_descriptor_sets.new.pool; number = c.args.pool.now.number; capacity = c.args.pool.now.capacity; allocated = c.args.pool.now.allocated + c.min-count.result; available = c.args.pool.now.available - c.min-count.result })
    = same_entry _ _ refl (sym c.in-Ok.ensures.name) refl (omega arith) (omega arith) in
    let room : c.alloc_descriptor_sets.new.sets.left + length put.sets ≡ c.args.sink.now.left = (let r = put.room in let n = c.new.ensures.left in omega arith) in
    (put.sets, put.kept, room, subst (λ (f : Entry). IsAsked key c.args.sink.now.left names e f l m) now was, subst (λ l. All (IsOfLayout g.D.DescriptorDevice.meaning l) put.sets) c.new.ensures.layout put.own)

pub returns-then-is_of_pool-clause-asked : goal.returns-then-is_of_pool-clause-asked
returns-then-is_of_pool-clause-asked g c =
    let count = c.min-count.ensures in
    let err = c.in-Err.ensures.err in
    let key : Key = key_of c.args.request.now.key in
    let e : Entry = entry_of g.D.DescriptorDevice.meaning.pool_name c.args.pool.now in
    let l : Ledger = g.D.DescriptorDevice.ledger c.args.device.now in
    let m : Ledger = g.D.DescriptorDevice.ledger c.alloc_descriptor_sets.new.self in
    let some : 0 < min c.args.sink.now.left e.available = (let free = c.requires.free in let wanted = c.requires.some in omega arith) in
    let of_pool : pool_refusals c.in-Err.error ≡ 1 = c.is_of_pool.ensures ∙ ap (λ b. if b then 1 else 0) c.if-is_of_pool.true in
    let was = refuses key c.args.sink.now.left c.in-Err.error e l m some of_pool err.ledger in
    let now : record e { available = 0 }
    ≡ entry_of g.D.DescriptorDevice.meaning.pool_name (record { pool = c.alloc_descriptor_sets.new.pool; number = c.args.pool.now.number; capacity = c.args.pool.now.capacity; allocated = c.args.pool.now.allocated; available = 0 }) = same_entry _ _ refl (sym c.in-Err.ensures.name) refl refl refl in
    ([], err.kept ∙ sym (append-nil (g.K.SetPlaces.items c.args.sink.now.sets)), (let left = err.room in omega arith), subst (λ (f : Entry). IsAsked key c.args.sink.now.left [] e f l m) now was, All-nil _)
