use Rattle.gpu_descriptor.proofs.Common.{common_steps, ◌≡◌, ◌+◌, ◌<◌, ◌++◌, ◌∷◌, [], List, suc, rules, refl, sym, ap, ◌∙◌, arith, length, drop, take, filter, get_or, slice_get, deque_capacity, Some, DescriptorPool, key_of, has_sets, pool_descriptors, pools_load}
use Rattle.gpu_descriptor.proofs.cleanup.Rotation.{as_turned, destroyed, first, goes_back, start, unused}
use Rattle.gpu_descriptor.proofs.lists.AtPlaces.{get_some}
use Rattle.gpu_descriptor.proofs.sums.PoolLoads.{stored_append, stored_first, stored_one}
use Rattle.gpu_descriptor.proofs.bucket.trim.destroy_without_sets.Goals.{After-unwrap-pool, then-pool-gt0, else-pool-gt0}
use Rattle.gpu_descriptor.proofs.bucket.trim.destroy_without_sets.Goals as goal

-- the pool that was taken, and those behind it
record Taken (g : _) (c : After-unwrap-pool g) : Type 0 where
  at : slice_get c.args.pools.now.items c.loop.counter ≡ Some c.unwrap-pool.result
  some : 0 < length c.loop.pools.items
  is : c.unwrap-pool.result ≡ get_or c.loop.pools.items 0 c.unwrap-pool.result
  rest : c.pop_front.new.self.items ≡ drop (suc c.loop.counter) c.args.pools.now.items ++ filter has_sets (take c.loop.counter c.args.pools.now.items)

taken : (g : _) (c : After-unwrap-pool g) → Taken g c
taken g c =
    let old = c.args.pools.now.items in
    let n = c.loop.counter in
    let name = g.D.DescriptorDevice.meaning.pool_name in
    let x = get_some old n (omega (arith, c.loop-test.true)) in
    let front = first name c.loop.invariant.turned.0 old c.loop.pools.items n _ _ c.loop.invariant.turned.1 x.0 x.1 in
    let behind = drop (suc n) old ++ filter has_sets (take n old) in
    let some : 0 < length c.loop.pools.items = (let long = ap length front in omega arith) in
    let value : c.pop_front.result ≡ Some (get_or c.loop.pools.items 0 c.unwrap-pool.result) = c.pop_front.ensures.value c.unwrap-pool.result (omega arith) in
    let was : c.pop_front.result ≡ Some c.unwrap-pool.result = search rules in
    let is : c.unwrap-pool.result ≡ get_or c.loop.pools.items 0 c.unwrap-pool.result = cc in
    let same : c.unwrap-pool.result ≡ x.0 = is ∙ ap (λ (l : List (DescriptorPool _)). get_or l 0 c.unwrap-pool.result) front in
    record { at = x.1 ∙ ap Some (sym same); some = some; is = is; rest = c.pop_front.ensures.rest ∙ ap (drop 1) front }

first_load : (g : _) (c : After-unwrap-pool g) → pools_load (key_of c.args.key.now) c.loop.pools.items ≡ pool_descriptors (key_of c.args.key.now) c.unwrap-pool.result.capacity + pools_load (key_of c.args.key.now) c.pop_front.new.self.items
first_load g c = (let t = taken g c in stored_first (key_of c.args.key.now) c.loop.pools.items c.unwrap-pool.result t.some t.is ∙ ap (λ l. pool_descriptors (key_of c.args.key.now) c.unwrap-pool.result.capacity + pools_load (key_of c.args.key.now) l) (sym c.pop_front.ensures.rest))

pub loop-init : goal.loop-init
loop-init g c = record { within = omega arith; turned = (c.requires.stored.0, start g.D.DescriptorDevice.meaning.pool_name c.requires.stored.0 c.args.pools.now.items (g.D.DescriptorDevice.ledger c.args.device.now) c.requires.stored.1); room = refl; capacity = refl }

pub unwrap-pool-requires : goal.unwrap-pool-requires
unwrap-pool-requires g c = grind (arith, common_steps, get_some)

pub marked_descriptors_of_pool-requires : goal.marked_descriptors_of_pool-requires
marked_descriptors_of_pool-requires g c = (let all = first_load g (goal.at.marked_descriptors_of_pool-requires g c).After-unwrap-pool in let room = c.loop.invariant.room in omega arith)

pub overflow_add-room : goal.overflow_add-room
overflow_add-room g c = (let all = first_load g (goal.at.overflow_add-room g c).After-unwrap-pool in let room = c.loop.invariant.room in omega arith)

pub destroy_descriptor_pool-requires : goal.destroy_descriptor_pool-requires
destroy_descriptor_pool-requires g c =
    let t = taken g (goal.at.destroy_descriptor_pool-requires g c).After-unwrap-pool in
    unused g.D.DescriptorDevice.meaning.pool_name c.loop.invariant.turned.0 c.args.pools.now.items c.loop.pools.items c.loop.counter _ _ c.loop.invariant.turned.1 c.unwrap-pool.result t.at (omega (arith, c.if-pool-gt0.false))

pub loop-preserved : goal.loop-preserved
loop-preserved g c =
    let name = g.D.DescriptorDevice.meaning.pool_name in
    let key = key_of c.args.key.now in
    let old = c.args.pools.now.items in
    let d = (goal.at.loop-preserved g c).After-unwrap-pool in
    let t = taken g d in
    let turned = c.loop.invariant.turned in
    let load = first_load g d in
    let room = c.loop.invariant.room in
    let more : suc c.loop.counter ≡ c.loop.counter + 1 = omega arith in
    elim c.if-pool-gt0.branch [
      | then-pool-gt0 w ↦ (
          let pushed = ap (λ v. v.items) w.pools-is ∙ w.push_back_reserved.ensures.items in
          let now = pushed ∙ ap (λ l. l ++ c.unwrap-pool.result ∷ []) t.rest in
          let next = goes_back name turned.0 old c.loop.pools.items c.loop.counter _ _ turned.1 c.unwrap-pool.result t.at (omega (arith, w.if-pool-gt0.true)) c.if-pool-gt0.pools.items now in
          let both = ap (pools_load key) pushed ∙ stored_append key c.pop_front.new.self.items (c.unwrap-pool.result ∷ []) in
          let one = stored_one key c.unwrap-pool.result in
          let same = w.room-is in
          record {
            within = omega (arith, c.loop-test.true);
            turned = (turned.0, as_turned name turned.0 old c.if-pool-gt0.pools.items (suc c.loop.counter) (c.loop.counter + 1) _ _ _ more (ap g.D.DescriptorDevice.ledger (sym w.device-is)) next);
            room = omega arith;
            capacity = ap deque_capacity w.pools-is ∙ w.push_back_reserved.ensures.capacity ∙ c.pop_front.ensures.capacity ∙ c.loop.invariant.capacity;
          })
      | else-pool-gt0 w ↦ (
          let now = ap (λ v. v.items) w.pools-is ∙ t.rest in
          let next = destroyed name turned.0 old c.loop.pools.items c.loop.counter _ _ turned.1 c.unwrap-pool.result t.at (omega (arith, w.if-pool-gt0.false)) c.if-pool-gt0.pools.items now _ w.destroy_descriptor_pool.ensures in
          let same = w.room-is in
          let less = ap (λ v. pools_load key v.items) w.pools-is in
          let counted = w.marked_descriptors_of_pool.ensures in
          record {
            within = omega (arith, c.loop-test.true);
            turned = (turned.0, as_turned name turned.0 old c.if-pool-gt0.pools.items (suc c.loop.counter) (c.loop.counter + 1) _ _ _ more (ap g.D.DescriptorDevice.ledger (sym w.device-is)) next);
            room = omega arith;
            capacity = ap deque_capacity w.pools-is ∙ c.pop_front.ensures.capacity ∙ c.loop.invariant.capacity;
          })
    ]
