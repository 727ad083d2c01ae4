use Rattle.gpu_descriptor.proofs.Common.{◌≡◌, ℕ, ◌-◌, ◌<◌, length, length-set, slice_get, slice_get-map, slice_get_read, option_map, Some, refl, sym, ap, arith, ◌∙◌, DescriptorPool, first_ordinal, number_after, rises}
use Rattle.std.proofs.lemmas.List.Elements.{All-get_or, All-set}
use Rattle.std.proofs.lemmas.List.Sums.{sum_by-set}
use Rattle.std.proofs.lemmas.Result.{IfErr-weaker, on_ok_weaker}
use Rattle.gpu_descriptor.proofs.cleanup.Rotation.{Has}
use Rattle.gpu_descriptor.proofs.request.OpenWalk.{asks_newest, first_now, from_first, has_free, inside, listed_now, numbers_now}
use Rattle.gpu_descriptor.proofs.bucket.open_pools.OpenPools.ask_newest.Goals.{After-index_mut-pool}
use Rattle.gpu_descriptor.proofs.bucket.open_pools.OpenPools.ask_newest.Goals as goal

pub overflow_sub-place : goal.overflow_sub-place
overflow_sub-place g c = (let e = from_first c.args.self.now.bucket.now _ c.newest.result _ c.newest.ensures refl in let first = c.first_ordinal.ensures.first in omega arith)

pub index_mut-pool-requires : goal.index_mut-pool-requires
index_mut-pool-requires g c = (let here = inside c.args.self.now.bucket.now _ c.newest.result _ c.newest.ensures (ap (λ (n : ℕ). c.newest.result - n) c.first_ordinal.ensures.first) in omega (arith, c.args.self.now.bucket.now.pools.ok.0))

-- the pool that is asked
module _ (g : _) (c : After-index_mut-pool g) where
  place : c.newest.result - c.first_ordinal.result ≡ c.newest.result - first_ordinal c.args.self.now.bucket.now.pools.items
  place = ap (λ (n : ℕ). c.newest.result - n) c.first_ordinal.ensures.first

  within : c.newest.result - c.first_ordinal.result < length c.args.self.now.bucket.now.pools.items
  within = inside c.args.self.now.bucket.now _ c.newest.result _ c.newest.ensures place

  at : slice_get c.args.self.now.bucket.now.pools.items (c.newest.result - c.first_ordinal.result) ≡ Some c.index_mut-pool.result.now
  at = slice_get_read c.args.self.now.bucket.now.pools.items (length c.args.self.now.bucket.now.pools.items) (c.newest.result - c.first_ordinal.result) c.index_mut-pool.result.now refl within c.index_mut-pool.ensures.value

pub ask-asked-requires-clause-booked : goal.ask-asked-requires-clause-booked
ask-asked-requires-clause-booked g c = (let at = at g (goal.at.ask-asked-requires-clause-booked g c).After-index_mut-pool in c.requires.booked.each _ _ (slice_get-map _ c.args.self.now.bucket.now.pools.items _ ∙ ap (option_map _) at))

pub ask-asked-requires-clause-free : goal.ask-asked-requires-clause-free
ask-asked-requires-clause-free g c = (let r = (goal.at.ask-asked-requires-clause-free g c).After-index_mut-pool in has_free c.args.self.now.bucket.now _ c.newest.result _ c.newest.ensures (place g r) c.index_mut-pool.result.now (at g r))

pub invariant_of-bucket-2 : goal.invariant_of-bucket-2
invariant_of-bucket-2 g c =
    let r = (goal.at.invariant_of-bucket-2 g c).After-index_mut-pool in
    let b = c.args.self.now.bucket.now in
    let i = c.newest.result - c.first_ordinal.result in
    let p = c.index_mut-pool.result.now in
    let q = c.ask-asked.new.pool in
    let number = c.ask-asked.ensures.number in
    let last = c.newest.ensures in
    let same = numbers_now b _ c.newest.result i last (place g r) p (at g r) q number in
    let inside = within g r in
    let long = length-set b.pools.items i q in
    let was = ap (λ (p : DescriptorPool g.row.P.Denot). p.allocated) c.index_mut-pool.ensures.value in
    let more = c.ask-asked.ensures.allocated in
    let few = c.ask-asked.ensures.left in
    record {
      ordinal = b.ordinal ∙ sym (first_now b _ c.newest.result i last (place g r) p (at g r) q number);
      numbered = (let next = ap number_after same in let fits = b.numbered in omega arith);
      rising = ap rises same ∙ b.rising;
      counted = (
          let put = sum_by-set (λ (p : DescriptorPool g.row.P.Denot). p.allocated) b.pools.items i q p inside in
          let total = b.counted in
          let came = c.from.ensures in
          let left = c.aim.ensures.left in
          omega arith);
      «open» = listed_now b _ c.newest.result i last (place g r) p (at g r) q number c.close_newest.new.self.ordinals.items c.close_newest.ensures.closed c.close_newest.ensures.stays;
      capacity = (let is = c.close_newest.ensures.capacity in let fits = b.capacity in omega arith);
      full = λ off. (let here = All-get_or Has b.pools.items i p inside (b.full off) in All-set Has b.pools.items i q (omega arith) (b.full off));
      some = λ on. (let has = b.some on in omega arith);
    }

pub returns-clause-asked : goal.returns-clause-asked
returns-clause-asked g c =
    let r = (goal.at.returns-clause-asked g c).After-index_mut-pool in
    let aim = c.aim.ensures in
    let known = rw (aim.sets, aim.left, aim.key, aim.id, aim.number) at c.ask-asked.ensures.asked in
    on_ok_weaker c.ask-asked.result (λ p. (asks_newest c.args.self.now.bucket.now _ c.newest.result _ c.newest.ensures (place g r) c.index_mut-pool.result.now (at g r) c.ask-asked.new.pool c.ask-asked.ensures.number refl c.ask-asked.ensures.capacity refl refl, p.0, p.1, p.2, p.3, p.4)) known

pub returns-clause-err : goal.returns-clause-err
returns-clause-err g c =
    let r = (goal.at.returns-clause-err g c).After-index_mut-pool in
    let aim = c.aim.ensures in
    let known = rw (aim.sets, aim.left) at c.ask-asked.ensures.err in
    IfErr-weaker c.ask-asked.result _ _ (λ e p. (asks_newest c.args.self.now.bucket.now _ c.newest.result _ c.newest.ensures (place g r) c.index_mut-pool.result.now (at g r) c.ask-asked.new.pool c.ask-asked.ensures.number refl c.ask-asked.ensures.capacity refl refl, p.0, p.1, p.2, p.3, p.4)) known
