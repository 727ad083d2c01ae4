use Rattle.gpu_descriptor.proofs.Common.{common_steps, ◌≡◌, ℕ, ◌+◌, suc, take, length, length-take-le, refl, ap, arith, ◌∙◌, slice_get_read}
use Rattle.gpu_descriptor.proofs.lists.AtPlaces.{long_take, take_get}
use Rattle.gpu_descriptor.proofs.lists.OpenList.{few_listed, listed_push}
use Rattle.gpu_descriptor.proofs.bucket.open_list.OpenList.relist.Goals as goal

pub push-requires : goal.push-requires
push-requires g c = grind (arith, common_steps, few_listed, length-take-le)

pub loop-place-preserved : goal.loop-place-preserved
loop-place-preserved g c =
    let pools = c.args.pools.now.items in
    let place = c.loop-place.place in
    let p = c.index.result.now in
    let at = slice_get_read pools (length pools) place p refl (let all = c.args.pools.now.ok.0 in let last = c.len-place-end.ensures in omega arith) c.index.ensures in
    let more = ap (λ (n : ℕ). take n pools) (let e : place + 1 ≡ suc place = omega arith in e) ∙ take_get pools place p at in
    record {
      listed = rw more (listed_push c.first_ordinal_of-first.result (take place pools) c.loop-place.self.ordinals.items c.loop-place.invariant.listed p c.push.new.self.ordinals.items (rw (long_take pools place p at) c.push.ensures.comes) c.push.ensures.stays);
      capacity = c.push.ensures.capacity ∙ c.loop-place.invariant.capacity;
    }
