use Rattle.std.proofs.Common.{◌≡◌, ℕ, ◌+◌, ◌<◌, [], ◌∷◌, ◌++◌, length, length-append, sym, ap, ◌∙◌, arith}
use Rattle.gpu_descriptor_types.specs.declared.counts.DescriptorTotalCount.{DescriptorTotalCount}
use Rattle.indexmap.specs.IndexMap.{spare}
use Rattle.descriptor_script.specs.Scripted.Raw.{raw_set}
use Rattle.descriptor_script.proofs.Filling.{grown, kept_grown, next_same, none_above, put_last, put_changes}
use Rattle.descriptor_script.proofs.live.fill.Goals as goal

pub loop-layout-preserved : goal.loop-layout-preserved
loop-layout-preserved g c =
    let i = c.loop-layout.invariant in
    let it = c.loop-layout.layout-iterator in
    let to = c.next.new.self in
    let step = next_same c.args.layouts.layout c.in-Some.layout to.layout it.layout it.left to.left i.same c.in-Some.ensures.steps in
    let layout_is = ap (λ r. r.now.counts) step.same in
    let n : ℕ = c.loop-layout.name in
    let more : length (c.loop-layout.yielded ++ c.in-Some.layout ∷ []) ≡ length c.loop-layout.yielded + 1 = length-append c.loop-layout.yielded (c.in-Some.layout ∷ []) in
    let at : c.args.first + length c.loop-layout.yielded ≡ n = sym i.name in
    let had : it.left ≡ to.left + 1 = step.more in
    let spacious : 0 < spare c.loop-layout.live = (let s = i.space in omega arith) in
    let ok = c.insert.ensures.succeeds spacious in
    let free = i.fresh n (omega arith) in
    let pushed = put_last c.loop-layout.live c.insert.new.self n c.in-Some.layout.now.counts c.insert.result ok c.insert.ensures.entries free in
    let changes = put_changes c.loop-layout.live c.insert.new.self n c.in-Some.layout.now.counts c.insert.result ok c.insert.ensures.updates in
    record {
      ahead = (let a = i.ahead in omega arith);
      same = step.rest;
      name = omega arith;
      live = grown _ _ _ _ (n, c.in-Some.layout.now.counts) _ _ _ n pushed i.live at (ap (λ (d : DescriptorTotalCount). (n, d)) layout_is) more;
      space = (let s = i.space in let u = c.insert.ensures.spare in omega arith);
      fresh = λ m above. changes m ∙ none_above n m _ _ above (i.fresh m (omega arith));
      sets = kept_grown (g.K.SetSink.sink.kept_as c.args.sink.now) _ _ _ _ c.args.pool c.args.first _ _ n c.put.ensures.kept i.sets at (ap (λ f. f (raw_set c.args.pool n)) i.alike) more;
      alike = c.put.ensures.alike ∙ i.alike;
      room = (let r = i.room in let p = c.put.ensures.room in omega arith);
    }
