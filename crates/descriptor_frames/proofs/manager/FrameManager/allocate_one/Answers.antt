use Rattle.std.proofs.Common.{rules, [], ◌∷◌}
use Rattle.std.proofs.lemmas.List.Elements.{All-cons, All-nil}
use Rattle.std.proofs.lemmas.Result.{IfOk-weaker}
use Rattle.std.specs.Prelude.{IfOk}
use Rattle.gpu_descriptor.specs.Caller.Call.{map_ok}
use Rattle.gpu_descriptor_types.specs.Meaning.{IsOfLayout}
use Rattle.gpu_descriptor.specs.Caller.Sets.{AreOfLayout, raw_of}
use Rattle.gpu_descriptor.specs.declared.set.DescriptorSet.{DescriptorSet}
use Rattle.descriptor_frames.proofs.InUse.{hands_out_for_use, on_made}
use Rattle.descriptor_frames.proofs.manager.FrameManager.allocate_one.Goals as goal

pub returns-clause-hands_out : goal.returns-clause-hands_out
returns-clause-hands_out g c =
    let Own = AreOfLayout g.D.DescriptorDevice.meaning c.args.layout.now.layout in
    let one = IfOk-weaker c.allocate_one.result _ (λ set. Own (set ∷ [])) (λ set is. All-cons (λ (x : DescriptorSet g.row.S.Denot). IsOfLayout g.D.DescriptorDevice.meaning c.args.layout.now.layout (raw_of x)) set [] is (All-nil (λ (x : DescriptorSet g.row.S.Denot). IsOfLayout g.D.DescriptorDevice.meaning c.args.layout.now.layout (raw_of x)))) c.allocate_one.ensures.own in
    let own : IfOk (map_ok (λ set. set ∷ []) c.allocate_one.result) Own = on_made (λ set. set ∷ []) Own c.allocate_one.result one in
    search (rules, hands_out_for_use, own)
