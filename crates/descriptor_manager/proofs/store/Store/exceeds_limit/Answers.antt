use Rattle.descriptor_manager.proofs.Common.{rules, ◌≡◌, ◌*◌, ◌∙◌, if◌then◌else◌, sum, sym, ap}
use Rattle.gpu_descriptor.specs.Caller.Call.{layout_key}
use Rattle.gpu_descriptor.specs.Model.Load.{set_descriptors}
use Rattle.descriptor_manager.proofs.store.Store.exceeds_limit.Goals as goal

pub returns-then-is_marked : goal.returns-then-is_marked
returns-then-is_marked g c =
    let means = g.D.DescriptorDevice.meaning in
    let layout = c.args.known.now.layout in
    let same : set_descriptors (layout_key means layout) c.args.many ≡ c.from.result * c.from-then-is_marked.result =
    ap (λ b. if b then c.args.many * sum (means.counts layout) else 0) (sym c.requires.marked ∙ sym c.is_marked.ensures ∙ c.if-is_marked.true)
    ∙ ap (λ n. c.args.many * n) (sym (ap sum c.requires.counted) ∙ sym c.total.ensures.sum ∙ sym c.from-then-is_marked.ensures)
    ∙ ap (λ n. n * c.from-then-is_marked.result) (sym c.from.ensures) in
    search rules
