use Rattle.std.proofs.Common.{◌∙◌, ap, arith}
use Rattle.gpu_descriptor.specs.Caller.States.{outstanding_of}
use Rattle.descriptor_examples.proofs.one_layout.draw_once.Goals as goal

pub free_all-requires-clause-outstanding : goal.free_all-requires-clause-outstanding
free_all-requires-clause-outstanding g c = λ t.
    let given = c.in-Ok.ensures.hands_out.given t in
    omega arith

pub returns-in-Ok : goal.returns-in-Ok
returns-in-Ok g c =
    let name = g.D.DescriptorDevice.meaning.pool_name in
    let ledger = g.D.DescriptorDevice.ledger c.args.device.now in
    let many = c.in-Ok.ensures.hands_out.many in
    let more = c.in-Ok.ensures.hands_out.totals.0 in
    let fewer = c.free_all.ensures.returns.back.outstanding in
    let fresh = ap outstanding_of c.new-allocator.ensures.value in
    let none = c.no_pool_is_lost.ensures.all_others name c.new-allocator.result ledger (ap (λ a. a.table) c.new-allocator.ensures.value) in
    record { pools = c.cleanup.ensures.cleans_up.emptied (omega arith) ∙ c.free_all.ensures.keeps.others ∙ c.in-Ok.ensures.keeps.others ∙ none }
