use Rattle.std.proofs.Common.{arith, length, sym, ap, ◌∙◌}
use Rattle.std.proofs.IntoIterSteps.{All-taken}
use Rattle.std.specs.Vec.Iter.{into_iter_items}
use Rattle.gpu_descriptor_types.proofs.Drained.{taken_front}
use Rattle.gpu_descriptor.specs.Model.Agreement.{State}
use Rattle.gpu_descriptor.specs.Caller.Sets.{items_of}
use Rattle.gpu_descriptor.specs.Caller.States.{state_of}
use Rattle.descriptor_script.specs.Scripted.Raw.{pool_id, set_id}
use Rattle.gpu_descriptor.proofs.callers.HeldSets.{came_out, out_front}
use Rattle.descriptor_script.specs.Scripted.Device.{ledger_of}
use Rattle.descriptor_examples.proofs.proper_use.borrow_set.Goals as goal

pub free-requires-clause-outstanding : goal.free-requires-clause-outstanding
free-requires-clause-outstanding c iter gives xs t y =
    let before : State = state_of pool_id c.args.allocator.now (ledger_of c.args.device.now) in
    let now : State = state_of pool_id c.allocate.new.self (ledger_of c.allocate.new.device) in
    out_front set_id xs (into_iter_items t) c.in-Ok.sets.items now (sym gives.0 ∙ taken_front iter xs t y) (came_out (items_of set_id c.in-Ok.sets.items) before now c.in-Ok.ensures.hands_out.given)

pub returns-in-Ok-clause-outstanding : goal.returns-in-Ok-clause-outstanding
returns-in-Ok-clause-outstanding c =
    let frees = c.free.ensures.frees in
    let f = frees.3 in
    let all = ap length (All-taken frees.0 f.sets (frees.1, f.drained) ∙ frees.2.0) in
    let less = f.returns.back.outstanding in
    let many = c.in-Ok.ensures.hands_out.many in
    let more = c.in-Ok.ensures.hands_out.totals.0 in
    omega arith
