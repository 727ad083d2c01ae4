use Rattle.std.proofs.Common.{◌≡◌, ◌∙◌, IsTrue, eqb-true, sym}
use Rattle.gpu_descriptor.specs.Caller.Call.{layout_key}
use Rattle.gpu_descriptor.specs.Caller.States.{state_of}
use Rattle.gpu_descriptor.proofs.callers.WithoutPools.{still_without}
use Rattle.descriptor_script.specs.Scripted.Device.{ledger_of}
use Rattle.descriptor_script.specs.Scripted.Raw.{pool_id, script_meaning}
use Rattle.descriptor_vectors.proofs.refused_first.ask_in_vain.Goals as goal

pub returns-in-Err-clause-began : goal.returns-in-Err-clause-began
returns-in-Err-clause-began c = λ empty.
    let was = state_of pool_id c.args.allocator.now (ledger_of c.args.device.now) in
    still_without pool_id (layout_key script_meaning c.args.layout.now) was c.allocate.new.self (ledger_of c.allocate.new.device) c.requires.began c.allocate.ensures.hands_out.other_keys (sym c.pool_count.ensures.count ∙ eqb-true c.pool_count.result 0 empty)
