use Rattle.std.proofs.Common.{ap, arith}
use Rattle.gpu_descriptor.specs.Caller.Sets.{items_of}
use Rattle.gpu_descriptor.specs.Model.Agreement.{count_of}
use Rattle.descriptor_script.specs.Scripted.Device.{ledger_of}
use Rattle.descriptor_script.specs.Scripted.Raw.{pool_id, set_id}
use Rattle.descriptor_vectors.proofs.frames.trial.Trial.new.Goals as goal

pub invariant_of-result : goal.invariant_of-result
invariant_of-result c =
    let none = c.new-manager.ensures.retired pool_id set_id (ledger_of c.new-device.result) in
    record {
      agree = c.in_ok-sets.ensures.keeps.allocator.agree;
      retired = c.in_ok-sets.ensures.keeps.outstanding none;
      used = record { used = λ t. (let brings = c.in_ok-sets.ensures.in_use none t in let same = ap (λ l. count_of t (items_of set_id l)) c.from.ensures.0 in omega arith) };
    }
