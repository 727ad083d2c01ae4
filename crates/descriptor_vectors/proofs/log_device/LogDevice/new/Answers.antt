use Rattle.std.proofs.Common.{ap, ◌∙◌}
use Rattle.std.proofs.lemmas.Grind.{merely}
use Rattle.gpu_descriptor_types.specs.Ledger.{Ledger}
use Rattle.descriptor_script.specs.Scripted.Device.{ledger_of}
use Rattle.descriptor_vectors.proofs.Owing.{nothing_owed}
use Rattle.descriptor_vectors.proofs.log_device.LogDevice.new.Goals as goal

pub invariant_of-result : goal.invariant_of-result
invariant_of-result c =
    let device = c.new-2.result in
    record {
      granting = c.new-2.ensures.script_is ∙ c.new.ensures.items;
      owed = merely (nothing_owed (ledger_of device) c.new-3.result.owed (ap (λ (l : Ledger). l.pools) c.new-2.ensures.ledger));
    }
