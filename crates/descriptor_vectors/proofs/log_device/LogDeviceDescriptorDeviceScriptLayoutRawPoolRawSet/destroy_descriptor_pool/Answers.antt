use Rattle.std.proofs.Common.{◌≡◌, ◌-◌, ◌∙◌, arith}
use Rattle.std.proofs.Math.Bridge.{le_prop}
use Rattle.std.proofs.Math.Logic.{∥∥₁_elim, ∥∥₁_map}
use Rattle.descriptor_script.specs.Scripted.Device.{ledger_of}
use Rattle.descriptor_vectors.proofs.Owing.{destroyed, moved}
use Rattle.descriptor_vectors.proofs.log_device.LogDeviceDescriptorDeviceScriptLayoutRawPoolRawSet.destroy_descriptor_pool.Goals as goal

pub settle-requires-clause-enough : goal.settle-requires-clause-enough
settle-requires-clause-enough c =
    let old = c.args.self.now in
    ∥∥₁_elim old.owed le_prop (λ o. (destroyed (ledger_of old.device) old.log.owed c.args.pool.id c.requires o).0)

pub invariant_of-self : goal.invariant_of-self
invariant_of-self c =
    let old = c.args.self.now in
    let less : c.settle.new.self.owed ≡ old.log.owed - 1 = (let e = c.settle.ensures.owed in omega arith) in
    record {
      granting = c.destroy_descriptor_pool.ensures.reads.script ∙ old.granting;
      owed = ∥∥₁_map old.owed (λ o. moved _ _ (old.log.owed - 1) c.settle.new.self.owed c.destroy_descriptor_pool.ensures.ledger less (destroyed (ledger_of old.device) old.log.owed c.args.pool.id c.requires o).1);
    }
