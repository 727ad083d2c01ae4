use Rattle.std.proofs.Common.{ℕ, ◌+◌, drop, refl, ap, ◌∙◌}
use Rattle.std.proofs.Math.Logic.{∥∥₁_map}
use Rattle.gpu_descriptor_types.specs.Counts.{kinds}
use Rattle.gpu_descriptor_types.specs.Flags.{bits}
use Rattle.gpu_descriptor_types.specs.Ledger.{Ledger}
use Rattle.descriptor_script.specs.Scripted.Device.{ledger_of}
use Rattle.descriptor_vectors.proofs.Owing.{created, moved, still_owed}
use Rattle.descriptor_vectors.proofs.log_device.LogDeviceDescriptorDeviceScriptLayoutRawPoolRawSet.create_descriptor_pool.Goals as goal

pub invariant_of-self : goal.invariant_of-self
invariant_of-self c =
    let old = c.args.self.now in
    record {
      granting = c.refuse_create.ensures.reads.script ∙ old.granting;
      owed = ∥∥₁_map old.owed (λ o. still_owed (ledger_of old.device) _ _ (ap (λ (l : Ledger). l.pools) c.refuse_create.ensures.ledger) (moved (ledger_of old.device) (ledger_of old.device) old.log.owed c.reserve.new.self.owed refl c.reserve.ensures.owed o));
    }

pub invariant_of-self-in-Ok : goal.invariant_of-self-in-Ok
invariant_of-self-in-Ok c =
    let old = c.args.self.now in
    record {
      granting = c.create_descriptor_pool.ensures.reads.rest ∙ ap (drop 1) old.granting;
      owed = ∥∥₁_map old.owed (λ o. moved _ _ (old.log.owed + 1) c.put.new.self.owed c.in-Ok.ensures.ok (c.put.ensures.owed ∙ ap (λ (n : ℕ). n + 1) c.reserve.ensures.owed) (created (ledger_of old.device) old.log.owed c.in-Ok.pool.id c.args.max_sets (bits c.args.flags) (kinds c.args.counts.now) o));
    }

pub invariant_of-self-in-Err-1 : goal.invariant_of-self-in-Err-1
invariant_of-self-in-Err-1 c =
    let old = c.args.self.now in
    record {
      granting = c.create_descriptor_pool.ensures.reads.rest ∙ ap (drop 1) old.granting;
      owed = ∥∥₁_map old.owed (λ o. still_owed (ledger_of old.device) _ _ (ap (λ (l : Ledger). l.pools) c.in-Err.ensures.err) (moved (ledger_of old.device) (ledger_of old.device) old.log.owed c.reserve.new.self.owed refl c.reserve.ensures.owed o));
    }
