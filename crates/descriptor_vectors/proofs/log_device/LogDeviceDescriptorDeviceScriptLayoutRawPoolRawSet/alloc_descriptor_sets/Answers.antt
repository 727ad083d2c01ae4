use Rattle.std.proofs.Common.{◌≡◌, ℕ, ◌+◌, List, length, map, drop, refl, sym, ap, ◌∙◌}
use Rattle.std.proofs.Math.Logic.{∥∥₁_map}
use Rattle.std.proofs.lemmas.List.{length-map}
use Rattle.gpu_descriptor_types.specs.Counts.{kinds}
use Rattle.gpu_descriptor_types.specs.Layouts.{layout, left}
use Rattle.gpu_descriptor_types.specs.Ledger.{Ledger, live_sets, pool_refusals}
use Rattle.gpu_descriptor_types.specs.Multiset.{LiveSet}
use Rattle.descriptor_script.specs.Scripted.Device.{ledger_of}
use Rattle.descriptor_script.specs.Scripted.Raw.{set_id}
use Rattle.descriptor_vectors.proofs.Owing.{allocated, moved, refused}
use Rattle.descriptor_vectors.proofs.log_device.LogDeviceDescriptorDeviceScriptLayoutRawPoolRawSet.alloc_descriptor_sets.Goals as goal

pub invariant_of-self : goal.invariant_of-self
invariant_of-self g c =
    let old = c.args.self.now in
    let gives = c.requires.fits.gives in
    record {
      granting = c.refuse_alloc.ensures.reads.script ∙ old.granting;
      owed =
          ∥∥₁_map old.owed
          (λ o.
          refused (ledger_of old.device) _ c.args.pool.now.id 0 gives.pool _ gives.is_live
          (ap (λ (l : Ledger). l.pools) c.refuse_alloc.ensures.ledger)
          (moved (ledger_of old.device) (ledger_of old.device) old.log.owed c.reserve.new.self.owed refl
          c.reserve.ensures.owed o));
    }

pub invariant_of-self-in-Ok : goal.invariant_of-self-in-Ok
invariant_of-self-in-Ok g c =
    let old = c.args.self.now in
    let gives = c.requires.fits.gives in
    let put = c.in-Ok.ensures.ok in
    let counts = kinds (layout c.args.layouts).counts in
    let sets : List LiveSet = live_sets counts (map set_id put.sets) in
    let many : length sets ≡ left c.args.layouts = length-map (map set_id put.sets) (λ (n : ℕ). record { name = n; counts = counts }) ∙ length-map put.sets set_id ∙ put.many in
    record {
      granting = c.alloc_descriptor_sets.ensures.reads.rest ∙ ap (drop 1) old.granting;
      owed =
          ∥∥₁_map old.owed
          (λ o.
          moved _ _ (old.log.owed + length sets) c.put.new.self.owed put.ledger
          (c.put.ensures.owed ∙ ap (λ (n : ℕ). n + c.len-count.result) c.reserve.ensures.owed
          ∙ ap (λ (n : ℕ). old.log.owed + n) (c.len-count.ensures ∙ sym many))
          (allocated (ledger_of old.device) old.log.owed c.args.pool.now.id gives.pool sets gives.is_live o));
    }

pub invariant_of-self-in-Err-1 : goal.invariant_of-self-in-Err-1
invariant_of-self-in-Err-1 g c =
    let old = c.args.self.now in
    let gives = c.requires.fits.gives in
    record {
      granting = c.alloc_descriptor_sets.ensures.reads.rest ∙ ap (drop 1) old.granting;
      owed =
          ∥∥₁_map old.owed
          (λ o.
          refused (ledger_of old.device) _ c.args.pool.now.id (pool_refusals c.in-Err.error) gives.pool _
          gives.is_live (ap (λ (l : Ledger). l.pools) c.in-Err.ensures.err.ledger)
          (moved (ledger_of old.device) (ledger_of old.device) old.log.owed c.reserve.new.self.owed refl
          c.reserve.ensures.owed o));
    }
