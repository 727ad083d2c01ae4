use Rattle.std.proofs.Common.{◌≡◌, ◌-◌, [], ◌++◌, append-nil, length, refl, sym, ap, ◌∙◌, arith}
use Rattle.std.proofs.Math.Bridge.{le_prop}
use Rattle.std.proofs.Math.Logic.{∥∥₁_elim, ∥∥₁_map}
use Rattle.descriptor_script.specs.Scripted.Device.{ledger_of}
use Rattle.descriptor_script.specs.Scripted.Raw.{set_id}
use Rattle.descriptor_vectors.specs.Logged.{calls_of, release_of}
use Rattle.descriptor_vectors.proofs.Owing.{lists_some, moved, release_owed}
use Rattle.descriptor_vectors.proofs.log_device.LogDeviceDescriptorDeviceScriptLayoutRawPoolRawSet.dealloc_descriptor_sets.Goals as goal

pub settle-requires-clause-enough : goal.settle-requires-clause-enough
settle-requires-clause-enough g c =
    let old = c.args.self.now in
    let r = c.release-released.ensures.released in
    ∥∥₁_elim old.owed le_prop (λ o. (release_owed g.I.Iterator.next_gives set_id c.args.pool.now.id c.release-released.result old.log.owed c.args.sets.now c.release-released.new.sets (ledger_of old.device) (ledger_of c.release-released.new.self) r.0 r.1 (c.requires.live [] c.args.sets.now refl) o).0)

pub invariant_of-self : goal.invariant_of-self
invariant_of-self g c =
    let old = c.args.self.now in
    let r = c.release-released.ensures.released in
    let less : c.settle.new.self.owed ≡ old.log.owed - c.release-released.result = (let e = c.settle.ensures.owed in omega arith) in
    record {
      granting = c.release-released.ensures.reads.script ∙ old.granting;
      owed = ∥∥₁_map old.owed (λ o. moved _ _ (old.log.owed - c.release-released.result) c.settle.new.self.owed refl less (release_owed g.I.Iterator.next_gives set_id c.args.pool.now.id c.release-released.result old.log.owed c.args.sets.now c.release-released.new.sets (ledger_of old.device) (ledger_of c.release-released.new.self) r.0 r.1 (c.requires.live [] c.args.sets.now refl) o).1);
    }

pub invariant_of-self-else-released-gt0 : goal.invariant_of-self-else-released-gt0
invariant_of-self-else-released-gt0 g c =
    let old = c.args.self.now in
    let r = c.release-released.ensures.released in
    let same : old.log.owed ≡ old.log.owed - c.release-released.result = (let none = c.if-released-gt0.false in omega arith) in
    record {
      granting = c.release-released.ensures.reads.script ∙ old.granting;
      owed = ∥∥₁_map old.owed (λ o. moved _ _ (old.log.owed - c.release-released.result) old.log.owed refl same (release_owed g.I.Iterator.next_gives set_id c.args.pool.now.id c.release-released.result old.log.owed c.args.sets.now c.release-released.new.sets (ledger_of old.device) (ledger_of c.release-released.new.self) r.0 r.1 (c.requires.live [] c.args.sets.now refl) o).1);
    }

pub returns-then-released-gt0-clause-listed : goal.returns-then-released-gt0-clause-listed
returns-then-released-gt0-clause-listed g c =
    let r = c.release-released.ensures.released in
    record {
      items = r.0.items;
      drained = r.0.drained;
      calls = lists_some (calls_of c.args.self.now) _ c.args.pool.now.id _ c.release-released.result (length r.0.items) c.settle.ensures.calls (c.id.ensures ∙ c.release-released.ensures.name) r.1 c.if-released-gt0.true;
    }

pub returns-else-released-gt0-clause-listed : goal.returns-else-released-gt0-clause-listed
returns-else-released-gt0-clause-listed g c =
    let r = c.release-released.ensures.released in
    let none : length r.0.items ≡ 0 = (let h = c.if-released-gt0.false in let m = r.1 in omega arith) in
    let before = calls_of c.args.self.now in
    record {
      items = r.0.items;
      drained = r.0.drained;
      calls = sym (append-nil before) ∙ ap (λ n. before ++ release_of c.args.pool.now.id n) (sym none);
    }
