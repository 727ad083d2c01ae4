use Rattle.std.proofs.Common.{◌≡◌, ℕ, length, sym, subst}
use Rattle.gpu_descriptor_types.specs.Ledger.{Counters, Releases}
use Rattle.descriptor_script.specs.Inner.Counters.{counters_of}
use Rattle.descriptor_script.specs.Inner.Pools.{owed}
use Rattle.descriptor_script.specs.Scripted.Device.{ledger_of}
use Rattle.descriptor_script.specs.Scripted.Raw.{set_id}
use Rattle.descriptor_script.proofs.device.ScriptedDevice.release.Goals as goal

pub returns-clause-released : goal.returns-clause-released
returns-clause-released g c =
    let n : Counters = counters_of c.args.self.now.counters in
    subst (λ (risen : ℕ). (gone : Releases g.I.Iterator.next_gives set_id c.args.pool.now.id c.args.sets.now c.release-many.new.sets (ledger_of c.args.self.now) (owed c.release-many.new.self (record n { released = risen }))) × (length gone.items ≡ c.release-many.result)) (sym c.rise.ensures) (c.release-many.ensures.released n)
