use Rattle.std.proofs.Common.{ap, ◌∙◌}
use Rattle.gpu_descriptor_types.specs.Layouts.{layout, left}
use Rattle.gpu_descriptor_types.specs.Ledger.{Sink}
use Rattle.descriptor_script.specs.Inner.Table.{pools_in}
use Rattle.descriptor_script.specs.Inner.Counters.{counters_of}
use Rattle.descriptor_script.specs.declared.device.ScriptedDevice.{ScriptedDevice}
use Rattle.descriptor_script.specs.declared.raw.RawSet.{RawSet}
use Rattle.descriptor_script.proofs.Calls.{puts, puts_none, IsUntouched}
use Rattle.descriptor_script.proofs.device.ScriptedDeviceDescriptorDeviceScriptLayoutRawPoolRawSet.alloc_descriptor_sets.Goals as goal
use Rattle.descriptor_script.proofs.device.ScriptedDeviceDescriptorDeviceScriptLayoutRawPoolRawSet.alloc_descriptor_sets.Goals.{then-eq+in_default, else-eq}

pub returns-in-Ok-clause-ok : goal.returns-in-Ok-clause-ok
returns-in-Ok-clause-ok g c =
    let shown : Sink g.row.K.Denot RawSet g.row.K-Kept.Denot = g.K.SetSink.sink in
    let old : ScriptedDevice = c.args.self.now in
    let new : ScriptedDevice = record { script = c.read-word.new.self; pools = c.grant.new.self; counters = record old.counters { asked = c.rise.new.self } } in
    puts shown c.args.sets.now c.grant.new.sink old new (layout c.args.layouts) c.args.pool.now.id (left c.args.layouts) c.in-Ok.ensures.sets c.in-Ok.ensures.alike c.in-Ok.ensures.room c.in-Ok.ensures.pools (ap (λ n. record (counters_of old.counters) { asked = n }) c.rise.ensures)

pub returns-clause-err : goal.returns-clause-err
returns-clause-err g c =
    let shown : Sink g.row.K.Denot RawSet g.row.K-Kept.Denot = g.K.SetSink.sink in
    let old : ScriptedDevice = c.args.self.now in
    let new : ScriptedDevice = record { script = c.if-eq.self.script; pools = c.refuse.new.self; counters = c.refuse_alloc.new.self } in
    let untouched : IsUntouched shown c.args.sets.now c.if-eq.sets old c.if-eq.self = elim c.if-eq.branch [
      | then-eq+in_default w ↦ record {
        pools = ap (λ (d : ScriptedDevice). pools_in d.pools.live) w.self-is ∙ w.in_default.ensures.err;
        counters = ap (λ (d : ScriptedDevice). counters_of d.counters) w.self-is;
        same_sink = w.sets-is ∙ w.in_default.ensures.err_sink;
      }
      | else-eq w ↦ record {
        pools = ap (λ (d : ScriptedDevice). pools_in d.pools.live) w.self-is;
        counters = ap (λ (d : ScriptedDevice). counters_of d.counters) w.self-is;
        same_sink = w.sets-is;
      }
    ] in
    puts_none shown c.args.sets.now c.if-eq.sets old c.if-eq.self new c.args.pool.now.id c.alloc_error-error.result untouched c.refuse_alloc.ensures c.refuse.ensures.pools
