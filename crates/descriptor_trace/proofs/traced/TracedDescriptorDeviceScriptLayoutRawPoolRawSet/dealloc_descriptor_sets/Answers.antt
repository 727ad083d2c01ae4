use Rattle.std.proofs.Common.{◌≡◌, length, sym, ap, subst, ◌∙◌}
use Rattle.std.specs.Io.KnownBytes.{Appends}
use Rattle.descriptor_lines.specs.Outcomes.{AppendsPrefix}
use Rattle.descriptor_script.specs.Scripted.Device.{ledger_of}
use Rattle.descriptor_script.specs.Scripted.Raw.{pool_id}
use Rattle.descriptor_trace.specs.TraceTexts.{release_line}
use Rattle.descriptor_trace.proofs.traced.TracedDescriptorDeviceScriptLayoutRawPoolRawSet.dealloc_descriptor_sets.Goals as goal

pub returns-clause-written : goal.returns-clause-written
returns-clause-written g c =
    let (r, many) = c.release-released.ensures.released in
    let w = c.write_release.ensures.written in
    let line : release_line c.id.result c.release-released.result ≡ release_line (pool_id c.args.pool.now) (length r.items) = ap (λ pool. release_line pool c.release-released.result) (c.id.ensures ∙ c.release-released.ensures.name) ∙ ap (release_line (pool_id c.args.pool.now)) (sym many) in (
      record { items = r.items; drained = r.drained; gone = r.gone; named = r.named; live = r.live; ledger = ap ledger_of c.write_release.ensures.device ∙ r.ledger },
      record { whole = λ kept. subst (Appends (g.W.Write.contents c.args.self.now.output) (g.W.Write.contents c.write_release.new.self.output)) line (w.whole kept); still_lost = w.still_lost; silent = w.silent; part = λ kept. subst (AppendsPrefix (g.W.Write.contents c.args.self.now.output) (g.W.Write.contents c.write_release.new.self.output)) line (w.part kept) },
    )
