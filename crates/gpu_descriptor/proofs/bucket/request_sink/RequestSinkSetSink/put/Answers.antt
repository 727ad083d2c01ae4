use Rattle.gpu_descriptor.proofs.Common.{◌∙◌, ap, [], ◌∷◌, ◌++◌, Key, set_at}
use Rattle.gpu_descriptor.proofs.bucket.request_sink.RequestSinkSetSink.put.Goals as goal

pub returns-clause-kept : goal.returns-clause-kept
returns-clause-kept g c =
    c.put.ensures.items ∙ ap (λ (k : Key). g.K.SetPlaces.items c.args.self.now.sets ++ set_at k c.args.self.now.id c.args.self.now.number c.args.set ∷ []) c.of.ensures
