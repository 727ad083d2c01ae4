use Rattle.descriptor_vectors.proofs.bench.Bench.step.Goals as goal

pub invariant_of-self : goal.invariant_of-self
invariant_of-self g c = record { ready = c.step.ensures.keeps.ready }
