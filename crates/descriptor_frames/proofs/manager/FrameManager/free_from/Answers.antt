use Rattle.std.proofs.Common.{arith}
use Rattle.descriptor_frames.proofs.manager.FrameManager.free_from.Goals as goal

pub returns-clause-frees : goal.returns-clause-frees
returns-clause-frees g c =
    let f = c.free_from.ensures.frees in
    let used = c.requires.in_use f.sets f.drained.0 f.drained.1 in
    (f, λ t. (let a = used.used t in let b = f.returns.back.returned t in omega arith))
