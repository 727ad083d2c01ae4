use Rattle.std.proofs.Common.{rules}
use Rattle.descriptor_frames.proofs.InUse.{hands_out_for_use, on_made}
use Rattle.descriptor_frames.proofs.manager.FrameManager.allocate_into.Goals as goal

pub returns-clause-hands_out : goal.returns-clause-hands_out
returns-clause-hands_out g c = search (rules, hands_out_for_use, on_made)
