use Rattle.std.proofs.Common.{rules}
use Rattle.descriptor_frames.proofs.InUse.{hands_out_for_use, on_made}
use Rattle.descriptor_frames.proofs.manager.FrameManager.allocate_for.Goals as goal

pub returns : goal.returns
returns g c = search (rules, hands_out_for_use, on_made)
