use Rattle.std.proofs.lemmas.Grind.{common_steps}
use Rattle.std.proofs.Common.{arith}
use Rattle.descriptor_frames.proofs.InUse.{retires}
use Rattle.descriptor_frames.proofs.Taken.{sets_behind}
use Rattle.descriptor_frames.proofs.manager.FrameManager.retire.Goals as goal

pub returns-clause-in_use : goal.returns-clause-in_use
returns-clause-in_use g c pool_name set_name l out used = grind (arith, common_steps, retires, sets_behind)
