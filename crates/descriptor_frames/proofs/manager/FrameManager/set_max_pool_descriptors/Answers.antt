use Rattle.std.proofs.lemmas.Grind.{common_steps}
use Rattle.std.proofs.Common.{arith}
use Rattle.descriptor_frames.proofs.manager.FrameManager.set_max_pool_descriptors.Goals as goal

pub returns-clause-retired : goal.returns-clause-retired
returns-clause-retired g c pool_name set_name l was = grind (arith, common_steps)
