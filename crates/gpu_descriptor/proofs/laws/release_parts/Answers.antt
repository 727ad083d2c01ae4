use Rattle.gpu_descriptor.proofs.release.Parts.{parts}
use Rattle.gpu_descriptor.proofs.cleanup.Counted.{gone}
use Rattle.gpu_descriptor.proofs.release.ReleaseAgrees.{none_back, each, one_by_one, agrees, takes, order}
use Rattle.gpu_descriptor.proofs.release.OtherKeys.{release_others}
use Rattle.gpu_descriptor.proofs.laws.release_parts.Goals as goal

pub returns : goal.returns
returns c = record { parts = parts; cut_anywhere = each; one_by_one = one_by_one; order = order; none = none_back; pools_gone = gone; agrees = agrees; outstanding = takes; other_keys = release_others }
