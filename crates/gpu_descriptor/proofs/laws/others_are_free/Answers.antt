use Rattle.gpu_descriptor.proofs.foreign.Others.{own_agrees, own_outstanding}
use Rattle.gpu_descriptor.proofs.laws.others_are_free.Goals as goal

pub returns : goal.returns
returns c = record { agrees = own_agrees; outstanding = own_outstanding }
