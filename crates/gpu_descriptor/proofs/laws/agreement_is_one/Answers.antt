use Rattle.gpu_descriptor.proofs.callers.OneAgreement.{Agree-prop}
use Rattle.gpu_descriptor.proofs.sums.Sized.{listed}
use Rattle.gpu_descriptor.proofs.laws.agreement_is_one.Goals as goal

pub returns : goal.returns
returns c = record { one = λ s. Agree-prop s; listed = listed }
