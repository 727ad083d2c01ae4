use Rattle.gpu_descriptor.proofs.cleanup.Cleaning.{again, again_none, nothing_left, all_gone, clean_agrees, takes_none, once}
use Rattle.gpu_descriptor.proofs.laws.clean_again.Goals as goal

pub returns : goal.returns
returns c = record { again = again; again_none = again_none; all = nothing_left; all_gone = all_gone; one_result = once; agrees = clean_agrees; outstanding = takes_none }
