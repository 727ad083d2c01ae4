use Rattle.gpu_descriptor.proofs.sums.OutSets.{load_is_descriptors, out_is_length, out_is_size}
use Rattle.gpu_descriptor.proofs.laws.out_is_outstanding.Goals as goal

pub returns : goal.returns
returns c = record { size = out_is_size; any_list = out_is_length; load = load_is_descriptors }
