use Rattle.std.proofs.Common.{arith}
use Rattle.gpu_descriptor_types.proofs.Powers.{is_rounded, rounded_some}
use Rattle.gpu_descriptor_types.proofs.pool_size.rounded_up.Goals as goal

pub returns : goal.returns
returns c =
    let is = is_rounded c.args.start c.checked_next_power_of_two.result c.unwrap_or.result (omega arith) (omega arith) c.checked_next_power_of_two.ensures (rw c.cast_unsigned.ensures at c.unwrap_or.ensures) in
    let small = rounded_some c.args.start c.unwrap_or.result c.requires is in
    record { rounded = is; some = small.0; at_most = small.1 }
