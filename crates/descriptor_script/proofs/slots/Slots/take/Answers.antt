use Rattle.std.proofs.Common.{arith}
use Rattle.descriptor_script.proofs.Emptied.{held_one_less}
use Rattle.descriptor_script.proofs.slots.Slots.take.Goals as goal

pub overflow_sub-self : goal.overflow_sub-self
overflow_sub-self g c =
    let s = c.args.self.now in
    let less = held_one_less s.sets.items c.args.ticket c.requires in
    let counted = s.counted in
    omega arith
