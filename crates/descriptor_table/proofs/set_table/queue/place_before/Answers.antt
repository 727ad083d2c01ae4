use Rattle.descriptor_table.proofs.Common.{arith, refl, nexts_in, slots_in}
use Rattle.descriptor_table.proofs.Counting.{walk_length}
use Rattle.descriptor_table.proofs.Waiting.{found_last}
use Rattle.descriptor_table.proofs.set_table.queue.place_before.Goals as goal

pub returns-then-frame : goal.returns-then-frame
returns-then-frame g c =
    let q = c.args.queue in
    found_last (slots_in c.args.slots.now) _ c.args.frame c.requires.rises q.last q.last (omega (arith, c.if-queue-eq0.false, walk_length q.list.count (nexts_in c.args.slots.now) q.list.first)) c.requires.ends refl (omega (arith, c.if-frame.true, c.frame.ensures))
