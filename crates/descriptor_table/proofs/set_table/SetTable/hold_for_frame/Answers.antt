use Rattle.descriptor_table.proofs.Common.{arith, refl, nexts_in, slots_of}
use Rattle.descriptor_table.proofs.Counting.{walk_length}
use Rattle.descriptor_table.proofs.Waiting.{found_last, last_waits}
use Rattle.descriptor_table.proofs.set_table.SetTable.hold_for_frame.Goals as goal

pub frame-requires : goal.frame-requires
frame-requires g c = (last_waits c.args.self.now c.if-self-eq0.false).1

pub hold_after-requires-2-clause-near : goal.hold_after-requires-2-clause-near
hold_after-requires-2-clause-near g c = λ is. (
    let s = c.args.self.now in
    let q = s.waiting in
    found_last (slots_of s) _ c.args.frame s.sound.queue.rises q.last q.last (omega (arith, c.if-self-eq0.false, walk_length q.list.count (nexts_in s.slots) q.list.first)) s.sound.queue.ends refl (omega (arith, c.if-frame.false, c.frame.ensures))
    )
