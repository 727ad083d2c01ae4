use Rattle.descriptor_table.proofs.Common.{rules, nexts_in, slots_of}
use Rattle.descriptor_table.proofs.Waiting.{head_queue, head_waits, none_due}
use Rattle.descriptor_table.proofs.set_table.SetTable.pick_due.Goals as goal

pub frame-requires : goal.frame-requires
frame-requires g c = (head_waits c.args.self.now c.if-self-eq0.false).1

pub returns-then-frame : goal.returns-then-frame
returns-then-frame g c =
    let s = c.args.self.now in
    let queue = head_queue (slots_of s) (nexts_in s.slots) s.waiting c.if-self-eq0.false s.sound.queue in
    let none = none_due (slots_of s) s.waiting.list.first _ s.waiting.last queue c.args.frame in
    search (rules, none, c.frame.ensures, c.if-frame.true)
