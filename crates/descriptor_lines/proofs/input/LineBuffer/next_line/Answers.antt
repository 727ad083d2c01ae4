use Rattle.descriptor_lines.specs.LineBuffers.{buffered}
use Rattle.descriptor_lines.proofs.LineLemmas.{Keeps-Some, begins_too_long, takes_ended, takes_last}
use Rattle.descriptor_lines.proofs.input.LineBuffer.next_line.Goals as goal

pub returns-in_err-span-clause-too_long : goal.returns-in_err-span-clause-too_long
returns-in_err-span-clause-too_long g c fault bytes is =
    begins_too_long _ (buffered c.loop-span.self) bytes (Keeps-Some _ _ bytes c.loop-span.invariant.kept is) c.in_err-span.ensures.too_long

pub returns-in-Some-clause-known : goal.returns-in-Some-clause-known
returns-in-Some-clause-known g c bytes is =
    rw c.take_line.ensures.end (takes_ended _ (buffered c.loop-span.self) bytes _ _ (Keeps-Some _ _ bytes c.loop-span.invariant.kept is) (rw c.in-Some.is at c.in_ok-span.ensures.found) (rw c.in-Some.is at c.in_ok-span.ensures.line) (rw c.in-Some.is at c.in_ok-span.ensures.rest))

pub returns-then-self-clause-known : goal.returns-then-self-clause-known
returns-then-self-clause-known g c bytes is =
    let kept = rw c.in_default.is at c.in_ok-span.ensures.kept in
    let rest = c.take_rest.ensures in
    takes_last _ bytes c.take_rest.result c.take_line.new.self c.take_rest.new.self c.if-self.true rest.end
    (rw (kept, c.take_line.ensures.end) (Keeps-Some _ _ bytes c.loop-span.invariant.kept is)) (rw kept (rw c.in_default.is at c.in_ok-span.ensures.none)) rest.some rest.line rest.none rest.empty
