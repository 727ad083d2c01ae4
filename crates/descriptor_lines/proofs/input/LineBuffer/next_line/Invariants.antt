use Rattle.std.specs.Io.KnownBytes.{Keeps}
use Rattle.descriptor_lines.specs.LineBuffers.{SeesEndOf, unread}
use Rattle.descriptor_lines.proofs.input.LineBuffer.next_line.Given as goal

-- a read loses no byte
abbrev pub invariant-loop-span : goal.invariant-loop-span
invariant-loop-span g l = record {
  kept : Keeps (unread l.initial.self (g.R.Read.remaining l.initial.input)) (unread l.self (g.R.Read.remaining l.input));
  sees : SeesEndOf l.initial.self (g.R.Read.remaining l.initial.input) → SeesEndOf l.self (g.R.Read.remaining l.input);
}

abbrev pub decreases-loop-span : goal.decreases-loop-span
decreases-loop-span g l = l.self.reads_left
