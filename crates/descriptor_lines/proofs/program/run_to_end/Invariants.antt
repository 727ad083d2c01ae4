use Rattle.std.proofs.Common.{◌≡◌, IsFalse, List, [], Some, ℕ}
use Rattle.std.specs.String.{string_bytes}
use Rattle.std.specs.Io.KnownBytes.{Appends}
use Rattle.descriptor_lines.specs.LineBuffers.{SeesEndOf, unread}
use Rattle.descriptor_lines.specs.LineStates.{line_state}
use Rattle.descriptor_lines.specs.Programs.{CanRun}
use Rattle.descriptor_lines.proofs.EndLemmas.{Stands}
use Rattle.descriptor_lines.proofs.program.run_to_end.Given as goal

-- the program can run a line, its text is empty, the output got the answers of the lines so far, the end is seen where it is, and nothing was lost
abbrev pub invariant-loop-number : goal.invariant-loop-number
invariant-loop-number g l = record {
  ready : CanRun (line_state g.D.DescriptorDevice.ledger g.D.LineDevice.script l.program);
  empty : string_bytes l.answer ≡ [];
  answers :
      (text : List ℕ) × Appends (g.W.Write.contents l.initial.output) (g.W.Write.contents l.output) text
      × ((bytes : List ℕ) → unread l.initial.lines (g.R.Read.remaining l.initial.input) ≡ Some bytes
      → Stands bytes (line_state g.D.DescriptorDevice.ledger g.D.LineDevice.script l.initial.program) text l.number
      (unread l.lines (g.R.Read.remaining l.input))
      (line_state g.D.DescriptorDevice.ledger g.D.LineDevice.script l.program));
  sees : SeesEndOf l.lines (g.R.Read.remaining l.input);
  whole : IsFalse (g.D.LineDevice.lost l.initial.program.device) → IsFalse (g.D.LineDevice.lost l.program.device);
}
