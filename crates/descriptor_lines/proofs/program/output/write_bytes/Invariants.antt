use Rattle.std.proofs.Common.{◌≡◌, ℕ, List, ◌++◌, length}
use Rattle.std.specs.Io.KnownBytes.{Appends}
use Rattle.descriptor_lines.proofs.program.output.write_bytes.Given as goal

-- what is gone from `rest` was written
abbrev pub invariant-loop-rest : goal.invariant-loop-rest
invariant-loop-rest g l =
    (written : List ℕ) × (l.initial.rest ≡ written ++ l.rest) × Appends (g.W.Write.contents l.initial.output) (g.W.Write.contents l.output) written

abbrev pub decreases-loop-rest : goal.decreases-loop-rest
decreases-loop-rest g l = length l.rest
