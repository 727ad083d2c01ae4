use Rattle.std.proofs.Common.{◌≡◌, length}
use Rattle.descriptor_lines.specs.Words.{words}
use Rattle.descriptor_lines.proofs.words.text.without_blanks.Given as goal

abbrev pub invariant-loop-rest : goal.invariant-loop-rest
invariant-loop-rest l = words l.rest ≡ words l.line

abbrev pub decreases-loop-rest : goal.decreases-loop-rest
decreases-loop-rest l = length l.rest
