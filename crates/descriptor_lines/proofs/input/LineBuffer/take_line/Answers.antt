use Rattle.std.proofs.lemmas.Grind.{common_steps}
use Rattle.std.proofs.Common.{arith}
use Rattle.descriptor_lines.proofs.LineLemmas.{part_rest}
use Rattle.descriptor_lines.proofs.input.LineBuffer.take_line.Goals as goal

pub returns-clause-rest : goal.returns-clause-rest
returns-clause-rest c = grind (arith, common_steps, part_rest)
