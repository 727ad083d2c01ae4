use Rattle.std.proofs.lemmas.Grind.{common_steps}
use Rattle.std.proofs.Common.{arith}
use Rattle.descriptor_lines.proofs.TicketLemmas.{rising_more}
use Rattle.descriptor_lines.proofs.words.tickets.push_rising.Goals as goal

pub loop-step-preserved : goal.loop-step-preserved
loop-step-preserved c = grind (arith, common_steps, rising_more)
