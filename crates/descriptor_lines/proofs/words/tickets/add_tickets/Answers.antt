use Rattle.std.proofs.lemmas.Grind.{common_steps}
use Rattle.std.proofs.Common.{arith}
use Rattle.std.proofs.lemmas.Bool.Decides.{nat_tests}
use Rattle.descriptor_lines.proofs.TicketLemmas.{count_between}
use Rattle.descriptor_lines.proofs.words.tickets.add_tickets.Goals as goal

pub returns-then-len-steps-clause-added : goal.returns-then-len-steps-clause-added
returns-then-len-steps-clause-added c = grind (arith, common_steps, count_between, nat_tests)
