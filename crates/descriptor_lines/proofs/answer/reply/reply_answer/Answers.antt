use Rattle.std.proofs.lemmas.Grind.{common_steps}
use Rattle.std.proofs.Common.{◌∷◌, [], length-append, arith}
use Rattle.std.specs.Fmt.{decimal}
use Rattle.descriptor_lines.proofs.ReplyLemmas.{length_of_number}
use Rattle.descriptor_lines.proofs.answer.reply.reply_answer.Goals as goal

pub put_number-requires : goal.put_number-requires
put_number-requires c = grind (arith, common_steps, length_of_number)

pub put-requires-in-Freed : goal.put-requires-in-Freed
put-requires-in-Freed c = grind (arith, common_steps, length_of_number)

pub returns-in-Freed-clause-enough : goal.returns-in-Freed-clause-enough
returns-in-Freed-clause-enough c = rw c.in-Freed.is (omega (arith, length-append (decimal c.in-Freed.count) (10 ∷ []), length_of_number c.in-Freed.count (omega arith)))

pub returns-in-BadTicket-clause-text : goal.returns-in-BadTicket-clause-text
returns-in-BadTicket-clause-text c = rw c.in-BadTicket.is c.put-in-BadTicket.ensures.text

pub returns-in-NoMemory-clause-text : goal.returns-in-NoMemory-clause-text
returns-in-NoMemory-clause-text c = rw c.in-NoMemory.is c.put-in-NoMemory.ensures.text
