use Rattle.std.proofs.lemmas.Grind.{common_steps}
use Rattle.std.proofs.Common.{◌≡◌, ◌++◌, ℕ, List, ◌+◌, ◌-◌, length, length-append, ap, ◌∙◌, arith}
use Rattle.std.proofs.lemmas.Bool.{ne_eqb}
use Rattle.descriptor_lines.proofs.ReplyLemmas.{length_of_range}
use Rattle.descriptor_lines.proofs.answer.reply.sets_answer.Goals as goal

-- a text got a part behind it
longer : (old new part : List ℕ) → new ≡ old ++ part → length new ≡ length old + length part
longer old new part is = ap length is ∙ length-append old part

pub range_answer-requires : goal.range_answer-requires
range_answer-requires c = omega (arith, length_of_range c.args.first (c.args.first + c.args.count - 1) (omega arith) (omega arith))

pub stretches_answer-requires-clause-reserve : goal.stretches_answer-requires-clause-reserve
stretches_answer-requires-clause-reserve c = grind (arith, common_steps, length_of_range, longer)

pub put-requires-2 : goal.put-requires-2
put-requires-2 c = grind (arith, common_steps, length_of_range, longer)

pub returns-clause-enough : goal.returns-clause-enough
returns-clause-enough c = grind (arith, common_steps, length_of_range, longer, ne_eqb)
