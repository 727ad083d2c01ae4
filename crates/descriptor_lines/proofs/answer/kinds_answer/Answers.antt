use Rattle.std.proofs.lemmas.Grind.{common_steps}
use Rattle.std.proofs.Common.{◌++◌, ap, ◌∙◌, arith}
use Rattle.std.specs.String.{string_bytes}
use Rattle.descriptor_lines.proofs.AnswerLemmas.{answer_of_none, answer_of_more, answer_of_all}
use Rattle.descriptor_lines.proofs.answer.kinds_answer.Goals as goal

pub loop-place-init : goal.loop-place-init
loop-place-init c = grind (arith, common_steps, answer_of_none)

pub loop-place-preserved : goal.loop-place-preserved
loop-place-preserved c = grind (arith, common_steps, answer_of_more)

pub returns : goal.returns
returns c =
    c.loop-place.invariant ∙ ap (λ kinds. string_bytes c.args.answer.now ++ kinds) (answer_of_all c.args.counts.now c.loop-place.place (omega arith))
