use Rattle.std.proofs.lemmas.Grind.{common_steps}
use Rattle.std.proofs.Common.{◌≡◌, ◌++◌, ◌+◌, ◌-◌, sym, ap, ◌∙◌, arith}
use Rattle.std.specs.String.{string_bytes}
use Rattle.descriptor_script.specs.Sessions.Session.{value_of}
use Rattle.descriptor_lines.specs.ReplyTexts.{pools_from, stretches_text}
use Rattle.descriptor_lines.proofs.ReplyLemmas.{length_of_stretch, stretch_ends, stretch_grows, stretch_is_last}
use Rattle.descriptor_lines.proofs.answer.reply.stretches_answer.Goals as goal

pub loop-ticket-init : goal.loop-ticket-init
loop-ticket-init c =
    let slots = (value_of c.args.session.now).sets in
    let many : c.args.first + c.args.count - c.args.first ≡ c.args.count = omega arith in
    let first = stretch_grows slots c.args.first (c.args.first + c.args.count) c.device_pool.result 0 (omega arith) (sym c.device_pool.ensures) ∙ ap (pools_from slots c.args.first) many in
    record {
      some = omega arith;
      named = omega arith;
      short = omega arith;
      said = ap (λ pools. string_bytes c.args.answer.now ++ stretches_text pools) first;
      few = omega arith;
      reserve = omega arith;
    }

pub stretch_answer-requires : goal.stretch_answer-requires
stretch_answer-requires c = grind (arith, common_steps, length_of_stretch)

pub loop-ticket-preserved : goal.loop-ticket-preserved
loop-ticket-preserved c = grind (arith, common_steps, length_of_stretch, stretch_ends, stretch_grows)

pub stretch_answer-requires-2 : goal.stretch_answer-requires-2
stretch_answer-requires-2 c = grind (arith, common_steps, length_of_stretch)

pub returns-clause-text : goal.returns-clause-text
returns-clause-text c = grind (arith, common_steps, stretch_is_last)

pub returns-clause-enough : goal.returns-clause-enough
returns-clause-enough c = grind (arith, common_steps, length_of_stretch, stretch_is_last)
