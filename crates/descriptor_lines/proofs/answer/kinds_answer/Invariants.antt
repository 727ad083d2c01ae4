use Rattle.std.proofs.Common.{◌≡◌, ◌++◌}
use Rattle.std.specs.String.{string_bytes}
use Rattle.descriptor_lines.specs.Kinds.{kind_names}
use Rattle.descriptor_lines.proofs.AnswerLemmas.{answer_of_first}
use Rattle.descriptor_lines.proofs.answer.kinds_answer.Given as goal

abbrev pub invariant-loop-place : goal.invariant-loop-place
invariant-loop-place l =
    string_bytes l.answer ≡ string_bytes l.initial.answer ++ answer_of_first l.place kind_names l.counts
