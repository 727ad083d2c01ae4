use Rattle.std.proofs.Common.{◌≡◌, ◌∷◌, [], ◌++◌, Ok}
use Rattle.descriptor_lines.specs.ScriptWords.{answer_in, script_in}
use Rattle.descriptor_lines.specs.Fault.{◌>>=◌}
use Rattle.descriptor_lines.specs.Words.{in_turn, words_left}
use Rattle.descriptor_lines.proofs.command.script.parse_script.Given as goal

abbrev pub invariant-loop-word : goal.invariant-loop-word
invariant-loop-word l =
    script_in (words_left l.fn.words) ≡ in_turn (λ answers word. answer_in word >>= λ answer. Ok (answers ++ answer ∷ [])) l.script.items (words_left l.word-iterator)
