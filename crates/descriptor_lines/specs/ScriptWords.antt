-- The words of a script.
use Rattle.std.specs.Prelude.{ℕ, List, [], ◌∷◌, ◌++◌, Result, bytes_eq, codes, find, ok_or}
use Rattle.std.specs.Prelude.{Ok as Read}
use Rattle.descriptor_script.specs.declared.answer.Answer.{Answer}
use Rattle.descriptor_script.specs.declared.answer.Answer.TheVariants.{Ok, Device, Host, Frag, Pool}
use Rattle.descriptor_lines.specs.Fault.{◌>>=◌}
use Rattle.descriptor_lines.specs.Words.{in_turn}
use Rattle.descriptor_lines.specs.declared.words.fault.Fault.{Fault}
use Rattle.descriptor_lines.specs.declared.words.fault.Fault.TheVariants.{BadAnswerWord}

-- the word of an answer
abbrev pub word_of_answer : Answer → List ℕ
word_of_answer Ok = codes "ok"
word_of_answer Device = codes "device"
word_of_answer Host = codes "host"
word_of_answer Frag = codes "frag"
word_of_answer Pool = codes "pool"

-- the answer that a word of a script gives
abbrev pub answer_in : List ℕ → Result Answer Fault
answer_in word =
    ok_or (find (λ answer. bytes_eq word (word_of_answer answer)) (Ok ∷ Device ∷ Host ∷ Frag ∷ Pool ∷ [])) BadAnswerWord

-- the answers that the words say, one after the other
abbrev pub script_in : List (List ℕ) → Result (List Answer) Fault
script_in words = in_turn (λ answers word. answer_in word >>= λ answer. Read (answers ++ answer ∷ [])) [] words
