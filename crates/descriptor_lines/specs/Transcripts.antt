-- What a run of the program writes: the answers of the lines of its input, in order, up to the end or the line that stopped it. A relation, since at any line the device may refuse or an allocation fail.
use Rattle.std.specs.Prelude.{◌≡◌, ◌≢◌, ◌⊎◌, ◌+◌, ◌++◌, ◌∷◌, [], ℕ, List, Option, Some, Result, Err}
use Rattle.std.specs.Io.KnownBytes.{Appends, IsAtEnd, Keeps}
use Rattle.gpu_descriptor_types.specs.Ledger.{Ledger}
use Rattle.descriptor_script.specs.Scripted.Device.{empty_ledger}
use Rattle.descriptor_script.specs.declared.answer.Answer.{Answer}
use Rattle.descriptor_lines.specs.declared.words.fault.Fault.{Fault}
use Rattle.descriptor_lines.specs.declared.words.fault.Refusal.{Refusal}
use Rattle.descriptor_lines.specs.declared.words.fault.Refusal.TheVariants as refusal
use Rattle.descriptor_lines.specs.Answers.{fault_line}
use Rattle.descriptor_lines.specs.LineStates.{LineState}
use Rattle.descriptor_lines.specs.Lines.{lines_of}
use Rattle.descriptor_lines.specs.Outcomes.{EndsInFault, IsNoFault, said_of}
use Rattle.descriptor_lines.specs.Programs.{IsFresh, Runs}
use Rattle.descriptor_lines.specs.declared.exit.Exit.{Exit}
use Rattle.descriptor_lines.specs.declared.exit.Exit.TheVariants.{Done, BadLine, ReadFault, WriteFault, NoMemory}

-- how a run ends where these lines are left, of which the first has this number: what it says last, and the state that it leaves. At a faulty line that is the fault, and if a write failed a prefix of what there was to say of a line
abbrev pub Ends : Exit → ℕ → List (List ℕ) → List ℕ → LineState → LineState → Type 0
Ends Done number [] [] p last = last ≡ p
Ends ReadFault number lines [] p last = last ≡ p
Ends BadLine number (line ∷ lines) said p last =
    (fault : Fault) × Runs (Err (refusal.Fault fault)) line [] p last × (said ≡ fault_line number fault)
Ends WriteFault number (line ∷ lines) said p last =
    (outcome : Result Unit Refusal) × (text : List ℕ) × Runs outcome line text p last × (unwritten : List ℕ) × (said_of number outcome text ≡ said ++ unwritten)
Ends _ number lines said p last = ⊥

-- what a run of these lines says: it ends here, or the first line is answered and it goes on
abbrev pub Says : Exit → ℕ → List (List ℕ) → List ℕ → LineState → LineState → Type 0
Says exit number [] said p last = Ends exit number [] said p last
Says exit number (line ∷ lines) said p last =
    Ends exit number (line ∷ lines) said p last ⊎ ((outcome : Result Unit Refusal) × (text : List ℕ) × (next : LineState) × Runs outcome line text p next × IsNoFault outcome × (more : List ℕ) × (said ≡ said_of number outcome text ++ more) × Says exit (number + 1) lines more next last)

-- a run of the lines that a reader gives: what the reader had left and has left, how the run ended, what the writer held and holds, and the ledger and the script of the device then
pub record RunsLines (unread rest : Option (List ℕ)) (exit : Exit) (old new : Option (List ℕ)) (ledger : Ledger) (script : List Answer) : Type 0 where
  -- where the bytes to read are known, their lines were run from a state before the first line on
  pub writes : (bytes : List ℕ) → unread ≡ Some bytes → exit ≢ NoMemory → (start : LineState) × (last : LineState) × IsFresh start × (said : List ℕ) × Appends old new said × Says exit 1 (lines_of bytes) said start last × (last.session.ledger ≡ ledger) × (last.script ≡ script)
  -- it is done only at the end of the input
  pub done : exit ≡ Done → IsAtEnd rest
  -- whatever the reader, a bad line is named last; and if an allocation for the buffers fails nothing is written, and the device is as it was
  pub bad_line : exit ≡ BadLine → EndsInFault old new
  pub no_memory : exit ≡ NoMemory → Keeps old new × (ledger ≡ empty_ledger) × (script ≡ [])
