-- What is written of a line that was run.
use Rattle.std.specs.Prelude.{◌≡◌, List, ℕ, Option, ◌++◌, Result, Ok, Err, IfErr}
use Rattle.std.specs.Io.KnownBytes.{Appends}
use Rattle.descriptor_lines.specs.Answers.{fault_line, no_memory}
use Rattle.descriptor_lines.specs.declared.words.fault.Fault.{Fault}
use Rattle.descriptor_lines.specs.declared.words.fault.Refusal.{Refusal}
use Rattle.descriptor_lines.specs.declared.words.fault.Refusal.TheVariants as refusal

-- the line is not faulty: it ran, or an allocation to run it failed
abbrev pub IsNoFault : Result Unit Refusal → Type 0
IsNoFault outcome = IfErr outcome (λ reason. reason ≡ refusal.NoMemory)

-- what is to be written of the line: the text that it made, or why it made none
abbrev pub said_of : ℕ → Result Unit Refusal → List ℕ → List ℕ
said_of number (Ok done) text = text
said_of number (Err refusal.NoMemory) text = no_memory
said_of number (Err (refusal.Fault fault)) text = fault_line number fault

-- known bytes grow, and last by the line of a fault
pub record EndsInFault (old new : Option (List ℕ)) : Type 0 where
  pub answers : List ℕ
  pub number : ℕ
  pub fault : Fault
  pub grown : Appends old new (answers ++ fault_line number fault)

-- known bytes grow by a prefix of a text
pub record AppendsPrefix (old new : Option (List ℕ)) (text : List ℕ) : Type 0 where
  pub prefix : List ℕ
  pub unwritten : List ℕ
  pub split : text ≡ prefix ++ unwritten
  pub grown : Appends old new prefix
