-- A run of a session: commands one after another, each with its reply.
use Rattle.std.specs.Prelude.{◌≡◌, List, [], ◌∷◌}
use Rattle.gpu_descriptor_types.specs.Meaning.{Meaning}
use Rattle.gpu_descriptor_types.specs.Side.{Side}
use Rattle.descriptor_script.specs.Sessions.Session.{KeepsSession, SessionValue}
use Rattle.descriptor_script.specs.Sessions.Steps.{OfStep, StepsTo}
use Rattle.descriptor_script.specs.declared.command.Command.{Command}
use Rattle.descriptor_script.specs.declared.command.Reply.{Reply}

module _ {L P S : Type 0} where
  -- the commands were done in order, each with the reply at its place: there are states from the first to the last, and at each step from one to the next the promise is kept. Asked of all possible states, and not of those of the run, a promise would be true of any code
  abbrev pub Runs : OfStep L P S → List Command → List Reply → Side (SessionValue L P S) → Side (SessionValue L P S) → Type 0
  Runs promise [] [] old new = new ≡ old
  Runs promise (command ∷ commands) (reply ∷ replies) old new =
      (next : Side (SessionValue L P S)) × promise command reply old next × Runs promise commands replies next new
  Runs promise _ _ old new = ⊥

-- a step, as the reply says, that has what every command keeps
abbrev pub IsStep : {L P S : Type 0} → Meaning L P S → OfStep L P S
IsStep means command reply old new = StepsTo means command reply old new × KeepsSession means old new
