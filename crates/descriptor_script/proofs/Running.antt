-- A run grows by one command: for the loop of `Session::run`.
use Rattle.std.proofs.lemmas.Grind.{common_steps}
use Rattle.std.proofs.Common.{List, [], ◌∷◌, ◌++◌, refl, subst, arith}
use Rattle.gpu_descriptor_types.specs.Meaning.{Meaning}
use Rattle.gpu_descriptor_types.specs.Side.{Side}
use Rattle.gpu_descriptor.proofs.callers.Unchanged.{keeps_through}
use Rattle.descriptor_script.specs.Sessions.Session.{KeepsSession, SessionValue}
use Rattle.descriptor_script.specs.Sessions.SessionRun.{IsStep, Runs}
use Rattle.descriptor_script.specs.declared.command.Command.{Command}
use Rattle.descriptor_script.specs.declared.command.Reply.{Reply}

module _ {L P S : Type 0} (means : Meaning L P S) where
  pub runs_more :
      (commands : List Command) (replies : List Reply) (command : Command) (reply : Reply)
      (old mid new : Side (SessionValue L P S))
      → Runs (IsStep means) commands replies old mid → IsStep means command reply mid new
      → Runs (IsStep means) (commands ++ command ∷ []) (replies ++ reply ∷ []) old new
  runs_more [] [] command reply old mid new run step = (new, subst (λ s. IsStep means command reply s new) run step, refl)
  runs_more (c ∷ cs) (r ∷ rs) command reply old mid new run step = (run.0, run.1, runs_more cs rs command reply run.0 mid new run.2 step)
  runs_more _ _ command reply old mid new run step = absurd run

  -- what two stretches keep, one after the other
  pub session_through : {s t u : Side (SessionValue L P S)} → KeepsSession means s t → KeepsSession means t u → KeepsSession means s u
  session_through p q = grind (arith, common_steps, keeps_through)
