-- A run of one command has one reply, which says of its step what a run says: for `ask`.
use Rattle.std.proofs.Common.{◌≡◌, List, [], ◌∷◌, ◌++◌, sym, subst}
use Rattle.gpu_descriptor_types.specs.Meaning.{Meaning}
use Rattle.gpu_descriptor_types.specs.Side.{Side}
use Rattle.descriptor_script.specs.Sessions.Session.{SessionValue}
use Rattle.descriptor_script.specs.Sessions.SessionRun.{IsStep, Runs}
use Rattle.descriptor_script.specs.Sessions.Steps.{OfStep}
use Rattle.descriptor_script.specs.declared.command.Command.{Command}
use Rattle.descriptor_script.specs.declared.command.Reply.{Reply}

module _ {L P S : Type 0} (promise : OfStep L P S) (command : Command) where
  -- the last reply is all of them
  pub one_reply : (replies before : List Reply) (reply : Reply) (old new : Side (SessionValue L P S)) → Runs promise (command ∷ []) replies old new → replies ≡ before ++ reply ∷ [] → replies ≡ reply ∷ []
  one_reply [] before reply old new run is = absurd run
  one_reply (r ∷ []) [] reply old new run is = is
  one_reply (r ∷ []) (b ∷ []) reply old new run is = absurd (cc)
  one_reply (r ∷ []) (b ∷ c ∷ before) reply old new run is = absurd (cc)
  one_reply (r ∷ s ∷ replies) before reply old new run is = absurd run.2

  -- its promise is kept
  pub one_step : (replies : List Reply) (reply : Reply) (old new : Side (SessionValue L P S)) → Runs promise (command ∷ []) replies old new → replies ≡ reply ∷ [] → promise command reply old new
  one_step [] reply old new run is = absurd run
  one_step (r ∷ []) reply old new run is = subst (λ s. promise command reply old s) (sym run.2) (subst (λ x. promise command x old run.0) (cc) run.1)
  one_step (r ∷ s ∷ replies) reply old new run is = absurd run.2

-- a step by a device that means what another one means
pub same_step : {L P S : Type 0} {means same : Meaning L P S} (command : Command) (reply : Reply) {old new : Side (SessionValue L P S)} → means ≡ same → IsStep means command reply old new → IsStep same command reply old new
same_step command reply {old = old} {new = new} is step = subst (λ means. IsStep means command reply old new) is step
