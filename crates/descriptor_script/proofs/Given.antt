-- Tickets are given once: for `Session::step`, which ensures `tickets` and `freed`.
use Rattle.std.proofs.lemmas.Grind.{common_steps}
use Rattle.std.proofs.Common.{◌≡◌, ◌≤◌, ℕ, List, [], ◌∷◌, length, get_or, set, Option, None, refl, ◌∙◌, arith}
use Rattle.std.proofs.lemmas.Bool.{cases_eq}
use Rattle.std.proofs.lemmas.List.{get_or-set_other, length-set}
use Rattle.gpu_descriptor_types.specs.Meaning.{Meaning}
use Rattle.gpu_descriptor_types.specs.Side.{Side}
use Rattle.descriptor_script.specs.Sessions.Session.{SessionValue}
use Rattle.descriptor_script.specs.Sessions.Steps.{FreesTo}
use Rattle.descriptor_script.specs.Sessions.Tickets.{emptied, set_at}
use Rattle.descriptor_script.specs.declared.command.Reply.{Reply}
use Rattle.descriptor_script.proofs.Emptied.{none_at}

module _ {X : Type 0} where
  emptied_length : (slots : List (Option X)) (tickets : List ℕ) → length (emptied slots tickets) ≡ length slots
  emptied_length slots [] = refl
  emptied_length slots (n ∷ ns) = emptied_length (set slots n None) ns ∙ length-set slots n None

  none_set : (slots : List (Option X)) (n m : ℕ) → get_or slots m None ≡ None → get_or (set slots n None) m None ≡ None
  none_set slots n m none = grind (arith, common_steps, cases_eq, get_or-set_other, none_at)

  -- a slot that is empty stays so
  emptied_none : (slots : List (Option X)) (tickets : List ℕ) (m : ℕ) → get_or slots m None ≡ None → get_or (emptied slots tickets) m None ≡ None
  emptied_none slots [] m none = none
  emptied_none slots (n ∷ ns) m none = emptied_none (set slots n None) ns m (none_set slots n m none)

-- a free gives no ticket a second time
module _ {L P S : Type 0} (means : Meaning L P S) (tickets : List ℕ) where
  pub no_fewer_tickets : (reply : Reply) (old new : Side (SessionValue L P S)) → FreesTo means tickets old new reply → length old.value.sets ≤ length new.value.sets
  no_fewer_tickets x0 old new x3 = grind (arith, common_steps, emptied_length)

  pub freed_stay : (reply : Reply) (old new : Side (SessionValue L P S)) → FreesTo means tickets old new reply → (ticket : ℕ) → set_at old.value.sets ticket ≡ None → set_at new.value.sets ticket ≡ None
  freed_stay x0 old new x3 ticket none = grind (arith, common_steps, emptied_none)
