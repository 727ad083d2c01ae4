use Rattle.std.proofs.Common.{◌≡◌, ℕ, ◌<◌, List, ◌∷◌, length, Option, None, Some, IsSome, is_some, sym, ap, ◌∙◌, subst, arith}
use Rattle.std.proofs.lemmas.Bool.{false≢true}
use Rattle.std.specs.Iterator.{MakesProgress, at_most}
use Rattle.std.specs.Slice.Iter.{iter_rest}
use Rattle.descriptor_script.specs.Sessions.Tickets.{AreHeldOnce}
use Rattle.descriptor_script.proofs.Emptied.{first_held, rest_once}
use Rattle.descriptor_script.proofs.taking.TakingIterator.next.Goals as goal

-- a call that gave an item
progress : {S A : Type 0} (can : S → Type 0) (left : S → ℕ) (s t : S) (r : Option A) → can t → left t < left s → IsSome r → MakesProgress can (λ u. at_most (left u)) s r t
progress can left s t None may less some = absurd (false≢true some)
progress can left s t (Some x) may less some = record { on = λ finite. (may, tt, less); keeps = may; rests = λ finite. tt }

pub returns-clause-goes : goal.returns-clause-goes
returns-clause-goes g c =
    let slots = c.args.self.now.slots.sets.items in
    let ticket : ℕ = c.in_ok-ticket.ticket.now in
    let rest : List ℕ = iter_rest c.next.new.self in
    let steps : iter_rest c.args.self.now.tickets ≡ ticket ∷ rest = c.in_ok-ticket.ensures.steps in
    let held : AreHeldOnce slots (ticket ∷ rest) = subst (AreHeldOnce slots) steps c.requires in
    let may : AreHeldOnce c.take.new.self.sets.items rest = subst (λ l. AreHeldOnce l rest) (sym c.take.ensures.sets) (rest_once slots ticket rest held) in
    let less : length rest < length (iter_rest c.args.self.now.tickets) = (let long = ap length steps in omega arith) in
    progress _ _ _ _ c.take.result may less (ap is_some c.take.ensures.set ∙ first_held slots ticket rest held)
