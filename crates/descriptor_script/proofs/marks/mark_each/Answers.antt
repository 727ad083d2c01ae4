use Rattle.std.proofs.Common.{◌≡◌, ◌≢◌, ℕ, ◌<◌, true, false, List, Bool, length, get_or, inl, inr, refl, sym, ap, ◌∙◌, arith, rules, below_more}
use Rattle.std.proofs.lemmas.Bool.{cases_eq, false≢true, true≢false}
use Rattle.std.proofs.lemmas.List.{get_or-set_other, get_or-set_same}
use Rattle.std.specs.Prelude.{IsSome}
use Rattle.descriptor_script.specs.Sessions.Tickets.{set_at}
use Rattle.descriptor_script.proofs.Emptied.{apart_at, held_at, held_by_places, some_within}
use Rattle.descriptor_script.proofs.marks.mark_each.Goals as goal

pub loop-ticket-preserved : goal.loop-ticket-preserved
loop-ticket-preserved g c =
    let inv = c.loop-ticket.invariant in
    let i : ℕ = c.loop-ticket.ticket-index in
    let ts : List ℕ = c.args.tickets.now in
    let n : ℕ = get_or ts i 0 in
    let marks : List Bool = c.loop-ticket.marks in
    let unmarked : get_or marks n false ≡ false = search rules in
    let here : IsSome (set_at c.args.sets.now n) = search rules in
    let inside = some_within c.args.sets.now n here in
    let long = c.requires.long in
    let same_length = c.loop-ticket.auto.marks in
    let within : n < length marks = omega arith in
    let apart : (j : ℕ) → j < i → get_or ts j 0 ≢ n = λ j below same. (true≢false (sym (inv.marked j below) ∙ ap (λ k. get_or marks k false) same ∙ unmarked)) in
    record {
      held = below_more _ _ inv.held here;
      marked = below_more _ _ (λ j below. get_or-set_other marks n (get_or ts j 0) true false (apart j below) ∙ inv.marked j below) (get_or-set_same marks n true false within);
      once = λ a b below lt. elim (cases_eq b i) [
        | inl last ↦ (λ same. apart a (omega arith) (same ∙ ap (λ k. get_or ts k 0) last))
        | inr other ↦ inv.once a b below (omega arith)
      ];
      only = λ m marked. elim (cases_eq m n) [
        | inl same ↦ (i, omega arith, sym same)
        | inr other ↦ (let was = inv.only m (sym (get_or-set_other marks n m true false other) ∙ marked) in (was.0, (let lt = was.1 in omega arith), was.2))
      ];
    }

pub returns-then-not-is_held-clause-answer : goal.returns-then-not-is_held-clause-answer
returns-then-not-is_held-clause-answer g c =
    let inv = c.loop-ticket.invariant in
    let i : ℕ = c.loop-ticket.ticket-index in
    let slots = c.args.sets.now in
    let ts : List ℕ = c.args.tickets.now in
    let n : ℕ = get_or ts i 0 in
    let within : i < length ts = search rules in (
      λ bad. absurd (false≢true bad),
      λ once.
          let here = held_at slots ts once i within in
          let marked : get_or c.loop-ticket.marks n false ≡ true = search rules in
          let before = inv.only n marked in
          absurd (apart_at slots ts once before.0 i before.1 within before.2),
    )

pub returns-clause-answer : goal.returns-clause-answer
returns-clause-answer g c =
    let inv = c.loop-ticket.invariant in (
      λ yes. held_by_places c.args.sets.now c.args.tickets.now (λ i lt. inv.held i (search rules)) (λ i j below lt. inv.once i j below (search rules)),
      λ once. refl,
    )
