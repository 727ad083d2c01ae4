use Rattle.std.proofs.Common.{[], Ok, Err, Result, Option, List, ℕ, refl, sym, ap, ◌∙◌}
use Rattle.std.specs.String.{string_bytes}
use Rattle.std.specs.Io.KnownBytes.{Appends}
use Rattle.descriptor_lines.specs.LineBuffers.{unread}
use Rattle.descriptor_lines.specs.LineStates.{LineState, line_state}
use Rattle.std.proofs.KnownBytes.{Appends-nil, Appends-trans}
use Rattle.descriptor_lines.specs.Outcomes.{EndsInFault, IsNoFault, said_of}
use Rattle.descriptor_lines.specs.declared.words.fault.Refusal.{Refusal}
use Rattle.descriptor_lines.specs.declared.words.fault.Refusal.TheVariants as refusal
use Rattle.descriptor_lines.proofs.EndLemmas.{Stands, Takes, ends_at_fault, ends_done, ends_early, ends_unread, ends_unwritten, stands_on, takes_span, too_long}
use Rattle.descriptor_lines.proofs.program.run_to_end.Given.{Over}
use Rattle.descriptor_lines.proofs.program.run_to_end.Goals as goal
use Rattle.descriptor_lines.proofs.program.run_to_end.Goals.{After-has_lost, in-Ok-Some, in-Err-LineTooLong}

-- a run that ended at a fault said so behind the answers before it
ends_in_fault : (number : ℕ) (outcome : Result Unit Refusal) (text answers : List ℕ) (a b c : Option (List ℕ)) → ¬ (IsNoFault outcome) → Appends a b answers → Appends b c (said_of number outcome text) → EndsInFault a c
ends_in_fault number (Ok done) text answers a b c faulty before said = absurd (faulty tt)
ends_in_fault number (Err refusal.NoMemory) text answers a b c faulty before said = absurd (faulty refl)
ends_in_fault number (Err (refusal.Fault fault)) text answers a b c faulty before said = record { answers = answers; number = number; fault = fault; grown = Appends-trans a b c _ _ before said }

-- what came of the line, if a run over known bytes stood there
takes :
    (g : Over) (c : After-has_lost g) (bytes answers : List ℕ) (start : LineState)
    (at : Stands bytes start answers c.loop-number.number (unread c.loop-number.lines (g.R.Read.remaining c.loop-number.input))
    (line_state g.D.DescriptorDevice.ledger g.D.LineDevice.script c.loop-number.program))
    → Takes at.rest (unread c.next_line.new.self (g.R.Read.remaining c.next_line.new.input))
    c.match-next_line.outcome (string_bytes c.match-next_line.answer)
    (line_state g.D.DescriptorDevice.ledger g.D.LineDevice.script c.loop-number.program)
    (line_state g.D.DescriptorDevice.ledger g.D.LineDevice.script c.match-next_line.program)
takes g c bytes answers start at =
    elim
    c.match-next_line.branch [
      | in-Ok-Some w ↦
          let ran = w.run_line-outcome.ensures in
          rw (w.program-is, w.answer-is, w.outcome-is)
          (takes_span _ _ c.next_line.new.self w.in-Ok-Some.span _ _ _ _ _
          (rw w.in-Ok-Some.field-0-is at (w.in-Ok-Some.ensures.known at.rest at.known))
          (rw w.in-Ok-Some.field-0-is at w.in-Ok-Some.ensures.short) w.line.ensures.bytes ran.runs ran.reason ran.begun)
      | in-Err-LineTooLong w ↦
          let long = c.next_line.ensures.too_long (w.in-Err-LineTooLong.is ∙ ap Err w.in-Err-LineTooLong.field-0-is) at.rest at.known in
          rw (w.program-is, w.answer-is, w.outcome-is) (too_long _ _ _ _ long c.loop-number.invariant.ready)
    ]

pub loop-number-preserved : goal.loop-number-preserved
loop-number-preserved g c =
    let (text, grown, stands) = c.loop-number.invariant.answers in
    record {
      ready = elim c.match-next_line.branch [
        | in-Ok-Some w ↦ rw w.program-is w.run_line-outcome.ensures.runs.ready
        | in-Err-LineTooLong w ↦ rw w.program-is c.loop-number.invariant.ready
      ];
      empty = c.in_default.ensures.emptied;
      answers = (_, Appends-trans _ _ _ _ _ grown c.in_default.ensures.answered, λ bytes is. (let at = stands bytes is in stands_on _ _ _ _ _ _ at _ _ _ _ (takes g c.before.before.before.before.before.before _ _ _ at) c.in_default.ensures.ok));
      sees = c.next_line.ensures.sees c.loop-number.invariant.sees;
      whole = λ _. sym c.has_lost.ensures ∙ c.if-has_lost.false;
    }

pub returns-in_default-clause-writes : goal.returns-in_default-clause-writes
returns-in_default-clause-writes g c bytes is =
    let (text, grown, stands) = c.loop-number.invariant.answers in
    let at = stands bytes is in
    let now = stands_on _ _ _ _ _ _ at _ _ _ _ (takes g c.before.before.before.before.before.before _ _ _ at) c.in_default.ensures.ok in
    ends_unread _ _ _ _ _ _ now _ _ (Appends-trans _ _ _ _ _ grown c.in_default.ensures.answered)

pub returns-then-has_lost-clause-writes : goal.returns-then-has_lost-clause-writes
returns-then-has_lost-clause-writes g c bytes is =
    let (text, grown, stands) = c.loop-number.invariant.answers in
    let at = stands bytes is in
    ends_unwritten _ _ _ _ _ _ at _ _ _ _ (takes g c.before _ _ _ at) _ _ _ grown (record { prefix = []; unwritten = _; split = refl; grown = Appends-nil _ })

pub returns-in-Ok-None-clause-writes : goal.returns-in-Ok-None-clause-writes
returns-in-Ok-None-clause-writes g c bytes is =
    let (text, grown, stands) = c.loop-number.invariant.answers in
    let at = stands bytes is in
    ends_done _ _ _ _ _ _ at _ _ (rw c.in-Ok-None.field-0-is at (c.in-Ok-None.ensures.known at.rest at.known)) grown

pub returns-in-Err-Read-clause-writes : goal.returns-in-Err-Read-clause-writes
returns-in-Err-Read-clause-writes g c bytes is =
    let (text, grown, stands) = c.loop-number.invariant.answers in
    ends_unread _ _ _ _ _ _ (stands bytes is) _ _ grown

pub returns-in-Err-clause-writes : goal.returns-in-Err-clause-writes
returns-in-Err-clause-writes g c bytes is =
    let (text, grown, stands) = c.loop-number.invariant.answers in
    let at = stands bytes is in
    let came = takes g c.before.before.before.before.before _ _ _ at in
    ends_early c.in-Err.exit bytes _ _ _ _ c.in-Err.ensures.err
    (λ bad.
    ends_at_fault _ _ _ _ _ _ at _ _ _ _ came _ _ _ (c.answer_line.ensures.bad_line (c.in-Err.is ∙ ap Err bad)) grown
    (c.answer_line.ensures.told (c.in-Err.is ∙ ap Err bad)))
    (λ broken. ends_unwritten _ _ _ _ _ _ at _ _ _ _ came _ _ _ grown (c.answer_line.ensures.broken (c.in-Err.is ∙ ap Err broken)))

pub returns-in-Err-clause-bad_line : goal.returns-in-Err-clause-bad_line
returns-in-Err-clause-bad_line g c = λ bad. ends_in_fault c.loop-number.number c.match-next_line.outcome _ _ _ _ _ (c.answer_line.ensures.bad_line (c.in-Err.is ∙ ap Err bad)) c.loop-number.invariant.answers.1 (c.answer_line.ensures.told (c.in-Err.is ∙ ap Err bad))
