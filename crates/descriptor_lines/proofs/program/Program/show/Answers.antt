use Rattle.std.proofs.lemmas.Grind.{common_steps}
use Rattle.std.proofs.Common.{◌≡◌, [], ◌++◌, length, string_bytes, append-nil, ap, sym, ◌∙◌, arith}
use Rattle.std.proofs.lemmas.Result.{IfOk-weaker}
use Rattle.gpu_descriptor.specs.Caller.States.{marked_load_of}
use Rattle.descriptor_script.specs.Sessions.Tickets.{held_sets}
use Rattle.descriptor_lines.specs.Answers.{held_answer}
use Rattle.descriptor_lines.specs.LineStates.{line_state}
use Rattle.descriptor_lines.proofs.ShownLemmas.{said_of_first, said_of_later, said_of_none, said_of_told, said_whole}
use Rattle.descriptor_lines.proofs.program.Program.show.Goals as goal

pub loop-name-preserved-in-Continue-1 : goal.loop-name-preserved-in-Continue-1
loop-name-preserved-in-Continue-1 g c = grind (arith, common_steps, said_of_first, said_of_told)

pub loop-name-preserved : goal.loop-name-preserved
loop-name-preserved g c = grind (arith, common_steps, said_of_later, said_of_told)

pub returns : goal.returns
returns g c =
    let program = line_state g.D.DescriptorDevice.ledger g.D.LineDevice.script c.args.self.now in
    let table = program.session.value.allocator.table in
    let shown = string_bytes c.loop-name.answer in
    let end : c.loop-name.name-iterator ≡ [] = (rw c.in-None.is at c.next.ensures.steps).0 in
    let pools = sym (append-nil shown) ∙ ap (λ text. shown ++ text) (sym (said_of_none table)) ∙ ap (λ entries. shown ++ said_of_told table entries) (sym end) ∙ c.loop-name.invariant in
    let marked = c.update_after_bind_descriptors-marked.ensures.sum ∙ ap marked_load_of c.allocator.ensures in
    let held : held_answer c.held.result c.update_after_bind_descriptors-marked.result ≡ held_answer (length (held_sets program.session.value.sets)) (marked_load_of program.session.value.allocator) = λ i. held_answer (c.held.ensures.held i) (marked i) in
    IfOk-weaker c.held_answer.result _ _ (λ _ written. written ∙ (λ i. c.in_ok-device_answer.ensures i ++ held i) ∙ said_whole program (string_bytes c.args.answer.now) shown pools) c.held_answer.ensures
