use Rattle.std.proofs.lemmas.Grind.{common_steps}
use Rattle.std.proofs.Common.{◌≡◌, ◌++◌, string_bytes, append_assoc, length, ap, sym, ◌∙◌, arith}
use Rattle.gpu_descriptor.specs.Caller.Views.{view_in}
use Rattle.gpu_descriptor.specs.Model.Books.{books_of}
use Rattle.descriptor_script.specs.Sessions.Session.{value_of}
use Rattle.descriptor_lines.specs.Answers.{pool_answer}
use Rattle.descriptor_lines.specs.LayoutTables.{key_of}
use Rattle.descriptor_lines.proofs.ShownLemmas.{all_so_far, none_so_far, one_more, seen_within}
use Rattle.descriptor_lines.proofs.program.Program.show_pools.Goals as goal
use Rattle.descriptor_lines.proofs.program.Program.show_pools.Goals.{in-Some+in_ok-pool_answer, in_default}

pub loop-index-init : goal.loop-index-init
loop-index-init g c = grind (arith, common_steps, none_so_far)

pub loop-index-preserved : goal.loop-index-preserved
loop-index-preserved g c =
    let name = c.args.name.now in
    let layout = c.args.layout.now in
    let index = c.loop-index.index in
    let table = (value_of c.args.self.now.session).allocator.table in
    let seen : c.pool.result ≡ view_in (books_of table (key_of layout)) index = c.pool.ensures.view ∙ ap (λ a. view_in (books_of a.table (key_of layout)) index) c.allocator-allocator.ensures in
    let count = c.pool_count-index-end.ensures.count ∙ ap (λ a. length (books_of a.table (key_of layout)).pools) c.allocator-allocator.ensures in
    elim c.match-pool.branch [
      | in-Some+in_ok-pool_answer w ↦ ap string_bytes w.answer-is ∙ w.in_ok-pool_answer.ensures
          ∙ ap (λ said. said ++ pool_answer name w.in-Some.pool.number w.in-Some.pool.allocated w.in-Some.pool.available) c.loop-index.invariant
          ∙ append_assoc (string_bytes c.args.answer.now) _ _
          ∙ ap (λ said. string_bytes c.args.answer.now ++ said)
          (sym (one_more table name layout index w.in-Some.pool (sym seen ∙ w.in-Some.is)))
      | in_default w ↦ absurd (seen_within table (key_of layout) index (omega (arith, count, c.loop-index-test.true)) (sym seen ∙ w.in_default.is))
    ]

pub returns : goal.returns
returns g c =
    let table = (value_of c.args.self.now.session).allocator.table in
    let count : c.pool_count-index-end.result ≡ length (books_of table (key_of c.args.layout.now)).pools = c.pool_count-index-end.ensures.count ∙ ap (λ a. length (books_of a.table (key_of c.args.layout.now)).pools) c.allocator-allocator.ensures in
    c.loop-index.invariant ∙ ap (λ said. string_bytes c.args.answer.now ++ said) (all_so_far table (c.args.name.now, c.args.layout.now) c.loop-index.index (omega (arith, count, c.loop-index-test.false)))
