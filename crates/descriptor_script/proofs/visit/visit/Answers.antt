use Rattle.std.proofs.Common.{◌≡◌, false, [], sym, ap, ◌∙◌}
use Rattle.gpu_descriptor.specs.Model.Agreement.{Item, State, count_of, outstanding}
use Rattle.gpu_descriptor.specs.Caller.Sets.{items_of}
use Rattle.gpu_descriptor.specs.Caller.States.{state_of}
use Rattle.gpu_descriptor.proofs.cleanup.Cleaning.{nothing_left}
use Rattle.gpu_descriptor.proofs.foreign.NoneLost.{restores}
use Rattle.gpu_descriptor.proofs.foreign.OthersStay.{from_others}
use Rattle.descriptor_script.specs.Sessions.Session.{value_of}
use Rattle.descriptor_script.specs.Sessions.Tickets.{held_sets}
use Rattle.descriptor_script.proofs.visit.visit.Goals.{After-cleanup}
use Rattle.descriptor_script.proofs.visit.visit.Goals as goal

nothing : (g : _) (c : After-cleanup g) → held_sets (value_of c.cleanup.new.self).sets ≡ [] → (i : Item) → outstanding (state_of g.D.DescriptorDevice.meaning.pool_name (value_of c.run-replies.new.self).allocator (g.D.DescriptorDevice.ledger c.run-replies.new.device)) i ≡ 0
nothing g c none i = c.run-replies.ensures.keeps.ready.held i ∙ ap (λ l. count_of i (items_of g.D.DescriptorDevice.meaning.set_name (held_sets l))) (sym c.cleanup.ensures.cleans.1) ∙ ap (λ l. count_of i (items_of g.D.DescriptorDevice.meaning.set_name l)) none

pub returns-clause-pools : goal.returns-clause-pools
returns-clause-pools g c none =
    let name = g.D.DescriptorDevice.meaning.pool_name in
    let ledger = g.D.DescriptorDevice.ledger in
    let s : State = state_of name (value_of c.args.session.now).allocator (ledger c.args.device.now) in
    let t : State = state_of name (value_of c.run-replies.new.self).allocator (ledger c.run-replies.new.device) in
    let u : State = state_of name (value_of c.cleanup.new.self).allocator (ledger c.cleanup.new.device) in
    let at = (goal.at.returns-clause-pools g c).After-cleanup in
    let others = c.run-replies.ensures.keeps.allocator.others in
    restores s t u c.requires.began (from_others name _ _ _ _ others) (from_others name _ _ _ _ (sym others)) c.run-replies.ensures.keeps.ready.agree.books (nothing g at none) at.cleanup.ensures.cleans.0.cleaned

pub returns-clause-ended : goal.returns-clause-ended
returns-clause-ended g c none =
    let name = g.D.DescriptorDevice.meaning.pool_name in
    let ledger = g.D.DescriptorDevice.ledger in
    let at = (goal.at.returns-clause-ended g c).After-cleanup in
    nothing_left false (state_of name (value_of c.run-replies.new.self).allocator (ledger c.run-replies.new.device)) _ c.run-replies.ensures.keeps.ready.agree.books (nothing g at none) at.cleanup.ensures.cleans.0.cleaned
