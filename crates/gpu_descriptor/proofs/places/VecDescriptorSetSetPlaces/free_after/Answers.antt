use Rattle.gpu_descriptor.proofs.Common.{◌≡◌, List, drop, take_all, length-drop, sym, ◌∙◌, arith, subst, side, DescriptorSet, Returns, state_of}
use Rattle.std.specs.Vec.Iter.{drain_items, drain_steps}
use Rattle.gpu_descriptor.proofs.callers.HeldSets.{out_front}
use Rattle.gpu_descriptor.proofs.lists.Yielded.{all_given, front_given}
use Rattle.gpu_descriptor.proofs.places.VecDescriptorSetSetPlaces.free_after.Goals.{After-drain-back}
use Rattle.gpu_descriptor.proofs.places.VecDescriptorSetSetPlaces.free_after.Goals as goal

-- the drain gives what is behind the first ones
rest : (g : _) (c : After-drain-back g) → drain_items c.drain-back.result ≡ drop c.args.first c.args.self.now.items
rest g c = c.drain-back.ensures.rest ∙ take_all _ (drop c.args.first c.args.self.now.items) (let long = length-drop c.args.first c.args.self.now.items in let whole = c.args.self.now.ok.0 in omega arith)

pub free_from-requires-clause-outstanding : goal.free_from-requires-clause-outstanding
free_from-requires-clause-outstanding g c xs t y =
    let front = front_given drain_steps drain_items (λ s t x at. at.0) _ xs t y in
    out_front g.D.DescriptorDevice.meaning.set_name xs _ _ (state_of g.D.DescriptorDevice.meaning.pool_name c.args.allocator.now (g.D.DescriptorDevice.ledger c.args.device.now)) (sym (rest g (goal.at.free_from-requires-clause-outstanding g c).After-drain-back) ∙ front) c.requires.outstanding

pub returns-clause-returns : goal.returns-clause-returns
returns-clause-returns g c =
    let f = c.free_from.ensures.frees in
    let all = all_given drain_steps drain_items (λ s t x at. at.0) (λ s t at. at.0) _ f.sets _ f.drained in
    subst
    (λ (xs : List (DescriptorSet g.row.S.Denot)).
    Returns g.D.DescriptorDevice.meaning xs
    (side c.args.allocator.now (g.D.DescriptorDevice.ledger c.args.device.now))
    (side c.free_from.new.self (g.D.DescriptorDevice.ledger c.free_from.new.device)))
    (all ∙ rest g (goal.at.returns-clause-returns g c).After-drain-back) f.returns
