use Rattle.descriptor_manager.proofs.Common.{rules, length, sym, ap, arith, items_of, count_of, whole_sets}
use Rattle.descriptor_manager.proofs.Given.{all_count, all_many, given_all, given_count}
use Rattle.descriptor_manager.proofs.store.Store.give_each.Goals as goal

pub free_from-requires-clause-outstanding : goal.free_from-requires-clause-outstanding
free_from-requires-clause-outstanding g c xs t y i = omega (arith, given_count g.D.DescriptorDevice.meaning.set_name xs _ t y i, c.args.self.now.exact i)

pub shape_of-self : goal.shape_of-self
shape_of-self g c = let f = c.free_from.ensures.frees in sym (given_all f.sets _ _ f.drained).1

pub invariant_of-self-clause-exact : goal.invariant_of-self-clause-exact
invariant_of-self-clause-exact g c = λ i.
    let name = g.D.DescriptorDevice.meaning.set_name in
    let f = c.free_from.ensures.frees in
    let all = all_count f.sets _ _ f.drained name i in
    let back = f.returns.back.returned i in
    let end = ap (λ t. count_of i (items_of name (whole_sets t))) c.end.ensures in
    omega (arith, c.args.self.now.exact i)

pub invariant_of-self-clause-accounted : goal.invariant_of-self-clause-accounted
invariant_of-self-clause-accounted g c =
    let f = c.free_from.ensures.frees in
    let all = all_many f.sets _ _ f.drained in
    let end = ap (λ t. length (whole_sets t)) c.end.ensures in
    omega arith

pub returns : goal.returns
returns g c =
    let f = c.free_from.ensures.frees in
    let all = given_all f.sets _ _ f.drained in
    search rules
