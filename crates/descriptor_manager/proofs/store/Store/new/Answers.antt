use Rattle.descriptor_manager.proofs.Common.{◌≡◌, [], ◌∙◌, map, ap, arith, items_of, named_row, state_of, count_of, books_of, filter_map, ids_of, whole_in}
use Rattle.gpu_descriptor.specs.Caller.Others.{others_of}
use Rattle.gpu_descriptor.proofs.release.Places.{none_out}
use Rattle.descriptor_manager.proofs.store.Store.new.Goals as goal

pub invariant_of-result-clause-agree : goal.invariant_of-result-clause-agree
invariant_of-result-clause-agree g c =
    let name = g.D.DescriptorDevice.meaning.pool_name in
    let ledger = g.D.DescriptorDevice.ledger c.args.device in
    c.set_max_pool_descriptors.ensures.agree name ledger (c.new-allocator.ensures.agree name ledger)

pub invariant_of-result-clause-exact : goal.invariant_of-result-clause-exact
invariant_of-result-clause-exact g c = λ t.
    let d = g.D.DescriptorDevice in
    let a = c.set_max_pool_descriptors.new.self in
    let empty : a.table ≡ [] = ap (λ a. a.table) c.set_max_pool_descriptors.ensures.value ∙ ap (λ a. a.table) c.new-allocator.ensures.value in
    let none = none_out (state_of d.meaning.pool_name a (d.ledger c.args.device)) t (ap (λ rows. books_of (map (named_row d.meaning.pool_name) rows) t.key) empty) in
    let slots = ap (λ l. count_of t (items_of d.meaning.set_name (filter_map (whole_in (ids_of c.new.result)) l))) c.new.ensures.slots in
    let coming = ap (λ l. count_of t (items_of d.meaning.set_name l)) c.new-2.ensures.items in
    omega arith

pub returns-clause-besides : goal.returns-clause-besides
unfolding others_of
returns-clause-besides g c =
    let others = others_of g.D.DescriptorDevice.meaning.pool_name in
    let ledger = g.D.DescriptorDevice.ledger c.args.device in
    ap (λ a. others a ledger) c.set_max_pool_descriptors.ensures.value ∙ ap (λ a. others a ledger) c.new-allocator.ensures.value
