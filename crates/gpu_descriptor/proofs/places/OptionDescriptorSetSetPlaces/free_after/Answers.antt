use Rattle.gpu_descriptor.proofs.Common.{List, ◌∷◌, sym, ap, ◌∙◌, subst, side, DescriptorSet, Returns, state_of}
use Rattle.std.specs.Option.{option_to_list}
use Rattle.std.specs.Iterator.Adapters.{once_item, once_steps}
use Rattle.gpu_descriptor.proofs.callers.HeldSets.{out_front}
use Rattle.gpu_descriptor.proofs.lists.Yielded.{all_given, front_given}
use Rattle.gpu_descriptor.proofs.places.OptionDescriptorSetSetPlaces.free_after.Goals as goal

pub free_from-requires-clause-outstanding : goal.free_from-requires-clause-outstanding
free_from-requires-clause-outstanding g c xs t y =
    let front = front_given once_steps (λ s. option_to_list (once_item s)) (λ s t x at. sym (ap option_to_list at.0) ∙ ap (λ o. x ∷ option_to_list o) (sym at.1)) _ xs t y in
    out_front g.D.DescriptorDevice.meaning.set_name xs _ _
    (state_of g.D.DescriptorDevice.meaning.pool_name c.args.allocator.now
    (g.D.DescriptorDevice.ledger c.args.device.now))
    (sym (ap option_to_list c.into_iter-back.ensures.into_iter_gives.0 ∙ c.split_off.ensures.out) ∙ front)
    c.requires.outstanding

pub returns-clause-returns : goal.returns-clause-returns
returns-clause-returns g c =
    let f = c.free_from.ensures.frees in
    let all = all_given once_steps (λ s. option_to_list (once_item s)) (λ s t x at. sym (ap option_to_list at.0) ∙ ap (λ o. x ∷ option_to_list o) (sym at.1)) (λ s t at. sym (ap option_to_list at.0)) _ f.sets _ f.drained in
    subst
    (λ (xs : List (DescriptorSet g.row.S.Denot)).
    Returns g.D.DescriptorDevice.meaning xs
    (side c.args.allocator.now (g.D.DescriptorDevice.ledger c.args.device.now))
    (side c.free_from.new.self (g.D.DescriptorDevice.ledger c.free_from.new.device)))
    (all ∙ ap option_to_list c.into_iter-back.ensures.into_iter_gives.0 ∙ c.split_off.ensures.out) f.returns
