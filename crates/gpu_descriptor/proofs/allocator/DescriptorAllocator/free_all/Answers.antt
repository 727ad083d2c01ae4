use Rattle.gpu_descriptor.proofs.Common.{◌≡◌, ◌∙◌, subst, side, Returns, arith, common_steps}
use Rattle.std.proofs.IntoIterSteps.{All-taken}
use Rattle.gpu_descriptor_types.proofs.Drained.{taken_front}
use Rattle.gpu_descriptor.proofs.allocator.DescriptorAllocator.free_all.Goals as goal

pub free_from-requires-clause-outstanding : goal.free_from-requires-clause-outstanding
free_from-requires-clause-outstanding g c xs t y = grind (arith, common_steps, taken_front)

pub returns-clause-returns : goal.returns-clause-returns
returns-clause-returns g c =
    let f = c.free_from.ensures.frees in
    let all : f.sets ≡ c.args.sets.items = All-taken c.into_iter-back.result f.sets (c.free_from.new.sets, f.drained) ∙ c.into_iter-back.ensures.rest in
    subst (λ x. Returns g.D.DescriptorDevice.meaning x (side c.args.self.now (g.D.DescriptorDevice.ledger c.args.device.now)) (side c.free_from.new.self (g.D.DescriptorDevice.ledger c.free_from.new.device))) all f.returns
