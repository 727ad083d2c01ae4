use Rattle.std.proofs.lemmas.Grind.{common_steps}
use Rattle.std.proofs.Common.{◌≡◌, ◌+◌, ◌≤◌, ◌++◌, All, length, sym, ap, ◌∙◌, arith}
use Rattle.gpu_descriptor.specs.Model.Agreement.{State}
use Rattle.gpu_descriptor.specs.Caller.States.{state_of}
use Rattle.descriptor_frames.specs.Frames.{retired_of, state_in}
use Rattle.descriptor_frames.specs.Retired.{retired_sets}
use Rattle.gpu_descriptor.proofs.callers.HeldSets.{out_front}
use Rattle.descriptor_frames.proofs.InUse.{later_out, same_besides}
use Rattle.descriptor_frames.proofs.Taken.{both_parts, fewer, none_later, same_list_then, same_places_then, still_in_order, stood_before, took_due}
use Rattle.descriptor_frames.proofs.manager.FrameManager.finish.Goals.{After-end}
use Rattle.descriptor_frames.proofs.manager.FrameManager.finish.Goals as goal

pub free_from-requires-clause-outstanding : goal.free_from-requires-clause-outstanding
free_from-requires-clause-outstanding g c xs t y = grind (arith, common_steps, out_front, stood_before)

pub shape_of-self : goal.shape_of-self
shape_of-self g c = sym (same_list_then c.free_from.ensures.frees)

pub invariant_of-self : goal.invariant_of-self
invariant_of-self g c = grind (arith, common_steps, still_in_order c.free_from.ensures.frees c.args.self.now.greatest c.args.self.now.ordered)

pub returns-clause-returns : goal.returns-clause-returns
returns-clause-returns g c = grind (arith, common_steps, took_due c.free_from.ensures.frees c.args.self.now.greatest c.args.self.now.ordered)

pub returns-clause-rest : goal.returns-clause-rest
returns-clause-rest g c = grind (arith, common_steps, took_due c.free_from.ensures.frees c.args.self.now.greatest c.args.self.now.ordered)

-- how many went back
went_back : (g : _) (c : After-end g) → length c.end.new.self.0.items + length c.free_from.ensures.frees.sets ≡ length (retired_of c.args.self.now)
went_back g c = grind (arith, common_steps, fewer c.free_from.ensures.frees)

pub returns-clause-count : goal.returns-clause-count
returns-clause-count g c = grind (arith, common_steps, went_back g (goal.at.returns-clause-count g c).After-end, took_due c.free_from.ensures.frees c.args.self.now.greatest c.args.self.now.ordered)

pub returns-clause-all : goal.returns-clause-all
returns-clause-all g c up =
    let early : All (λ r. r.frame ≤ c.args.frame) (retired_of c.args.self.now) = λ i d lt. (let within = c.args.self.now.ordered.within i d lt in omega arith) in
    ap (λ q. q.items) c.end.ensures ∙ (took_due c.free_from.ensures.frees c.args.self.now.greatest c.args.self.now.ordered).1 ∙ none_later c.args.frame (retired_of c.args.self.now) early

pub returns-clause-reserve : goal.returns-clause-reserve
returns-clause-reserve g c = grind (arith, common_steps, went_back g (goal.at.returns-clause-reserve g c).After-end, same_places_then c.free_from.ensures.frees, took_due c.free_from.ensures.frees c.args.self.now.greatest c.args.self.now.ordered)

-- books and ledger at the call, and when the sets went back
abbrev before : (g : _) → After-end g → State
before g c = state_in g.D.DescriptorDevice.meaning.pool_name c.args.self.now (g.D.DescriptorDevice.ledger c.args.device.now)

abbrev after : (g : _) → After-end g → State
after g c = state_of g.D.DescriptorDevice.meaning.pool_name c.free_from.new.self (g.D.DescriptorDevice.ledger c.free_from.new.device)

-- the list is what went back and what is left of it
list_parts : (g : _) (c : After-end g) → retired_sets (retired_of c.args.self.now) ≡ c.free_from.ensures.frees.sets ++ retired_sets c.end.new.self.0.items
list_parts g c = grind (arith, common_steps, both_parts c.free_from.ensures.frees)

pub returns-clause-retired : goal.returns-clause-retired
returns-clause-retired g c = grind (arith, common_steps, later_out, list_parts)

pub returns-clause-in_use : goal.returns-clause-in_use
returns-clause-in_use g c = grind (arith, common_steps, list_parts, same_besides)
