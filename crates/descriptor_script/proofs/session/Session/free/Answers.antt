use Rattle.std.proofs.lemmas.Grind.{common_steps}
use Rattle.std.proofs.Common.{◌≡◌, map, ap, subst, sym, ◌∙◌, arith, rules}
use Rattle.gpu_descriptor.proofs.NoGaps.{none_freed}
use Rattle.gpu_descriptor.specs.Caller.Sets.{items_of}
use Rattle.gpu_descriptor.specs.Model.Agreement.{HasNoGaps, State}
use Rattle.gpu_descriptor.specs.Caller.States.{state_of}
use Rattle.descriptor_script.specs.Sessions.Session.{AreAllHeld}
use Rattle.std.specs.Slice.Iter.{iter_rest}
use Rattle.descriptor_script.specs.Sessions.Tickets.{AreHeldOnce, emptied, set_at}
use Rattle.descriptor_script.specs.declared.taking.Taking.{Taking}
use Rattle.descriptor_script.proofs.Emptied.{all_emptied, all_held_less, all_out, each_taken, fewer_held, held_as}
use Rattle.descriptor_script.proofs.session.Session.free.Goals.{After-iter}
use Rattle.descriptor_script.proofs.session.Session.free.Goals as goal

slots_are : (g : _) (c : After-iter g) → c.replace-slots.result.sets.items ≡ c.args.self.now.slots.sets.items
slots_are g c = ap (λ s. s.sets.items) c.replace-slots.ensures.value ∙ c.are_held_once.ensures.sets

good : (g : _) (c : After-iter g) → AreHeldOnce c.args.self.now.slots.sets.items c.args.tickets.now
good g c = c.are_held_once.ensures.answer.0 c.if-not-are_held_once.false

held : (g : _) (c : After-iter g) → AreAllHeld g.D.DescriptorDevice.meaning.set_name c.replace-slots.result.sets.items (state_of g.D.DescriptorDevice.meaning.pool_name c.args.self.now.allocator (g.D.DescriptorDevice.ledger c.args.device.now))
held g c = held_as g.D.DescriptorDevice.meaning.set_name _ _ (state_of g.D.DescriptorDevice.meaning.pool_name c.args.self.now.allocator (g.D.DescriptorDevice.ledger c.args.device.now)) (slots_are g c) c.requires.ready.held

pub free_from-requires-clause-outstanding : goal.free_from-requires-clause-outstanding
free_from-requires-clause-outstanding g c =
    let d = (goal.at.free_from-requires-clause-outstanding g c).After-iter in
    all_out g.D.DescriptorDevice.meaning.set_name (record { slots = c.replace-slots.result; tickets = c.iter.result }) (state_of g.D.DescriptorDevice.meaning.pool_name c.args.self.now.allocator (g.D.DescriptorDevice.ledger c.args.device.now)) (held g d)

pub returns-clause-step : goal.returns-clause-step
returns-clause-step g c =
    let d = (goal.at.returns-clause-step g c).After-iter in
    let s : Taking g.row.S.Denot = record { slots = c.replace-slots.result; tickets = c.iter.result } in
    let frees = c.free_from.ensures.frees in
    let drained = frees.drained in (
      record {
        good = good g d;
        all = search rules;
        given = frees.sets;
        each = each_taken frees.sets s drained.0 drained.1 drained.2.0 ∙ ap (λ l. map (set_at l) (iter_rest s.tickets)) (slots_are g d) ∙ ap (map (set_at c.args.self.now.slots.sets.items)) c.iter.ensures.rest;
        sets = drained.2.2 ∙ all_emptied frees.sets s drained.0 drained.1 drained.2.0 ∙ ap (λ l. emptied l (iter_rest s.tickets)) (slots_are g d) ∙ ap (emptied c.args.self.now.slots.sets.items) c.iter.ensures.rest;
      },
      frees.returns,
    )

pub returns-clause-keeps : goal.returns-clause-keeps
returns-clause-keeps g c =
    let d = (goal.at.returns-clause-keeps g c).After-iter in
    let s : Taking g.row.S.Denot = record { slots = c.replace-slots.result; tickets = c.iter.result } in
    let frees = c.free_from.ensures.frees in
    let drained = frees.drained in
    let old : State = state_of g.D.DescriptorDevice.meaning.pool_name c.args.self.now.allocator (g.D.DescriptorDevice.ledger c.args.device.now) in
    let new : State = state_of g.D.DescriptorDevice.meaning.pool_name c.free_from.new.self (g.D.DescriptorDevice.ledger c.free_from.new.device) in
    record {
      ready = record {
        agree = c.free_from.ensures.keeps.agree;
        held = held_as g.D.DescriptorDevice.meaning.set_name _ _ new drained.2.2 (all_held_less g.D.DescriptorDevice.meaning.set_name frees.sets s drained.0 old new (held g d) drained.1 frees.returns.back.returned);
        meant = c.requires.ready.meant;
      };
      allocator = c.free_from.ensures.keeps;
      layouts = search rules;
      count = search rules;
      no_gaps = λ h. subst HasNoGaps (sym frees.returns.back.state) (none_freed (items_of g.D.DescriptorDevice.meaning.set_name frees.sets) old c.requires.ready.agree.books h);
    }

pub invariant_of-self-2 : goal.invariant_of-self-2
invariant_of-self-2 g c = grind (arith, common_steps, fewer_held, slots_are)
