use Rattle.std.proofs.lemmas.Grind.{common_steps}
use Rattle.std.proofs.Common.{◌≡◌, ◌++◌, map, Some, length, slice_get, rules, sym, ap, ◌∙◌, arith}
use Rattle.std.proofs.lemmas.Option.{slice_get_read}
use Rattle.gpu_descriptor.specs.Caller.States.{state_of}
use Rattle.gpu_descriptor.proofs.NoGaps.{none_requested}
use Rattle.descriptor_script.specs.Inner.Slots.{HasSpareSlots}
use Rattle.descriptor_script.proofs.Held.{all_held_more, held_sum, is_ok_then}
use Rattle.descriptor_script.proofs.Promised.{cause_from_held}
use Rattle.descriptor_script.proofs.session.Session.allocate.Goals.{In-Some}
use Rattle.descriptor_script.proofs.session.Session.allocate.Goals as goal

at : (g : _) (c : In-Some g) → slice_get c.args.self.now.layouts.items c.args.layout ≡ Some c.in-Some.layout.now
at g c = grind (arith, common_steps, slice_get_read)

pub append-requires : goal.append-requires
append-requires g c =
    let reserve = is_ok_then c.reserve.result (HasSpareSlots c.args.count c.reserve.new.self) (sym c.is_err.ensures.value ∙ c.if-is_err.false) c.reserve.ensures.reserve in
    let many = c.in-Ok.ensures.hands_out.many in
    let sets = reserve.sets in
    let listed = reserve.listed in
    record { sets = omega arith; listed = omega arith }

pub returns-in-Ok-clause-step : goal.returns-in-Ok-clause-step
returns-in-Ok-clause-step g c = (
  record {
    known = c.in-Some.layout.now;
    at = at g (goal.at.returns-in-Ok-clause-step g c).In-Some;
    given = c.in-Ok.sets.items;
    asked = search rules;
    all_given = c.in-Ok.ensures.hands_out.many;
    own = c.in-Ok.ensures.own;
    next = c.next-first.ensures ∙ ap length c.reserve.ensures.sets;
    sets = c.append.ensures ∙ ap (λ l. l ++ map Some c.in-Ok.sets.items) c.reserve.ensures.sets;
  },
  c.in-Ok.ensures.hands_out.outcome,
)

pub returns-in-Ok-clause-keeps : goal.returns-in-Ok-clause-keeps
returns-in-Ok-clause-keeps g c = record {
  ready = record {
    agree = c.in-Ok.ensures.keeps.agree;
    held =
        rw (c.append.ensures, c.reserve.ensures.sets)
        (all_held_more g.D.DescriptorDevice.meaning.set_name c.args.self.now.slots.sets.items c.in-Ok.sets.items
        (state_of g.D.DescriptorDevice.meaning.pool_name c.args.self.now.allocator
        (g.D.DescriptorDevice.ledger c.args.device.now))
        (state_of g.D.DescriptorDevice.meaning.pool_name c.allocate_for.new.self
        (g.D.DescriptorDevice.ledger c.allocate_for.new.device))
        c.requires.ready.held c.in-Ok.ensures.hands_out.given);
    meant = c.requires.ready.meant;
  };
  allocator = c.in-Ok.ensures.keeps;
  layouts = search rules;
  count = search rules;
  no_gaps = none_requested _ c.requires.ready.agree.books c.in-Ok.ensures.hands_out.outcome;
}

pub returns-in-Err-clause-step : goal.returns-in-Err-clause-step
returns-in-Err-clause-step g c = (
  record {
    known = c.in-Some.layout.now;
    at = at g (goal.at.returns-in-Err-clause-step g c).In-Some;
    cause = cause_from_held g.D.DescriptorDevice.meaning _ c.requires.ready _ _ _ _ c.in-Err.ensures.hands_out.cause;
    sets = c.reserve.ensures.sets;
  },
  c.in-Err.ensures.hands_out.outcome,
)

pub returns-in-Err-clause-keeps : goal.returns-in-Err-clause-keeps
returns-in-Err-clause-keeps g c = record {
  ready = record { agree = c.in-Err.ensures.keeps.agree; held = rw c.reserve.ensures.sets (λ t. c.in-Err.ensures.hands_out.back t ∙ c.requires.ready.held t); meant = c.requires.ready.meant };
  allocator = c.in-Err.ensures.keeps;
  layouts = search rules;
  count = search rules;
  no_gaps = none_requested _ c.requires.ready.agree.books c.in-Err.ensures.hands_out.outcome;
}

pub invariant_of-self-in-Ok : goal.invariant_of-self-in-Ok
invariant_of-self-in-Ok g c = grind (arith, common_steps, held_sum)
