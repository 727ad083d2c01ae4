use Rattle.descriptor_table.proofs.Common.{common_steps, refl, subst, sym, arith, chains_in, AreSound, IsNowhere, slot_at, slots_in, layouts_of, slots_of, used_for, Vacant}
use Rattle.descriptor_table.proofs.Numbers.{slot_counted}
use Rattle.descriptor_table.proofs.Writing.{few_more, front_sound}
use Rattle.descriptor_table.proofs.set_table.SetTable.link_vacant.Goals as goal

pub push-requires : goal.push-requires
push-requires g c =
    let s = c.args.self.now in
    omega (arith, few_more s 0 c.args.place (used_for Vacant (slot_at (slots_of s) c.args.place)) c.requires.within (subst IsNowhere (sym c.requires.taken) tt) (grind (arith, common_steps)))

pub invariant_of-self-clause-sound : goal.invariant_of-self-clause-sound
invariant_of-self-clause-sound g c =
    let s = c.args.self.now in
    subst (λ vacant. AreSound c.link.new.self (chains_in (record s.lists { vacant = vacant })) (layouts_of s) s.waiting s.keep) (sym c.push.ensures)
    (front_sound s 0 c.args.place (used_for Vacant (slot_at (slots_of s) c.args.place)) c.requires.within (subst IsNowhere (sym c.requires.taken) tt) (grind (arith, common_steps)) c.link.new.self c.link.ensures.writes.slots (omega arith) refl (λ two. absurd (omega arith)) c.link.ensures.nexts)

pub invariant_of-self-clause-counted : goal.invariant_of-self-clause-counted
invariant_of-self-clause-counted g c = slot_counted c.args.self.now (slots_in c.link.new.self) c.args.place _ c.link.ensures.writes.slots c.requires.within refl refl
