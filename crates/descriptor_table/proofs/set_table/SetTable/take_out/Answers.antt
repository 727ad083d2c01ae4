use Rattle.descriptor_table.proofs.Common.{common_steps, ◌∙◌, ◌<◌, refl, subst, sym, ap, arith, chains_in, AreCounted, AreSound, IsNowhere, Slot, slot_at, slots_in, layouts_of, removed_of, slots_of, vacated, users_in}
use Rattle.descriptor_table.proofs.Numbers.{moved_counted, set_user}
use Rattle.descriptor_table.proofs.Writing.{few_more, front_sound}
use Rattle.descriptor_table.proofs.set_table.SetTable.take_out.Goals as goal

pub leave-id-requires-clause-some : goal.leave-id-requires-clause-some
leave-id-requires-clause-some g c = let s = c.args.self.now in grind (arith, common_steps, set_user s c.args.place)

pub push-requires : goal.push-requires
push-requires g c =
    let s = c.args.self.now in
    omega (arith, few_more s 0 c.args.place (vacated (slot_at (slots_of s) c.args.place)) c.requires.taken.within (subst IsNowhere (sym c.requires.taken.taken) tt) (grind (arith, common_steps)))

pub invariant_of-self-2-clause-sound : goal.invariant_of-self-2-clause-sound
invariant_of-self-2-clause-sound g c =
    let s = c.args.self.now in
    subst (λ vacant. AreSound c.vacate-set.new.self (chains_in (record s.lists { vacant = vacant })) (layouts_of s) s.waiting s.keep) (sym c.push.ensures)
    (front_sound s 0 c.args.place (vacated (slot_at (slots_of s) c.args.place)) c.requires.taken.within (subst IsNowhere (sym c.requires.taken.taken) tt) (grind (arith, common_steps)) c.vacate-set.new.self c.vacate-set.ensures.writes.slots (omega arith) refl (λ two. absurd (omega arith)) c.vacate-set.ensures.nexts)

pub invariant_of-self-2-clause-counted : goal.invariant_of-self-2-clause-counted
invariant_of-self-2-clause-counted g c =
    let s = c.args.self.now in
    let layout = ap (λ (s : Slot g.row.T.Denot). s.layout) (sym c.at-slot.ensures.slot) ∙ sym c.layout.ensures in
    subst (AreCounted (slots_in c.vacate-set.new.self) (layouts_of s) (removed_of s)) (sym c.leave-id.ensures.users)
    (moved_counted (slots_of s) (slots_in c.vacate-set.new.self) (layouts_of s) (removed_of s) (users_in s.users) s.counted c.args.place _ c.requires.taken.within c.vacate-set.ensures.writes.slots c.layout.result layout (subst (λ n. n < layouts_of s) layout (s.sound.known c.args.place c.requires.taken.within).there) c.requires.taken.full)
