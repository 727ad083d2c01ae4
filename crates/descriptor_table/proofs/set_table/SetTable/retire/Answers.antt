use Rattle.descriptor_table.proofs.Common.{common_steps, ◌∙◌, ◌<◌, subst, sym, ap, arith, AreCounted, IsNowhere, Slot, slot_at, slots_in, layouts_of, removed_of, slots_of, vacated, chains_in, users_in}
use Rattle.descriptor_table.proofs.Chains.{nowhere_out}
use Rattle.descriptor_table.proofs.Numbers.{moved_counted, set_user}
use Rattle.descriptor_table.proofs.Sound.{out_sound}
use Rattle.descriptor_table.proofs.set_table.SetTable.retire.Goals as goal

pub leave-id-requires-clause-some : goal.leave-id-requires-clause-some
leave-id-requires-clause-some g c = let s = c.args.self.now in grind (arith, common_steps, set_user s c.args.place)

pub invariant_of-self-clause-sound : goal.invariant_of-self-clause-sound
invariant_of-self-clause-sound g c =
    let s = c.args.self.now in
    grind (arith, common_steps, out_sound s.slots c.vacate.new.self (chains_in s.lists) (layouts_of s) s.waiting s.keep s.sound c.args.place (vacated (slot_at (slots_in s.slots) c.args.place)), nowhere_out (slot_at (slots_of s) c.args.place) (subst IsNowhere (sym c.requires.taken.taken) tt))

pub invariant_of-self-clause-counted : goal.invariant_of-self-clause-counted
invariant_of-self-clause-counted g c =
    let s = c.args.self.now in
    let layout = ap (λ (s : Slot g.row.T.Denot). s.layout) (sym c.at-slot.ensures.slot) ∙ sym c.layout.ensures in
    subst (AreCounted (slots_in c.vacate.new.self) (layouts_of s) (removed_of s)) (sym c.leave-id.ensures.users)
    (moved_counted (slots_of s) (slots_in c.vacate.new.self) (layouts_of s) (removed_of s) (users_in s.users) s.counted c.args.place _ c.requires.taken.within c.vacate.ensures.writes.slots c.layout.result layout (subst (λ n. n < layouts_of s) layout (s.sound.known c.args.place c.requires.taken.within).there) c.requires.taken.full)
