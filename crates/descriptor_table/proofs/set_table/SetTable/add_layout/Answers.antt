use Rattle.descriptor_table.proofs.Common.{◌+◌, sym, subst, AreCounted, AreSound, layouts_of, removed_of, slots_of, chains_in, users_in}
use Rattle.descriptor_table.proofs.Entries.{in_place}
use Rattle.descriptor_table.proofs.Numbers.{added_counted}
use Rattle.descriptor_table.proofs.Sound.{layout_sound}
use Rattle.descriptor_table.proofs.set_table.SetTable.add_layout.Goals as goal

pub invariant_of-self-clause-sound : goal.invariant_of-self-clause-sound
invariant_of-self-clause-sound g c =
    let s = c.args.self.now in
    in_place (λ chains layouts. AreSound s.slots chains layouts s.waiting s.keep) _ _ _ _ c.add.ensures.chains c.add.ensures.layouts
    (layout_sound s.slots s.slots (chains_in s.lists) (layouts_of s) s.waiting s.keep s.sound c.requires.room.few)

pub invariant_of-self-clause-counted : goal.invariant_of-self-clause-counted
invariant_of-self-clause-counted g c =
    let s = c.args.self.now in
    in_place (λ layouts removed. AreCounted (slots_of s) layouts removed (users_in c.add-2.new.self)) _ _ _ _ c.add.ensures.layouts c.add.ensures.removed (subst (AreCounted (slots_of s) (layouts_of s + 1) (removed_of s)) (sym c.add-2.ensures.users) (added_counted s))
