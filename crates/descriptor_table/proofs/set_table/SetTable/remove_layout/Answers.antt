use Rattle.descriptor_table.proofs.Common.{true, ◌+◌, ◌∙◌, refl, subst, sym, arith, length-map, AreCounted, AreSound, is_kept_of, shown, layouts_of, removed_of, removed_as, slots_of, chains_in, users_in}
use Rattle.descriptor_table.proofs.Counts.{chain_counts, none_count}
use Rattle.descriptor_table.proofs.Entries.{in_place}
use Rattle.descriptor_table.proofs.Numbers.{relayout_counted, users_are}
use Rattle.descriptor_table.proofs.Sound.{emptied_sound}
use Rattle.descriptor_table.proofs.set_table.SetTable.remove_layout.Goals as goal

pub invariant_of-self-clause-sound : goal.invariant_of-self-clause-sound
invariant_of-self-clause-sound g c =
    let s = c.args.self.now in
    let n = c.args.layout in
    let none = chain_counts s (n + 2) ∙ none_count (is_kept_of n) (slots_of s) c.requires.none_kept in
    in_place (λ chains layouts. AreSound s.slots chains layouts s.waiting s.keep) _ _ _ _ c.remove.ensures.chains c.remove.ensures.layouts
    (emptied_sound s.slots s.slots (chains_in s.lists) (layouts_of s) s.waiting s.keep s.sound (n + 2) _ none refl (omega (arith, length-map s.lists.kept.items shown, c.requires.layout.within)))

pub invariant_of-self-clause-counted : goal.invariant_of-self-clause-counted
invariant_of-self-clause-counted g c =
    let s = c.args.self.now in
    in_place (λ layouts removed. AreCounted (slots_of s) layouts removed (users_in c.leave.new.self)) _ _ _ _ c.remove.ensures.layouts c.remove.ensures.removed (subst (AreCounted (slots_of s) (layouts_of s) (removed_as true c.args.layout (removed_of s))) (sym c.leave.ensures.users) (relayout_counted s c.args.layout _ true c.requires.layout.within (omega (arith, users_are s c.args.layout c.requires.layout))))
