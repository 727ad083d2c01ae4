use Rattle.descriptor_table.proofs.Common.{refl, arith, slot_at, slots_in, slots_of, used_for, Going}
use Rattle.descriptor_table.proofs.Numbers.{slot_counted}
use Rattle.descriptor_table.proofs.Writing.{after_sound, few_more}
use Rattle.descriptor_table.proofs.set_table.SetTable.link_after.Goals as goal

pub overflow_add-self : goal.overflow_add-self
overflow_add-self g c = let s = c.args.self.now in omega (arith, few_more s 1 c.args.place (used_for Going (slot_at (slots_of s) c.args.place)) c.requires.within c.requires.idle c.requires.full)

pub invariant_of-self-clause-sound : goal.invariant_of-self-clause-sound
invariant_of-self-clause-sound g c = let s = c.args.self.now in after_sound s 1 c.args.place (used_for Going (slot_at (slots_of s) c.args.place)) c.requires.within c.requires.idle c.requires.full c.link_after.new.self c.link_after.ensures.writes.slots (omega arith) refl (λ two. absurd (omega arith)) c.args.near c.requires.near c.link_after.ensures.nexts

pub invariant_of-self-clause-counted : goal.invariant_of-self-clause-counted
invariant_of-self-clause-counted g c = slot_counted c.args.self.now (slots_in c.link_after.new.self) c.args.place _ c.link_after.ensures.writes.slots c.requires.within refl refl
