use Rattle.descriptor_table.proofs.Common.{common_steps, ap, count, is_set_of, slots_of, refl, arith, get_or-append_seam, set-append_seam, no_slot, layouts_of, chains_in, Taken}
use Rattle.descriptor_table.proofs.Chains.{unheld}
use Rattle.descriptor_table.proofs.Growing.{count_grown}
use Rattle.descriptor_table.proofs.Sound.{push_sound}
use Rattle.descriptor_table.proofs.set_table.SetTable.add_place.Goals as goal

pub invariant_of-self-clause-sound : goal.invariant_of-self-clause-sound
invariant_of-self-clause-sound g c =
    let s = c.args.self.now in
    let few = c.requires.room.few in
    push_sound s.slots c.push.new.self (chains_in s.lists) (layouts_of s) s.waiting s.keep s.sound no_slot refl c.push.ensures.slots c.push.ensures.nexts (record { there = c.requires.layouts; full = unheld Taken refl }) (omega arith)

pub invariant_of-self-clause-counted : goal.invariant_of-self-clause-counted
invariant_of-self-clause-counted g c = let t = c.args.self.now in record { long = t.counted.long; each = λ n lt. omega (arith, t.counted.each n lt, ap (count (is_set_of n)) c.push.ensures.slots, count_grown (is_set_of n) (slots_of t) no_slot) }

pub returns : goal.returns
returns g c = grind (arith, common_steps, set-append_seam, get_or-append_seam)
