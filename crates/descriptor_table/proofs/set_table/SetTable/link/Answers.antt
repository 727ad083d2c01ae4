use Rattle.descriptor_table.proofs.Common.{◌∙◌, refl, ap, set, arith, list_of, AreSound, nexts_in, slot_at, slots_in, slots_of, used_for}
use Rattle.descriptor_table.proofs.Counts.{chain_counts}
use Rattle.descriptor_table.proofs.Entries.{in_place}
use Rattle.descriptor_table.proofs.Numbers.{list_counted}
use Rattle.descriptor_table.proofs.Relisted.{group_within}
use Rattle.descriptor_table.proofs.Writing.{few_more, front_sound}
use Rattle.descriptor_table.proofs.set_table.SetTable.link.Goals as goal

pub push-requires-clause-few : goal.push-requires-clause-few
push-requires-clause-few g c = let s = c.args.self.now in few_more s (list_of c.args.group) c.args.place (used_for c.args.used (slot_at (slots_of s) c.args.place)) c.requires.within c.requires.idle c.requires.goes

pub invariant_of-self-clause-sound : goal.invariant_of-self-clause-sound
invariant_of-self-clause-sound g c =
    let s = c.args.self.now in
    let k = list_of c.args.group in
    in_place (λ chains layouts. AreSound c.link.new.self chains layouts s.waiting s.keep) _ _ _ _ c.push.ensures.chains c.push.ensures.layouts
    (front_sound s k c.args.place (used_for c.args.used (slot_at (slots_of s) c.args.place)) c.requires.within c.requires.idle c.requires.goes c.link.new.self c.link.ensures.writes.slots (group_within s.lists c.args.group c.requires.there) refl
    (λ two. (let few = c.requires.few two in omega (arith, chain_counts s k))) (c.link.ensures.nexts ∙ ap (set (nexts_in s.slots) c.args.place) c.first.ensures))

pub invariant_of-self-clause-counted : goal.invariant_of-self-clause-counted
invariant_of-self-clause-counted g c = list_counted c.args.self.now (slots_in c.link.new.self) c.args.place _ c.link.ensures.writes.slots c.requires.within refl refl (list_of c.args.group) _ c.push.new.self c.push.ensures
