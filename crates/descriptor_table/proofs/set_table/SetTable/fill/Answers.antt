use Rattle.descriptor_table.proofs.Common.{common_steps, places_in, last_up_to, frame_of, IsQueue, ◌∙◌, ap, get_or, waits, is_some, refl, sym, subst, rules, arith, length-set, set-set, chains_in, AreCounted, AreSound, slot_at, slots_in, layouts_of, removed_of, slots_of, users_in}
use Rattle.descriptor_table.proofs.Chains.{listed_out}
use Rattle.descriptor_table.proofs.Heads.{first, left_sound, more}
use Rattle.descriptor_table.proofs.Listed.{slot_set}
use Rattle.descriptor_table.proofs.Numbers.{few_users, moved_counted}
use Rattle.descriptor_table.proofs.Renewing.{vacant_is}
use Rattle.descriptor_table.proofs.set_table.SetTable.fill.Goals as goal

pub at-slot-requires : goal.at-slot-requires
at-slot-requires g c = let s = c.args.self.now in search (rules, first s 0 c.requires.some s.lists.vacant refl)

pub overflow_add-handle : goal.overflow_add-handle
overflow_add-handle g c = let s = c.args.self.now in grind (arith, common_steps, vacant_is, first s 0 c.requires.some s.lists.vacant refl)

pub pop-requires : goal.pop-requires
pop-requires g c = let s = c.args.self.now in more s 0 c.requires.some s.lists.vacant refl

pub fill-requires-clause-within : goal.fill-requires-clause-within
fill-requires-clause-within g c = let s = c.args.self.now in search (rules, first s 0 c.requires.some s.lists.vacant refl)

pub fill-requires-clause-empty : goal.fill-requires-clause-empty
fill-requires-clause-empty g c = let s = c.args.self.now in search (rules, vacant_is, first s 0 c.requires.some s.lists.vacant refl)

pub join-requires-clause-few : goal.join-requires-clause-few
join-requires-clause-few g c = let s = c.args.self.now in grind (arith, common_steps, vacant_is, first s 0 c.requires.some s.lists.vacant refl, few_users s c.args.layout c.requires.layout s.lists.vacant.first)

pub enqueue-requires-clause-within : goal.enqueue-requires-clause-within
enqueue-requires-clause-within g c = let s = c.args.self.now in search (rules, length-set, first s 0 c.requires.some s.lists.vacant refl)

pub enqueue-requires-clause-came : goal.enqueue-requires-clause-came
enqueue-requires-clause-came g c =
    let s = c.args.self.now in
    let was = (first s 0 c.requires.some s.lists.vacant refl).1 in
    let nexts = sym c.fill.ensures.nexts in
    (slots_of s, _, c.fill.ensures.writes.slots, refl, refl, listed_out 0 (slot_at (slots_of s) s.lists.vacant.first) was, subst (λ n. IsQueue (slots_of s) (places_in n s.waiting) s.waiting.last) nexts s.sound.queue, λ is. c.place_for-near.ensures is ∙ ap (λ n. last_up_to (slots_of s) (frame_of c.args.used) (places_in n s.waiting)) nexts)

pub invariant_of-self-clause-sound : goal.invariant_of-self-clause-sound
invariant_of-self-clause-sound g c =
    let s = c.args.self.now in
    subst (λ vacant. AreSound c.enqueue.new.slots (chains_in (record s.lists { vacant = vacant })) (layouts_of s) c.enqueue.new.queue s.keep) (sym c.pop.ensures)
    (left_sound s 0 c.requires.some s.lists.vacant refl c.enqueue.new.slots _ (c.enqueue.ensures.slots ∙ c.fill.ensures.writes.slots) c.at-slot.ensures.next
    (λ q out. c.enqueue.ensures.nexts q (ap (λ l. waits (slot_at l q)) c.fill.ensures.writes.slots ∙ out) ∙ ap (λ n. get_or n q 0) c.fill.ensures.nexts) c.requires.live c.requires.layout.within refl c.enqueue.ensures.queue)

pub invariant_of-self-clause-counted : goal.invariant_of-self-clause-counted
invariant_of-self-clause-counted g c =
    let s = c.args.self.now in
    let at = first s 0 c.requires.some s.lists.vacant refl in
    subst (λ l. AreCounted l (layouts_of s) (removed_of s) (users_in c.join.new.self)) (sym c.enqueue.ensures.slots) (subst (AreCounted (slots_in c.fill.new.self) (layouts_of s) (removed_of s)) (sym c.join.ensures.users) (moved_counted (slots_of s) (slots_in c.fill.new.self) (layouts_of s) (removed_of s) (users_in s.users) s.counted s.lists.vacant.first _ at.0 c.fill.ensures.writes.slots c.args.layout refl c.requires.layout.within (ap is_some (vacant_is (slot_at (slots_of s) s.lists.vacant.first) at.1).0)))

pub returns-clause-usable : goal.returns-clause-usable
returns-clause-usable g c = let s = c.args.self.now in search (rules, first s 0 c.requires.some s.lists.vacant refl)

pub returns-clause-renews : goal.returns-clause-renews
returns-clause-renews g c = let s = c.args.self.now in search (rules, set-set, slot_set, first s 0 c.requires.some s.lists.vacant refl)
