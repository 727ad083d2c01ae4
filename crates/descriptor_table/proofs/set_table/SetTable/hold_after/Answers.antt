use Rattle.descriptor_table.proofs.Common.{places_in, last_up_to, frame_of, IsQueue, subst, renewed, ap, get_or, waits, ◌≡◌, ◌∙◌, ◌+◌, ◌<◌, true, length, refl, sym, rules, arith, length-set, AreSound, chain_at, is_kept_of, slot_at, slots_in, slots_of, chains_in, KeptOf, Chain}
use Rattle.descriptor_table.proofs.Chains.{listed_out}
use Rattle.descriptor_table.proofs.Counts.{chain_short, group_has}
use Rattle.descriptor_table.proofs.Entries.{in_place}
use Rattle.descriptor_table.proofs.Heads.{first, left_sound, more}
use Rattle.descriptor_table.proofs.Listed.{slot_set}
use Rattle.descriptor_table.proofs.Numbers.{list_counted}
use Rattle.descriptor_table.proofs.Renewing.{kept_is}
use Rattle.descriptor_table.proofs.set_table.SetTable.hold_after.Goals.{After-first-place}
use Rattle.descriptor_table.proofs.set_table.SetTable.hold_after.Goals as goal

pub first-place-requires : goal.first-place-requires
first-place-requires g c = group_has c.args.self.now (KeptOf c.args.layout) c.requires.some

-- the list, by the slot that was read
abbrev list : (g : _) → After-first-place g → Chain
list g c = record { first = c.first-place.result; count = (chain_at (chains_in c.args.self.now.lists) (c.args.layout + 2)).count }

was : (g : _) (c : After-first-place g) → chain_at (chains_in c.args.self.now.lists) (c.args.layout + 2) ≡ list g c
was g c = λ i. record { first = sym c.first-place.ensures i; count = (chain_at (chains_in c.args.self.now.lists) (c.args.layout + 2)).count }

-- its first slot
at : (g : _) (c : After-first-place g) → (c.first-place.result < length (slots_of c.args.self.now)) × (is_kept_of c.args.layout (slot_at (slots_of c.args.self.now) c.first-place.result) ≡ true)
at g c = first c.args.self.now (c.args.layout + 2) c.requires.some (list g c) (was g c)

pub at-requires : goal.at-requires
at-requires g c = (at g (goal.at.at-requires g c).After-first-place).0

pub pop-requires-clause-there : goal.pop-requires-clause-there
pop-requires-clause-there g c = group_has c.args.self.now (KeptOf c.args.layout) c.requires.some

pub pop-requires-clause-some : goal.pop-requires-clause-some
pop-requires-clause-some g c = more c.args.self.now (c.args.layout + 2) c.requires.some _ refl

pub pop-requires-clause-few : goal.pop-requires-clause-few
pop-requires-clause-few g c = chain_short c.args.self.now (c.args.layout + 2)

pub renew-generation-requires-clause-within : goal.renew-generation-requires-clause-within
renew-generation-requires-clause-within g c = (at g (goal.at.renew-generation-requires-clause-within g c).After-first-place).0

pub renew-generation-requires-clause-next : goal.renew-generation-requires-clause-next
renew-generation-requires-clause-next g c = (kept_is (c.args.layout + 2) (slot_at (slots_of c.args.self.now) c.first-place.result) (omega arith) (at g (goal.at.renew-generation-requires-clause-next g c).After-first-place).1).0

pub at-requires-2 : goal.at-requires-2
at-requires-2 g c = search (rules, length-set, at g (goal.at.at-requires-2 g c).After-first-place)

-- it has a set
pub of-name-requires : goal.of-name-requires
of-name-requires g c = search (rules, kept_is, slot_set, at g (goal.at.of-name-requires g c).After-first-place)

pub enqueue-requires-clause-within : goal.enqueue-requires-clause-within
enqueue-requires-clause-within g c = search (rules, length-set, at g (goal.at.enqueue-requires-clause-within g c).After-first-place)

pub enqueue-requires-clause-came : goal.enqueue-requires-clause-came
enqueue-requires-clause-came g c =
    let s = c.args.self.now in
    let was = (at g (goal.at.enqueue-requires-clause-came g c).After-first-place).1 in
    let nexts = sym c.renew-generation.ensures.nexts in
    let k = c.args.layout + 2 in
    let full = (kept_is k (slot_at (slots_of s) c.first-place.result) (omega arith) was).1 in
    (slots_of s, renewed c.args.used (slot_at (slots_of s) c.first-place.result), c.renew-generation.ensures.writes.slots, refl, full, listed_out k (slot_at (slots_of s) c.first-place.result) was, subst (λ n. IsQueue (slots_of s) (places_in n s.waiting) s.waiting.last) nexts s.sound.queue, λ is. c.requires.near is ∙ ap (λ n. last_up_to (slots_of s) (frame_of c.args.used) (places_in n s.waiting)) nexts)

pub invariant_of-self-clause-sound : goal.invariant_of-self-clause-sound
invariant_of-self-clause-sound g c =
    let s = c.args.self.now in
    let k = c.args.layout + 2 in
    let a = (goal.at.invariant_of-self-clause-sound g c).After-first-place in
    let p = at g a in
    let full = (kept_is k (slot_at (slots_of s) c.first-place.result) (omega arith) p.1).1 in
    in_place (λ chains layouts. AreSound c.enqueue.new.slots chains layouts c.enqueue.new.queue s.keep) _ _ _ _ c.pop.ensures.chains c.pop.ensures.layouts
    (left_sound s k c.requires.some (list g a) (was g a) c.enqueue.new.slots _ (c.enqueue.ensures.slots ∙ c.renew-generation.ensures.writes.slots) c.at.ensures.next
    (λ q out. c.enqueue.ensures.nexts q (ap (λ l. waits (slot_at l q)) c.renew-generation.ensures.writes.slots ∙ out) ∙ ap (λ n. get_or n q 0) c.renew-generation.ensures.nexts) c.requires.live (s.sound.known c.first-place.result p.0).there full c.enqueue.ensures.queue)

pub invariant_of-self-clause-counted : goal.invariant_of-self-clause-counted
invariant_of-self-clause-counted g c = list_counted c.args.self.now (slots_in c.enqueue.new.slots) c.first-place.result _ (c.enqueue.ensures.slots ∙ c.renew-generation.ensures.writes.slots) (at g (goal.at.invariant_of-self-clause-counted g c).After-first-place).0 refl refl (c.args.layout + 2) _ c.pop.new.self c.pop.ensures

pub returns-clause-kept : goal.returns-clause-kept
returns-clause-kept g c = search (rules, at g (goal.at.returns-clause-kept g c).After-first-place)
