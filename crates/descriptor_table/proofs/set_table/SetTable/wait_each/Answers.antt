use Rattle.descriptor_table.proofs.Common.{common_steps, rules, last_up_to, slot_at, ◌≡◌, ◌<◌, ◌+◌, ◌∙◌, None, ℕ, refl, ap, subst, sym, arith, length, last_or, chains_in, layouts_of, nexts_in, places_in, removed_of, slots_in, users_in, IsQueue, Queue, Waits, refl, SlotList, AreCounted, SetTable}
use Rattle.descriptor_table.proofs.Chains.{nowhere_out, linked_still, unheld}
use Rattle.descriptor_table.proofs.Counting.{walk_length}
use Rattle.descriptor_table.proofs.Names.{names_last}
use Rattle.descriptor_table.proofs.Reusing.{Reused, reused_counted, reused_each, reused_known, reused_none, same_lists, same_places, took_sound}
use Rattle.descriptor_table.proofs.Waiting.{ComesAt, comes_few, comes_has, last_waits, still_near, still_rises}
use Rattle.descriptor_table.proofs.set_table.SetTable.wait_each.Goals.{In-Some-use_each, In_default-use_each}
use Rattle.descriptor_table.proofs.set_table.SetTable.wait_each.Goals as goal

pub place_before-near-requires-clause-last : goal.place_before-near-requires-clause-last
place_before-near-requires-clause-last g c = λ some. (last_waits c.args.self.now some).1

pub invariant_of-self-clause-sound : goal.invariant_of-self-clause-sound
invariant_of-self-clause-sound g c = let s = c.args.self.now in took_sound s.slots c.use_each.new.self (chains_in s.lists) (layouts_of s) s.waiting s.keep s.sound _ (reused_none _ _ (c.in_default-use_each.ensures.none refl)) c.use_each.ensures.nexts

pub invariant_of-self-clause-counted : goal.invariant_of-self-clause-counted
invariant_of-self-clause-counted g c = let s = c.args.self.now in subst (λ l. AreCounted l (layouts_of s) (removed_of s) (users_in s.users)) (sym (c.in_default-use_each.ensures.none refl)) s.counted

module _ (g : _) (c : In-Some-use_each g) where
  abbrev s : SetTable g.row.T.Denot
  s = c.args.self.now

  abbrev now : SlotList g.row.T.Denot
  now = c.use_each.new.self

  abbrev sets : Queue
  sets = record { list = record { first = c.in-Some-use_each.first; count = length c.args.names.now }; last = c.handle-last.result.place }

  -- the sets of the handles are those that come
  reused : Reused None (Waits c.args.frame) (places_in (nexts_in now) sets) (slots_in s.slots) (slots_in now)
  reused = (let e = c.in-Some-use_each.ensures in reused_each s.number (g.N.SetName.handles_of c.args.names.now) None (Waits c.args.frame) _ _ _ (e.once refl).0 (λ i lt. refl) (e.used refl) e.linked)

  comes : (q : ℕ) → ComesAt (slots_in s.slots) (slots_in now) (places_in (nexts_in now) sets) c.args.frame q
  comes q = grind (arith, common_steps, reused.each q, nowhere_out (slot_at (slots_in s.slots) q))

  -- the queue stays, so that they have the place in it that was found before
  same : places_in (nexts_in now) s.waiting ≡ places_in (nexts_in s.slots) s.waiting
  same = same_places None (Waits c.args.frame) (unheld (Waits c.args.frame) refl) s.slots now (chains_in s.lists) (layouts_of s) s.waiting s.keep s.sound _ reused c.use_each.ensures.nexts

  queue : IsQueue (slots_in s.slots) (places_in (nexts_in now) s.waiting) s.waiting.last
  queue = subst (λ l. IsQueue (slots_in s.slots) l s.waiting.last) (sym same) s.sound.queue

  few : s.waiting.list.count + length c.args.names.now < 4294967296
  few = omega (arith, walk_length s.waiting.list.count (nexts_in now) s.waiting.list.first, walk_length (length c.args.names.now) (nexts_in now) c.in-Some-use_each.first, comes_few _ _ _ _ s.waiting.last c.args.frame queue comes, reused.long, s.sound.size)

pub overflow_cast-count : goal.overflow_cast-count
overflow_cast-count g c = omega (arith, few g (goal.at.overflow_cast-count g c).In-Some-use_each)

pub insert-requires : goal.insert-requires
insert-requires g c =
    let e = (goal.at.insert-requires g c).In-Some-use_each in
    let near = still_near _ _ _ _ _ c.args.frame (queue g e) (comes g e) c.place_before-near.result (subst (λ l. c.place_before-near.result ≡ last_up_to (slots_in c.args.self.now.slots) c.args.frame l) (sym (same g e)) c.place_before-near.ensures) in
    record {
      place = (c.args.frame, near, λ p some. grind (arith, comes g e p));
      few = few g e;
      has = comes_has _ _ _ _ _ c.args.frame (queue g e) (comes g e);
      rises = still_rises _ _ _ _ _ c.args.frame (queue g e) (comes g e);
      ends = (queue g e).ends;
      sets = ap (last_or None) c.in-Some-use_each.ensures.linked ∙ names_last g.N.SetName g.met.N.SetName.each c.args.names.now c.in-Some.name.now c.handle-last.result c.in-Some.ensures.value c.handle-last.ensures;
    }

pub invariant_of-self-2-clause-counted : goal.invariant_of-self-2-clause-counted
invariant_of-self-2-clause-counted g c =
    let e = (goal.at.invariant_of-self-2-clause-counted g c).In-Some-use_each in
    let s = c.args.self.now in
    subst (λ l. AreCounted l (layouts_of s) (removed_of s) (users_in s.users)) (sym c.insert.ensures.slots) (reused_counted None (Waits c.args.frame) (unheld (Waits c.args.frame) refl) s.slots c.use_each.new.self (chains_in s.lists) (layouts_of s) s.waiting s.keep s.sound _ (reused g e) c.use_each.ensures.nexts (removed_of s) (users_in s.users) s.counted)

pub invariant_of-self-2-clause-sound : goal.invariant_of-self-2-clause-sound
invariant_of-self-2-clause-sound g c =
    let e = (goal.at.invariant_of-self-2-clause-sound g c).In-Some-use_each in
    let s = c.args.self.now in
    let now = c.use_each.new.self in
    let linked = linked_still (slots_in now) (nexts_in now) (chains_in s.lists) (λ (k : ℕ). same_lists None (Waits c.args.frame) (unheld (Waits c.args.frame) refl) s.slots now (chains_in s.lists) (layouts_of s) s.waiting s.keep s.sound _ (reused g e) c.use_each.ensures.nexts k (λ s may. refl)) (nexts_in c.insert.new.slots) c.insert.ensures.nexts in
    let known = reused_known None (Waits c.args.frame) (unheld (Waits c.args.frame) refl) s.slots now (chains_in s.lists) (layouts_of s) s.waiting s.keep s.sound _ (reused g e) c.use_each.ensures.nexts in
    search (rules, (reused g e).long, linked, known)
