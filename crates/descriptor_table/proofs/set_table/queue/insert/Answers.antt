use Rattle.descriptor_table.proofs.Common.{common_steps, ◌≡◌, ◌≢◌, ◌<◌, ◌≤◌, ◌+◌, ◌++◌, ◌∙◌, List, ℕ, Some, ap, arith, rules, get_or, length, refl, set, subst, sym, times, last_or, get_or-set_other, nexts_in, places_in, slots_in, waits, walk, Queue, IsQueue, frame_at, IsNonDecreasingBy}
use Rattle.std.proofs.lemmas.List.{length-append, set-get_or}
use Rattle.descriptor_table.proofs.Counting.{Leads, after_last, after_other, last_between, last_in, leads_past, leads_walk, none_before, put_after, put_first, rises_between, times_append, walk_leads, walk_length}
use Rattle.descriptor_table.proofs.Listed.{bit, test_within}
use Rattle.descriptor_table.proofs.Sound.{same_long}
use Rattle.descriptor_table.proofs.Waiting.{Found, comes_found}
use Rattle.descriptor_table.proofs.set_table.queue.insert.Goals.{Start, in-Some, then-near-queue, else-near-queue, in-None+then-queue-eq0, in-None+else-queue-eq0}
use Rattle.descriptor_table.proofs.set_table.queue.insert.Goals as goal

module _ (g : _) (c : Start g) where
  abbrev next : List ℕ
  next = nexts_in c.args.slots.now

  abbrev coming : List ℕ
  coming = places_in next c.args.sets

  -- what waits up to the frame, and then the rest
  abbrev found : Found (slots_in c.args.slots.now) (places_in next c.args.queue.now) c.requires.place.0 c.requires.rises c.args.near
  found = comes_found (slots_in c.args.slots.now) (places_in next c.args.queue.now) c.requires.place.0 c.requires.rises c.args.near c.requires.place.1

  -- each of both is there
  there : (p : ℕ) → times p (places_in next c.args.queue.now) + times p coming ≢ 0 → p < length (slots_in c.args.slots.now)
  there p some = test_within waits (slots_in c.args.slots.now) p refl (grind (arith, common_steps, times_append p (places_in next c.args.queue.now) coming, c.requires.has p))

  end_there : c.args.sets.last < length (slots_in c.args.slots.now)
  end_there = there c.args.sets.last (λ none. last_in c.args.sets.last coming c.requires.sets (omega (arith, none)))

  near_there : (p : ℕ) → c.args.near ≡ Some p → p < length (slots_in c.args.slots.now)
  near_there p is = there p (λ none. last_in p found.0 (found.3 ∙ is) (omega (arith, none, ap (times p) found.2, times_append p found.0 found.1)))

  few : (p : ℕ) → times p found.0 + times p found.1 + times p coming ≤ 1
  few p = grind (arith, common_steps, c.requires.has p, times_append p (places_in next c.args.queue.now) coming, ap (times p) found.2, times_append p found.0 found.1)

  -- the queue that comes out, by these nexts
  made : (q q' : Queue) (nexts nexts' : List ℕ) → q' ≡ q → nexts' ≡ nexts → q.list.count ≡ c.args.queue.now.list.count → Leads nexts q.list.first (found.0 ++ (coming ++ found.1)) → (length found.1 ≡ 0 → q.last ≡ c.args.sets.last) → (length found.1 ≢ 0 → q.last ≡ c.args.queue.now.last) → IsQueue (slots_in c.args.slots.now) (walk (q'.list.count + c.args.sets.list.count) nexts' q'.list.first) q'.last
  made q q' nexts nexts' same nexts_same count goes none some =
      let total : length (found.0 ++ (coming ++ found.1)) ≡ q.list.count + c.args.sets.list.count = omega (arith, count, ap length found.2, length-append found.0 found.1, walk_length c.args.queue.now.list.count next c.args.queue.now.list.first, length-append found.0 (coming ++ found.1), length-append coming found.1, walk_length c.args.sets.list.count next c.args.sets.list.first) in
      subst (λ q. IsQueue (slots_in c.args.slots.now) (walk (q.list.count + c.args.sets.list.count) nexts' q.list.first) q.last) (sym same)
      (subst (λ l. IsQueue (slots_in c.args.slots.now) l q.last) (sym ((λ i. walk (sym total i) (nexts_same i) q.list.first) ∙ leads_walk (found.0 ++ (coming ++ found.1)) nexts q.list.first goes)) (record {
        has = λ p. omega (arith, c.requires.has p, times_append p (places_in next c.args.queue.now) coming, ap (times p) found.2, times_append p found.0 found.1, times_append p found.0 (coming ++ found.1), times_append p coming found.1);
        rises = rises_between (frame_at (slots_in c.args.slots.now)) c.requires.place.0 found.0 coming found.1 (subst (IsNonDecreasingBy (frame_at (slots_in c.args.slots.now))) found.2 c.requires.rises) found.4 found.5 c.requires.place.2;
        ends = last_between found.0 coming found.1 c.args.queue.now.last c.args.sets.last q.last (subst (λ l. last_or (Some c.args.queue.now.last) l ≡ Some c.args.queue.now.last) found.2 c.requires.ends) c.requires.sets none some;
      }))

pub at-requires : goal.at-requires
at-requires g c = let s = (goal.at.at-requires g c).Start in omega (arith, near_there g s c.in-Some.near c.in-Some.is)

pub set_next-requires : goal.set_next-requires
set_next-requires g c = let s = (goal.at.set_next-requires g c).Start in omega (arith, end_there g s)

pub set_next-requires-in-Some : goal.set_next-requires-in-Some
set_next-requires-in-Some g c = let s = (goal.at.set_next-requires-in-Some g c).Start in search (rules, near_there g s)

pub set_next-requires-in-None : goal.set_next-requires-in-None
set_next-requires-in-None g c = let s = (goal.at.set_next-requires-in-None g c).Start in omega (arith, end_there g s)

pub returns-clause-queue : goal.returns-clause-queue
returns-clause-queue g c =
    let s = (goal.at.returns-clause-queue g c).Start in
    let next = nexts_in c.args.slots.now in
    let place = found g s in
    let end = c.args.queue.now.last in
    let ends = subst (λ l. last_or (Some end) l ≡ Some end) place.2 c.requires.ends in
    let long : length place.0 + length place.1 ≡ c.args.queue.now.list.count = omega (arith, ap length place.2, length-append place.0 place.1, walk_length c.args.queue.now.list.count next c.args.queue.now.list.first) in
    let leads = subst (Leads next c.args.queue.now.list.first) place.2 (walk_leads c.args.queue.now.list.count next c.args.queue.now.list.first) in
    let sets = walk_leads c.args.sets.list.count next c.args.sets.list.first in
    let inside : c.args.sets.last < length next = omega (arith, end_there g s, same_long c.args.slots.now) in
    let first = put_first next place.0 (coming g s) place.1 c.args.queue.now.list.first c.args.sets.list.first c.args.sets.last leads sets c.requires.sets (few g s) inside in
    let near = put_after next place.0 (coming g s) place.1 c.args.queue.now.list.first c.args.sets.list.first c.args.sets.last leads sets c.requires.sets (few g s) inside in
    elim c.match-near.branch [
      | in-Some w ↦ (
          let at = place.3 ∙ w.in-Some.is in
          let nexts = ap nexts_in w.slots-is ∙ w.set_next-in-Some.ensures.nexts in
          let there = near_there g s w.in-Some.near w.in-Some.is in
          let put = λ (past : ℕ). near w.in-Some.near past at (omega (arith, there, same_long c.args.slots.now)) in
          elim w.if-near-queue.branch [
            | then-near-queue v ↦ (
                let none = after_last place.0 place.1 end (at ∙ ap Some v.if-near-queue.true) ends (omega (arith, few g s end, times_append end place.0 place.1)) in
                made g s _ _ _ _ (w.queue-is ∙ v.queue-is) (nexts ∙ ap (λ l. set l w.in-Some.near c.args.sets.list.first) (ap nexts_in v.slots-is ∙ sym (set-get_or next c.args.sets.last 0))) refl
                (put (get_or next c.args.sets.last 0) (subst (Leads next (get_or next c.args.sets.last 0)) (sym none) tt)) (λ e. refl) (λ some. absurd (some (ap length none)))
                )
            | else-near-queue v ↦ made g s _ _ _ _ (w.queue-is ∙ v.queue-is) (nexts ∙ ap (λ l. set l w.in-Some.near c.args.sets.list.first) (ap nexts_in v.slots-is ∙ v.set_next.ensures.nexts ∙ ap (set next c.args.sets.last) v.at.ensures.next)) refl
                (put _ (leads_past place.0 place.1 next c.args.queue.now.list.first w.in-Some.near leads at)) (λ none. absurd (omega (arith, none, ap length (after_other place.0 place.1 w.in-Some.near end at ends v.if-near-queue.false).2))) (λ e. refl)
          ]
          )
      | in-None+then-queue-eq0 w ↦ made g s _ _ _ _ w.queue-is (ap nexts_in w.slots-is ∙ w.set_next-in-None.ensures.nexts) refl (first (place.3 ∙ w.in-None.is)) (λ e. refl) (λ some. absurd (some (omega (arith, long, w.if-queue-eq0.true))))
      | in-None+else-queue-eq0 w ↦ made g s _ _ _ _ w.queue-is (ap nexts_in w.slots-is ∙ w.set_next-in-None.ensures.nexts) refl (first (place.3 ∙ w.in-None.is)) (λ none. absurd (w.if-queue-eq0.false (omega (arith, long, none, ap length (none_before place.0 (place.3 ∙ w.in-None.is)))))) (λ e. refl)
    ]

pub returns-clause-nexts : goal.returns-clause-nexts
returns-clause-nexts g c = λ p out. (
    let cut = found g (goal.at.returns-clause-nexts g c).Start in
    let next = nexts_in c.args.slots.now in
    let none = c.requires.has p ∙ ap bit out in
    let both = times_append p (places_in next c.args.queue.now) (places_in next c.args.sets) in
    let end : p ≢ c.args.sets.last = λ e. last_in p (places_in next c.args.sets) (c.requires.sets ∙ ap Some (sym e)) (omega (arith, none, both)) in
    let near : Some p ≢ c.args.near = λ e. last_in p cut.0 (cut.3 ∙ sym e) (omega (arith, none, both, ap (times p) cut.2, times_append p cut.0 cut.1)) in
    search (rules, get_or-set_other)
    )
