use Rattle.descriptor_table.proofs.Common.{◌≡◌, ◌<◌, ◌∙◌, [], ◌∷◌, ◌++◌, ap, arith, refl, sym, subst, length, last_or, None, Some, frame_at, nexts_in, places_in, slots_in}
use Rattle.std.proofs.lemmas.List.{append_assoc, length-append}
use Rattle.descriptor_table.proofs.Counting.{Leads, after_other, cut_at, last_append, walk_leads, walk_length, walk_next}
use Rattle.descriptor_table.proofs.Waiting.{found_after, found_first, found_last}
use Rattle.descriptor_table.proofs.set_table.queue.earlier_place.Goals as goal

pub returns-in_default : goal.returns-in_default
returns-in_default g c = found_first (slots_in c.args.slots.now) _ c.args.frame c.requires.rises (λ p rest is. subst (λ p. c.args.frame < frame_at (slots_in c.args.slots.now) p) (sym (subst (Leads (nexts_in c.args.slots.now) c.args.queue.list.first) is (walk_leads c.args.queue.list.count (nexts_in c.args.slots.now) c.args.queue.list.first)).0) (c.in_default.ensures.none refl))

pub loop-init : goal.loop-init
loop-init g c =
    let cut = cut_at c.in-Some.near (places_in (nexts_in c.args.slots.now) c.args.queue) c.in-Some.ensures.found.0 in
    record { at = (cut.0 ++ c.in-Some.near ∷ [], cut.1, cut.2 ∙ sym (append_assoc cut.0 (c.in-Some.near ∷ []) cut.1), last_append None cut.0 (c.in-Some.near ∷ []), omega (arith, length-append cut.0 (c.in-Some.near ∷ []))); below = c.in-Some.ensures.found.1 }

pub returns-then-near-queue : goal.returns-then-near-queue
returns-then-near-queue g c = found_last (slots_in c.args.slots.now) _ c.args.frame c.requires.rises c.loop.near c.args.queue.last (omega (arith, c.requires.some, walk_length c.args.queue.list.count (nexts_in c.args.slots.now) c.args.queue.list.first)) c.requires.ends c.if-near-queue.true c.loop.invariant.below

pub returns-then-frame_at-frame : goal.returns-then-frame_at-frame
returns-then-frame_at-frame g c =
    let at = c.loop.invariant.at in
    found_after (slots_in c.args.slots.now) _ c.args.frame c.requires.rises at.0 at.1 c.loop.near at.2 at.3 c.loop.invariant.below
    (λ p rest is. omega (arith, c.frame_at.ensures, c.if-frame_at-frame.true, ap (frame_at (slots_in c.args.slots.now)) (walk_next c.args.queue.list.count (nexts_in c.args.slots.now) c.args.queue.list.first c.loop.near p at.0 at.1 rest at.2 at.3 is ∙ sym c.next-next.ensures)))

pub loop-preserved : goal.loop-preserved
loop-preserved g c =
    let at = c.loop.invariant.at in
    let more = after_other at.0 at.1 c.loop.near c.args.queue.last at.3 (subst (λ l. last_or (Some c.args.queue.last) l ≡ Some c.args.queue.last) at.2 c.requires.ends) c.if-near-queue.false in
    let is : more.0 ≡ c.next-next.result = walk_next c.args.queue.list.count (nexts_in c.args.slots.now) c.args.queue.list.first c.loop.near more.0 at.0 at.1 more.1 at.2 at.3 more.2 ∙ sym c.next-next.ensures in
    record {
      at = (at.0 ++ more.0 ∷ [], more.1, at.2 ∙ ap (λ l. at.0 ++ l) more.2 ∙ sym (append_assoc at.0 (more.0 ∷ []) more.1), last_append None at.0 (more.0 ∷ []) ∙ ap Some is, omega (arith, at.4, length-append at.0 (more.0 ∷ [])));
      below = omega (arith, c.frame_at.ensures, c.if-frame_at-frame.false);
    }

pub returns : goal.returns
returns g c =
    let at = c.loop.invariant.at in
    found_after (slots_in c.args.slots.now) _ c.args.frame c.requires.rises at.0 at.1 c.loop.near at.2 at.3 c.loop.invariant.below
    (λ p rest is. absurd (omega (arith, at.4, c.loop-test.false, walk_length c.args.queue.list.count (nexts_in c.args.slots.now) c.args.queue.list.first, ap length at.2, length-append at.0 at.1, ap length is)))
