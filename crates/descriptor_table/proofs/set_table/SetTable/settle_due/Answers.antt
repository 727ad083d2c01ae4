use Rattle.descriptor_table.proofs.Common.{common_steps, ap, ◌∙◌, Settings, ◌≡◌, ℕ, false, rules, arith, is_due, is_in, slot_at, IsBack, removed_of, next_use, slots_of, used_for, Going, Taken}
use Rattle.descriptor_table.proofs.Turning.{settled_grows, settled_here, settled_set, stays_more, turn_step}
use Rattle.descriptor_table.proofs.Listed.{bit, with_use}
use Rattle.descriptor_table.proofs.Counts.{count_set}
use Rattle.descriptor_table.proofs.set_table.SetTable.settle_due.Goals.{After-settle}
use Rattle.descriptor_table.proofs.set_table.SetTable.settle_due.Goals as goal

-- the set that was picked settled
settled : (g : _) (c : After-settle g) → slots_of c.settle.new.self ≡ with_use c.in-Some.place (next_use (removed_of c.args.self.now) c.args.self.now.keep (slots_of c.pick_due.new.self) c.in-Some.place) (slots_of c.pick_due.new.self)
settled g c = let same = (stays_more _ _ _ c.loop-place.invariant.stays c.in-Some.ensures.stays).settings in c.settle.ensures.slots ∙ ap (λ (s : Settings). with_use c.in-Some.place (next_use s.removed s.keep (slots_of c.pick_due.new.self) c.in-Some.place) (slots_of c.pick_due.new.self)) same

pub loop-place-preserved : goal.loop-place-preserved
loop-place-preserved g c =
    let inv = c.loop-place.invariant in
    let picks = c.in-Some.ensures.slots in
    let removed = removed_of c.args.self.now in
    let max = c.args.self.now.keep in
    let now = slots_of c.loop-place.self in
    let mid = slots_of c.pick_due.new.self in
    let new = slots_of c.settle.new.self in
    let p = c.in-Some.place in
    let is = settled g (goal.at.loop-place-preserved g c).After-settle in
    let out : (k : ℕ) → is_in k (slot_at now p) ≡ false = search rules in
    record {
      turning =
          turn_step (is_due c.args.frame) (IsBack (used_for Going) removed max) (slots_of c.args.self.now) now new p
          (used_for (next_use removed max mid p) (slot_at now p)) inv.turning picks.within picks.was
          (settled_set removed max now mid new p picks.within out Taken tt picks.slots is)
          (settled_grows removed max now mid new p picks.within out Taken tt picks.slots is)
          (λ o n back. grind (arith, common_steps))
          (settled_here removed max now mid new p picks.within out Taken tt picks.slots is);
      stays = stays_more c.args.self.now c.loop-place.self c.settle.new.self inv.stays (stays_more c.loop-place.self c.pick_due.new.self c.settle.new.self c.in-Some.ensures.stays c.settle.ensures.stays);
    }

pub loop-place-smaller : goal.loop-place-smaller
loop-place-smaller g c =
    let picks = c.in-Some.ensures.slots in
    let removed = removed_of c.args.self.now in
    let max = c.args.self.now.keep in
    let now = slots_of c.loop-place.self in
    let mid = slots_of c.pick_due.new.self in
    let p = c.in-Some.place in
    let is = settled g (goal.at.loop-place-smaller g c).After-settle in
    let out : (k : ℕ) → is_in k (slot_at now p) ≡ false = search rules in
    let gone = settled_here removed max now mid _ p picks.within out Taken tt picks.slots is in
    grind (arith, common_steps, bit, gone, count_set (is_due c.args.frame) now p (used_for (next_use removed max mid p) (slot_at now p)) picks.within, settled_set removed max now mid _ p picks.within out Taken tt picks.slots is)
