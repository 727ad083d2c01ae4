use Rattle.descriptor_table.proofs.Common.{common_steps, ℕ, ◌≡◌, arith, option_map, slot_at, slots_of, ids_of, subst}
use Rattle.descriptor_table.proofs.Renewing.{gives}
use Rattle.descriptor_table.proofs.Turning.{stays_more}
use Rattle.descriptor_table.proofs.set_table.SetTable.take_of.Goals as goal

pub returns : goal.returns
returns g c =
    let s = c.args.self.now in
    let pick = c.in_ok-place.ensures in
    let slot = slot_at (slots_of c.pick.new.self) c.in_ok-place.place in
    record {
      slots = gives _ (ids_of s) _ c.take_out.result _ _ _ pick.slots (grind (arith, common_steps, pick.slots.was)) (subst (λ (ids : ℕ → ℕ). c.take_out.result ≡ option_map (λ x. (ids slot.layout, x)) slot.set) pick.stays.ids c.take_out.ensures.set) c.take_out.ensures.changes.slots;
      stays = grind (arith, common_steps, stays_more);
    }
