use Rattle.descriptor_manager.proofs.Common.{common_steps, ◌≡◌, true, is_some, inl, inr, refl, sym, ap, ◌∙◌, arith, rules, length, length-set, SetLayout, cases_eq, Slot, slot_at, Settings, vacated, none_count, names_kept, other_slots, slot_set, test_within, layout_slots}
use Rattle.descriptor_manager.proofs.Common.{layouts_by, NoneComes, removed_in, side_of, slots_in, seen}
use Rattle.descriptor_manager.proofs.Back.{kept_out}
use Rattle.descriptor_manager.proofs.Naming.{kept_as, quiet_shown, turned}
use Rattle.descriptor_manager.proofs.Owned.{layout_here, sets_as, if_here, if_other}
use Rattle.descriptor_manager.proofs.manager.SetManager.remove_layout.Goals.{After-place}
use Rattle.descriptor_manager.proofs.manager.SetManager.remove_layout.Goals as goal

-- the layout is there, and leaves its slot
gone : (g : _) (c : After-place g) → slot_at (layout_slots c.remove.new.self) c.place.result ≡ vacated (slot_at (layout_slots c.args.self.now.layouts) c.place.result)
gone g c = let within = test_within (λ s. is_some s.set) (layout_slots c.args.self.now.layouts) c.place.result refl (ap is_some (layout_here c.args.self.now.layouts c.args.layout c.in-Some.removed c.place.result c.place.ensures (sym c.in-Some.ensures.layout))) in grind (arith, common_steps, slot_set)

pub invariant_of-self-clause-sets : goal.invariant_of-self-clause-sets
invariant_of-self-clause-sets g c =
    let old = c.args.self.now in
    let place = c.place.result in
    let settles = c.remove_layout.ensures.settles in
    let s = settles.stays.settings in
    let d = (goal.at.invariant_of-self-clause-sets g c).After-place in
    sets_as NoneComes (layout_slots old.layouts) (layout_slots c.remove.new.self) old.manager old.store c.remove_layout.new.self settles.sets settles.rest (λ n x known none at. absurd none)
    (λ n. elim (cases_eq n place) [
      | inl e ↦ inr (inr (ap (λ (s : Settings). s.removed n) s ∙ if_here n place true (removed_in old.store n) e, ap (λ n. (slot_at (layout_slots c.remove.new.self) n).set) e ∙ ap (λ (s : Slot (SetLayout _)). s.set) (gone g d)))
      | inr ne ↦ inl (grind (arith, common_steps, other_slots), ap (λ (s : Settings). s.removed n) s ∙ if_other n place true (removed_in old.store n) ne)
    ])
    (ap (λ (s : Settings). s.layouts) s ∙ old.sets.numbers ∙ sym (ap length (c.in-Some.ensures.slots refl) ∙ length-set _ _ _)) (ap (λ (s : Settings). s.number) s) old.sets

pub returns-in-Some-clause-none_kept : goal.returns-in-Some-clause-none_kept
returns-in-Some-clause-none_kept g c = grind (arith, common_steps, none_count, kept_out)

pub returns-in-Some-clause-names : goal.returns-in-Some-clause-names
returns-in-Some-clause-names g c = names_kept _ _ _ _ _ (turned _ _ _ _ _ _ c.remove_layout.ensures.removes.turns (λ o n kept gone. search (rules, kept_as, quiet_shown)))

-- the handle lost its layout, and no other handle did
pub returns-in-Some-clause-rest : goal.returns-in-Some-clause-rest
returns-in-Some-clause-rest g c = let new = c.remove_layout.new.self in let stays = c.remove_layout.ensures.settles.stays in λ i. record (seen c.args.self.now) { layouts = λ h. (layouts_by c.remove.new.self).set h.slot; given = λ h. (c.in-Some.ensures.names refl).given h.slot i; slots = slots_in new; has_layout = λ n. is_some (slot_at (layout_slots c.remove.new.self) n).set; keep = (stays.settings i).keep; side = side_of new; pools_besides = stays.besides i; limit = stays.limit i; bound = stays.bound i }
