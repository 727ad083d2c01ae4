use Rattle.descriptor_manager.proofs.Common.{◌≡◌, ◌<◌, inl, inr, refl, sym, ap, ◌∙◌, subst, arith, Settings, is_usable, test_within, layout_slots, seen, slots_in}
use Rattle.std.specs.Prelude.{OnErr}
use Rattle.std.proofs.lemmas.Result.{on_err_weaker}
use Rattle.descriptor_manager.specs.Managers.{NoneFree}
use Rattle.descriptor_manager.proofs.Owned.{gone, layout_used, number_left, seen_kept, sets_renewed, sets_same}
use Rattle.descriptor_manager.proofs.manager.SetManager.add_layout.Goals.{in-Some+else-is_usable, in_default}
use Rattle.descriptor_manager.proofs.manager.SetManager.add_layout.Goals as goal

-- the number of a removed layout has another one
pub invariant_of-self-clause-sets : goal.invariant_of-self-clause-sets
invariant_of-self-clause-sets g c =
    let used = layout_used c.renew.new.self c.renew.result c.args.layout c.in-Some.number (sym c.renew.ensures.place) c.renew.ensures.added in
    sets_renewed c.args.self.now.store c.renew_layout.new.self c.in-Some.number c.in-Some.ensures.contents c.in-Some.ensures.renews c.renew.ensures.others used c.renew.ensures.long c.args.self.now.sets

pub returns-then-is_usable-clause-given : goal.returns-then-is_usable-clause-given
returns-then-is_usable-clause-given g c = c.renew.ensures.names.given 0 c.renew.result.slot (omega arith)

pub returns-then-is_usable-clause-never : goal.returns-then-is_usable-clause-never
returns-then-is_usable-clause-never g c = c.renew.ensures.names.never 0 c.renew.result.slot (omega arith)

-- a number whose last handle was given is lost
pub invariant_of-self-else-is_usable-clause-sets : goal.invariant_of-self-else-is_usable-clause-sets
invariant_of-self-else-is_usable-clause-sets g c = sets_renewed c.args.self.now.store c.renew_layout.new.self c.in-Some.number c.in-Some.ensures.contents c.in-Some.ensures.renews (λ n ne. refl) (sym c.is_usable.ensures.usable ∙ c.if-is_usable.false) refl c.args.self.now.sets

pub invariant_of-self-in_default-clause-sets : goal.invariant_of-self-in_default-clause-sets
invariant_of-self-in_default-clause-sets g c = sets_same c.args.self.now.store c.renew_layout.new.self c.renew_layout.ensures.contents (c.renew_layout.ensures.none (gone c.renew_layout.result c.in_default.not-Some)).1.settings refl c.args.self.now.sets

-- no number is free
none_free : (g : _) (c : goal.After-add_number g) → NoneFree (layout_slots c.args.self.now.layouts) (slots_in c.args.self.now.store)
none_free g c =
    let old = c.args.self.now in
    elim c.match-renew_layout.branch [
      | in-Some+else-is_usable w ↦ inr (w.in-Some.number, number_left _ _ _ w.in-Some.number w.in-Some.ensures.renews.removed old.sets, w.if-is_usable.ensures.last refl)
      | in_default w ↦
          let none = (c.renew_layout.ensures.none (gone c.renew_layout.result w.in_default.not-Some)).0 in
          inl (λ n usable. none n (subst (λ l. n < l) (sym old.sets.numbers) (test_within is_usable (layout_slots old.layouts) n refl usable)) (old.sets.free n usable))
    ]

pub returns-clause-grows : goal.returns-clause-grows
returns-clause-grows g c = inr (none_free g c)

pub returns-clause-full : goal.returns-clause-full
returns-clause-full g c = on_err_weaker c.add_number.result (λ same. none_free g c) c.add_number.ensures.stay

-- what is seen is as it was
seen_same : (g : _) (c : goal.After-add_number g) → seen c.match-renew_layout.self ≡ seen c.args.self.now
seen_same g c = elim c.match-renew_layout.branch [
  | in-Some+else-is_usable w ↦ ap seen w.self-is ∙ seen_kept c.args.self.now c.renew_layout.new.self c.renew_layout.ensures.contents (ap (λ (s : Settings). s.keep) w.in-Some.ensures.renews.only.settings)
  | in_default w ↦ ap seen w.self-is ∙ seen_kept c.args.self.now c.renew_layout.new.self c.renew_layout.ensures.contents (ap (λ (s : Settings). s.keep) (c.renew_layout.ensures.none (gone c.renew_layout.result w.in_default.not-Some)).1.settings)
]

pub returns-clause-stay : goal.returns-clause-stay
returns-clause-stay g c = subst (λ v. OnErr c.add_number.result (seen c.add_number.new.self ≡ v)) (seen_same g c) c.add_number.ensures.stay
