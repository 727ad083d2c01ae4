use Rattle.descriptor_manager.proofs.Common.{◌≡◌, ℕ, ◌<◌, ◌++◌, ◌∙◌, true, length, refl, sym, ap, subst, arith, rules, get_or_append_left, length-append, AreSetsOf, passed, is_kept_of, slot_at, place_at, SetHandle, Held, handles_both, handles_long, ComesOf, HoldEach, NoneComes, kept_of, slots_in}
use Rattle.descriptor_manager.proofs.Requests.{Brings, brought, from_asked, still_all_of, from_refused}
use Rattle.descriptor_manager.proofs.Joining.{held_stays, holds_after, joined, all_of_after, layout_stays, stays_then, fit_both}
use Rattle.descriptor_manager.proofs.store.Store.allocate_with_new.Goals.{After-hold_coming}
use Rattle.descriptor_manager.proofs.store.Store.allocate_with_new.Goals as goal

brings : (g : _) (c : After-hold_coming g) → Brings c.args.known.now.layout c.args.layout (length c.args.names.now) c.args.self.now c.bring.new.self
brings g c = brought c.args.known.now.layout c.args.layout (length c.args.names.now) c.args.self.now c.bring.new.self c.requires.short c.in_ok-bring.ensures.asks

-- the handles of kept sets, and of those that came
both : (g : _) (c : After-hold_coming g) → g.N.SetName.handles_of (c.hold_kept.new.names ++ c.hold_coming.new.names) ≡ g.N.SetName.handles_of c.hold_kept.new.names ++ g.N.SetName.handles_of c.hold_coming.new.names
both g c = handles_both g.N.SetName g.met.N.SetName.each c.hold_kept.new.names c.hold_coming.new.names

all_held : (g : _) (c : After-hold_coming g) → HoldEach c.bring.new.self.table.number c.args.layout Held (g.N.SetName.handles_of (c.hold_kept.new.names ++ c.hold_coming.new.names)) (slots_in c.bring.new.self) (slots_in c.hold_coming.new.self)
all_held g c = search (rules, both, held_stays, joined)

-- the kept ones have the first handles
first : (g : _) (c : After-hold_coming g) (i : ℕ) → i < length (g.N.SetName.handles_of (c.hold_kept.new.names ++ c.hold_coming.new.names)) → i < kept_of c.args.layout c.bring.new.self → is_kept_of c.args.layout (slot_at (slots_in c.bring.new.self) (place_at (g.N.SetName.handles_of (c.hold_kept.new.names ++ c.hold_coming.new.names)) i)) ≡ true
first g c i lt some =
    let a = g.N.SetName.handles_of c.hold_kept.new.names in
    let b = g.N.SetName.handles_of c.hold_coming.new.names in
    let long = ap length (both g c) ∙ length-append a b in
    let names = handles_long g.N.SetName g.met.N.SetName.each c.hold_kept.new.names in
    let others = handles_long g.N.SetName g.met.N.SetName.each c.hold_coming.new.names in
    let less = (brings g c).besides i (omega arith) some in
    subst (λ p. is_kept_of c.args.layout (slot_at (slots_in c.bring.new.self) p) ≡ true)
    (sym (ap (λ l. place_at l i) (both g c) ∙ ap (λ (h : SetHandle). h.place) (get_or_append_left a b (record { manager = 0; place = 0; generation = 0 }) i (omega arith))))
    (c.hold_kept.ensures.were_kept i (omega arith))

pub hold_coming-requires-clause-layout : goal.hold_coming-requires-clause-layout
hold_coming-requires-clause-layout g c = layout_stays _ _ _ (stays_then _ _ _ c.bring.ensures.stays c.hold_kept.ensures.keeps.stays).settings c.requires.can.layout

pub hold_coming-requires-clause-known : goal.hold_coming-requires-clause-known
hold_coming-requires-clause-known g c =
    let d = g.D.DescriptorDevice in
    let known = c.args.known.now.layout in
    let brings = brought known c.args.layout (length c.args.names.now) c.args.self.now c.bring.new.self c.requires.short c.in_ok-bring.ensures.asks in (
      known,
      subst (AreSetsOf d.meaning known) (sym (ap (λ v. v.items) c.hold_kept.ensures.coming)) brings.own,
      all_of_after d.meaning known c.args.layout NoneComes _ _ (λ n x none. absurd none) c.hold_kept.ensures.keeps.sets (still_all_of _ _ _ _ _ brings c.requires.can.own),
    )

pub returns-in_err-bring-clause-requests : goal.returns-in_err-bring-clause-requests
returns-in_err-bring-clause-requests g c =
    let e = c.in_err-bring.ensures in
    rw (passed _ _ c.from_residual.ensures.1) (from_refused _ _ _ _ _ _ c.requires.can.rest c.requires.short _ _ c.bring.ensures.stays e.refused e.none)

pub returns-clause-requests : goal.returns-clause-requests
returns-clause-requests g c =
    let a = (goal.at.returns-clause-requests g c).After-hold_coming in
    let kept = c.hold_kept.ensures.keeps in
    let came = c.hold_coming.ensures.keeps c.args.known.now.layout (subst (AreSetsOf g.D.DescriptorDevice.meaning c.args.known.now.layout) (sym (ap (λ v. v.items) c.hold_kept.ensures.coming)) (brings g a).own) in
    from_asked _ _ _ _ _ c.bring.new.self c.requires.can.rest c.requires.short _ _ _ refl c.bring.ensures.stays c.in_ok-bring.ensures.asks
    (all_held g a) (first g a)
    (holds_after NoneComes (ComesOf g.D.DescriptorDevice.meaning c.args.known.now.layout c.args.layout) _ _ _ _ _ _ _ (λ n x none. absurd none) refl c.hold_coming.ensures.holds kept came)
    c.hold_coming.ensures.none

pub returns-clause-fit : goal.returns-clause-fit
returns-clause-fit g c = fit_both g.N.SetName g.met.N.SetName.each c.bring.new.self.table.number c.args.layout Held refl c.hold_kept.new.names c.hold_coming.new.names (slots_in c.bring.new.self) (slots_in c.hold_kept.new.self) (slots_in c.hold_coming.new.self) c.hold_kept.ensures.holds (held_stays c.args.layout Held (g.N.SetName.handles_of c.hold_coming.new.names) (slots_in c.hold_kept.new.self) (slots_in c.hold_coming.new.self) c.bring.new.self c.hold_kept.new.self c.hold_kept.ensures.keeps.stays c.hold_coming.ensures.holds) c.hold_kept.ensures.fit c.hold_coming.ensures.fit
