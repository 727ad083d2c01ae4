use Rattle.std.proofs.Common.{below_more, below_none}
use Rattle.std.proofs.lemmas.List.{nil_from_length}
use Rattle.descriptor_manager.proofs.Common.{common_steps, ◌≡◌, length, arith, passed}
use Rattle.descriptor_manager.proofs.Requests.{Brings, brought, from_asked, still_all_of, from_refused}
use Rattle.descriptor_manager.proofs.Joining.{layout_stays}
use Rattle.descriptor_manager.proofs.store.Store.allocate_new.Goals.{In_ok-bring}
use Rattle.descriptor_manager.proofs.store.Store.allocate_new.Goals as goal

-- one set is on its way
one : (g : _) (c : In_ok-bring g) → length c.bring.new.self.coming.items ≡ 1
one g c = grind (arith, common_steps)

brings : (g : _) (c : In_ok-bring g) → Brings c.args.known.now.layout c.args.layout 1 c.args.self.now c.bring.new.self
brings g c = brought c.args.known.now.layout c.args.layout 1 c.args.self.now c.bring.new.self c.requires.short c.in_ok-bring.ensures.asks

pub hold_last-requires-clause-layout : goal.hold_last-requires-clause-layout
hold_last-requires-clause-layout g c = layout_stays _ _ _ c.bring.ensures.stays.settings c.requires.can.layout

pub hold_last-requires-clause-known : goal.hold_last-requires-clause-known
hold_last-requires-clause-known g c =
    let brings = brings g (goal.at.hold_last-requires-clause-known g c).In_ok-bring in
    (c.args.known.now.layout, brings.own, still_all_of _ _ _ _ _ brings c.requires.can.own)

pub returns-in_err-bring : goal.returns-in_err-bring
returns-in_err-bring g c =
    let e = c.in_err-bring.ensures in
    rw (passed _ _ c.from_residual.ensures.1) (from_refused _ _ _ _ _ _ c.requires.can.rest c.requires.short _ _ c.bring.ensures.stays e.refused e.none)

pub returns : goal.returns
returns g c =
    let a = (goal.at.returns g c).In_ok-bring in
    let one = one g a in
    let last = c.hold_last.ensures in
    from_asked _ _ _ _ _ c.bring.new.self c.requires.can.rest c.requires.short _ _ _ c.requires.live c.bring.ensures.stays c.in_ok-bring.ensures.asks
    last.holds (below_more _ 0 (below_none _) (λ some. absurd (let few = (brings g a).besides 0 (omega arith) some in omega arith))) (last.keeps _ (brings g a).own) (nil_from_length _ (omega arith))
