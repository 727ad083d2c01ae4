use Rattle.descriptor_table.proofs.Common.{rules, false, arith, refl, subst, sym, AreCounted, is_set_of, layouts_of, removed_of, removed_as, slots_of, users_in}
use Rattle.descriptor_table.proofs.Counts.{count_none}
use Rattle.descriptor_table.proofs.Entries.{in_place}
use Rattle.descriptor_table.proofs.Numbers.{free_is, relayout_counted}
use Rattle.descriptor_table.proofs.set_table.SetTable.renew_layout.Goals as goal

pub invariant_of-self-2-clause-counted : goal.invariant_of-self-2-clause-counted
invariant_of-self-2-clause-counted g c =
    let s = c.args.self.now in
    let e = c.in_ok-layout.ensures in
    in_place (λ layouts removed. AreCounted (slots_of s) layouts removed (users_in c.take.new.self)) _ _ _ _ c.renew.ensures.layouts c.renew.ensures.removed (subst (AreCounted (slots_of s) (layouts_of s) (removed_as false c.in_ok-layout.layout (removed_of s))) (sym e.users) (let is = free_is s c.in_ok-layout.layout e.within e.free in relayout_counted s c.in_ok-layout.layout 1 false is.0 (omega (arith, is.2))))

pub returns-clause-renews : goal.returns-clause-renews
returns-clause-renews g c =
    let s = c.args.self.now in
    let e = c.in_ok-layout.ensures in
    let n = c.in_ok-layout.layout in
    let is = free_is s n e.within e.free in
    search (rules, is, count_none (is_set_of n) (slots_of s) refl is.2)
