use Rattle.descriptor_manager.proofs.Common.{◌+◌, length, refl, sym, ap, ◌∙◌, arith, get_or_past, is_removed, Settings, layout_slots, HasSetsOf}
use Rattle.descriptor_manager.proofs.Owned.{layout_used, next_unused, sets_more, sets_same}
use Rattle.descriptor_manager.proofs.manager.SetManager.add_number.Goals.{After-reserve}
use Rattle.descriptor_manager.proofs.manager.SetManager.add_number.Goals as goal

pub invariant_of-self-clause-sets : goal.invariant_of-self-clause-sets
invariant_of-self-clause-sets g c = sets_same c.args.self.now.store c.reserve_layout.new.self c.reserve_layout.ensures.contents c.reserve_layout.ensures.stays.settings refl c.args.self.now.sets

-- the sets once memory for the number and for the layout is reserved
reserved : (g : _) (c : After-reserve g) → HasSetsOf (layout_slots c.reserve.new.self) c.args.self.now.manager c.reserve_layout.new.self
reserved g c = sets_same c.args.self.now.store c.reserve_layout.new.self c.reserve_layout.ensures.contents c.reserve_layout.ensures.stays.settings c.reserve.ensures.slots c.args.self.now.sets

pub invariant_of-self-then-is_err-2-clause-sets : goal.invariant_of-self-then-is_err-2-clause-sets
invariant_of-self-then-is_err-2-clause-sets g c = reserved g (goal.at.invariant_of-self-then-is_err-2-clause-sets g c).After-reserve

pub invariant_of-self-2-clause-sets : goal.invariant_of-self-2-clause-sets
invariant_of-self-2-clause-sets g c =
    let was = reserved g (goal.at.invariant_of-self-2-clause-sets g c).After-reserve in
    let s = c.add_layout.ensures.settings in
    let number = length (layout_slots c.reserve.new.self) in
    sets_more c.reserve_layout.new.self c.add_layout.new.self number c.add_layout.ensures.contents
    (λ n ne. (c.add.ensures.others n (λ e. ne (e ∙ c.add.ensures.place)), ap (λ (s : Settings). s.removed n) s))
    (layout_used c.add.new.self c.add.result c.args.layout number (sym c.add.ensures.place) c.add.ensures.added) (next_unused c.reserve_layout.new.self was)
    (ap (λ (s : Settings). s.removed number) s ∙ ap is_removed (get_or_past c.reserve_layout.new.self.table.lists.kept.items number (record { first = 0; count = 0 }) (let same = was.numbers in omega arith)))
    (ap (λ (s : Settings). s.layouts) s ∙ ap (λ n. n + 1) was.numbers ∙ sym c.add.ensures.long) (ap (λ (s : Settings). s.number) s) was

pub returns-clause-given : goal.returns-clause-given
returns-clause-given g c = c.add.ensures.names.given 0 c.add.result.slot (omega arith)
