use Rattle.descriptor_table.proofs.Common.{common_steps, ◌≡◌, ◌==◌, ℕ, if◌then◌else◌, ids_of, ◌+◌, true, sym, ap, subst, ◌∙◌, arith, filled, slot_at, At, HasLayout, HasRoom, Settings, is_usable, renewed, slots_of}
use Rattle.descriptor_table.proofs.Chains.{live_no_list}
use Rattle.descriptor_table.proofs.Counts.{chain_counts}
use Rattle.descriptor_table.proofs.Growing.{count_grown, puts_last, room_grown}
use Rattle.descriptor_table.proofs.Renewing.{puts_there, room_less}
use Rattle.descriptor_table.proofs.set_table.SetTable.put.Goals.{then-self-eq0, else-self-eq0}
use Rattle.descriptor_table.proofs.set_table.SetTable.put.Goals as goal

pub add_place-requires-clause-room : goal.add_place-requires-clause-room
add_place-requires-clause-room g c = grind (arith, common_steps, chain_counts c.args.self.now 0)

pub fill-requires-clause-some : goal.fill-requires-clause-some
fill-requires-clause-some g c = grind (arith, common_steps, c.if-self-eq0.branch, count_grown, chain_counts c.args.self.now 0)

pub fill-requires-clause-layout : goal.fill-requires-clause-layout
fill-requires-clause-layout g c = elim c.if-self-eq0.branch [
  | then-self-eq0 w ↦ subst (HasLayout c.args.layout) (sym w.self-is) (let s = w.add_place.ensures.stays.settings in record { within = omega (arith, ap (λ (s : Settings). s.layouts) s, c.requires.layout.within); there = ap (λ (s : Settings). s.removed c.args.layout) s ∙ c.requires.layout.there })
  | else-self-eq0 w ↦ subst (HasLayout c.args.layout) (sym w.self-is) c.requires.layout
]

pub returns-clause-ids : goal.returns-clause-ids
returns-clause-ids g c =
    let same : ids_of c.if-self-eq0.self ≡ ids_of c.args.self.now = elim c.if-self-eq0.branch [
      | then-self-eq0 w ↦ ap ids_of w.self-is ∙ w.add_place.ensures.stays.ids
      | else-self-eq0 w ↦ ap ids_of w.self-is
    ] in
    λ n. c.fill.ensures.ids n ∙ ap (λ (ids : ℕ → ℕ). if n == c.args.layout then c.args.id else ids n) same

pub returns-clause-puts : goal.returns-clause-puts
returns-clause-puts g c =
    let here = c.fill.ensures.renews in
    let p = (g.N.SetName.handle_of c.fill.result).place in
    elim c.if-self-eq0.branch [
      | then-self-eq0 w ↦ (
        here.0,
        puts_last c.args.self.now w.add_place.new.self (sym (chain_counts c.args.self.now 0) ∙ w.if-self-eq0.true) w.add_place.ensures c.args.layout c.args.set p here.0
            (subst (λ s. is_usable (slot_at (slots_of s) p) ≡ true) w.self-is c.fill.ensures.usable) (subst (λ s. At p (filled c.args.layout c.args.set) (slots_of s) here.0) w.self-is here.1),
        grind (arith, common_steps),
      )
      | else-self-eq0 w ↦ (here.0, grind (arith, common_steps, puts_there), grind (arith, common_steps))
    ]

pub returns-clause-reserve : goal.returns-clause-reserve
returns-clause-reserve g c = λ n room.
    let here = c.fill.ensures.renews in
    let used = renewed c.args.used (slot_at here.0 (g.N.SetName.handle_of c.fill.result).place) in
    let less = room_less n _ _ used c.if-self-eq0.self c.fill.new.self here.0 c.fill.ensures.usable here.1 here.2.slots (live_no_list used c.requires.live 0) c.fill.ensures.space in
    elim c.if-self-eq0.branch [
      | then-self-eq0 w ↦ less (subst (HasRoom (n + 1)) (sym w.self-is) (room_grown c.args.self.now w.add_place.new.self (sym (chain_counts c.args.self.now 0) ∙ w.if-self-eq0.true) w.add_place.ensures n room))
      | else-self-eq0 w ↦ less (subst (HasRoom (n + 1)) (sym w.self-is) room)
    ]
