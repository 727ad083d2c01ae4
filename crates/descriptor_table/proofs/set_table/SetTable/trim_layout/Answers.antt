use Rattle.descriptor_table.proofs.Common.{common_steps, ◌+◌, arith, Slot, is_kept_of, slots_of}
use Rattle.descriptor_table.proofs.Counts.{none_count}
use Rattle.descriptor_table.proofs.Turning.{go_less, go_step, going_out, stays_more}
use Rattle.descriptor_table.proofs.set_table.SetTable.trim_layout.Goals as goal

pub unreachable-requires : goal.unreachable-requires
unreachable-requires g c = omega (arith, c.loop-self.self, c.count.ensures, none_count (is_kept_of c.args.layout) (slots_of c.loop-self.self) c.in-None.ensures.slots.none, c.loop-self-test.true)

pub loop-self-smaller : goal.loop-self-smaller
loop-self-smaller g c = omega (arith, go_less (is_kept_of c.args.layout) (slots_of c.loop-self.self) (slots_of c.pick.new.self) (slots_of c.let_go.new.self) c.in-Some.place c.in-Some.ensures.slots c.let_go.ensures.slots (λ s. going_out (c.args.layout + 2) s (omega arith)))

pub loop-self-preserved : goal.loop-self-preserved
loop-self-preserved g c =
    let picks = c.in-Some.ensures in
    let now = slots_of c.loop-self.self in
    let mid = slots_of c.pick.new.self in
    let new = slots_of c.let_go.new.self in
    let out = λ (s : Slot g.row.T.Denot). going_out (c.args.layout + 2) s (omega arith) in
    grind (arith, common_steps, go_step (is_kept_of c.args.layout) now mid new c.in-Some.place picks.slots c.let_go.ensures.slots out (slots_of c.args.self.now), go_less (is_kept_of c.args.layout) now mid new c.in-Some.place picks.slots c.let_go.ensures.slots out, stays_more)
