use Rattle.descriptor_table.proofs.Common.{common_steps, le-ltb, arith, layouts_of, slots_of}
use Rattle.descriptor_table.proofs.Counts.{count_few, none_count}
use Rattle.descriptor_table.proofs.Totals.{kept_before, kept_end, kept_step}
use Rattle.descriptor_table.proofs.set_table.SetTable.kept_total.Goals as goal

pub loop-layout-init : goal.loop-layout-init
loop-layout-init g c = grind (arith, common_steps, kept_before, none_count, le-ltb)

pub overflow_add-total : goal.overflow_add-total
overflow_add-total g c = grind (arith, common_steps, count_few, kept_before, kept_step (slots_of c.args.self.now) c.loop-layout.layout)

pub loop-layout-preserved : goal.loop-layout-preserved
loop-layout-preserved g c = grind (arith, common_steps, kept_step (slots_of c.args.self.now) c.loop-layout.layout)

pub returns : goal.returns
returns g c = let s = c.args.self.now in grind (arith, common_steps, kept_end (slots_of s) (layouts_of s) c.loop-layout.layout s.sound.known)
