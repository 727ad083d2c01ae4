use Rattle.descriptor_table.proofs.Common.{refl, arith, waits}
use Rattle.descriptor_table.proofs.Turning.{go_less}
use Rattle.descriptor_table.proofs.set_table.SetTable.let_waiting_go.Goals as goal

pub loop-place-smaller : goal.loop-place-smaller
loop-place-smaller g c = omega (arith, go_less waits _ _ _ c.in-Some.place c.in-Some.ensures.slots c.let_go.ensures.slots (λ s. refl))
