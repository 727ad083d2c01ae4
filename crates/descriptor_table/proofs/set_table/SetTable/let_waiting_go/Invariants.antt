use Rattle.descriptor_table.proofs.Common.{count, waits, Becomes, Stays, slots_of, used_for, Going}
use Rattle.descriptor_table.proofs.Turning.{Turning}
use Rattle.descriptor_table.proofs.set_table.SetTable.let_waiting_go.Given as goal

-- some of the sets that wait go
abbrev pub invariant-loop-place : goal.invariant-loop-place
invariant-loop-place g l = record {
  turning : Turning waits (Becomes (used_for Going)) (slots_of l.fn.self) (slots_of l.self);
  stays : Stays l.fn.self l.self;
}

abbrev pub decreases-loop-place : goal.decreases-loop-place
decreases-loop-place g l = count waits (slots_of l.self)
