use Rattle.descriptor_table.proofs.Common.{◌≡◌, ◌<◌, ℕ, false, slot_at, Becomes, Stays, holds, slots_of, used_for, Going}
use Rattle.descriptor_table.proofs.Turning.{Turning}
use Rattle.descriptor_table.proofs.set_table.SetTable.let_held_go.Given as goal

-- the held sets of the first slots go
abbrev pub invariant-loop-place : goal.invariant-loop-place
invariant-loop-place g l = record {
  turning : Turning holds (Becomes (used_for Going)) (slots_of l.fn.self) (slots_of l.self);
  done : (p : ℕ) → p < l.place → holds (slot_at (slots_of l.self) p) ≡ false;
  stays : Stays l.fn.self l.self;
}
