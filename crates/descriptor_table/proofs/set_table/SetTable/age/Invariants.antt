use Rattle.descriptor_table.proofs.Common.{◌≡◌, ◌<◌, ◌≤◌, ℕ, length, slot_at, Stays, aged, slots_of}
use Rattle.descriptor_table.proofs.set_table.SetTable.age.Given as goal

-- the first slots have lost the flag
abbrev pub invariant-loop-place : goal.invariant-loop-place
invariant-loop-place g l = record {
  long : length (slots_of l.self) ≡ length (slots_of l.fn.self);
  done : (p : ℕ) → p < l.place → slot_at (slots_of l.self) p ≡ aged (slot_at (slots_of l.fn.self) p);
  rest : (p : ℕ) → l.place ≤ p → slot_at (slots_of l.self) p ≡ slot_at (slots_of l.fn.self) p;
  stays : Stays l.fn.self l.self;
}
