use Rattle.descriptor_table.proofs.Common.{◌≤◌, ◌<◌, ℕ, count, is_kept_of, min, Stays, is_kept, slots_of, used_for, Becomes, Going}
use Rattle.descriptor_table.proofs.Turning.{Turning}
use Rattle.descriptor_table.proofs.set_table.SetTable.trim.Given as goal

-- the layouts before this one have no more kept sets than so many
abbrev pub invariant-loop-layout : goal.invariant-loop-layout
invariant-loop-layout g l = record {
  turning : Turning is_kept (Becomes (used_for Going)) (slots_of l.fn.self) (slots_of l.self);
  few : (n : ℕ) → n < l.layout → count (is_kept_of n) (slots_of l.self) ≤ l.max;
  enough : (n : ℕ) → min l.max (count (is_kept_of n) (slots_of l.fn.self)) ≤ count (is_kept_of n) (slots_of l.self);
  stays : Stays l.fn.self l.self;
}
