use Rattle.descriptor_table.proofs.Common.{◌≤◌, count, is_kept_of, min, Stays, slots_of, used_for, Becomes, Going}
use Rattle.descriptor_table.proofs.Turning.{Turning}
use Rattle.descriptor_table.proofs.set_table.SetTable.trim_layout.Given as goal

-- some sets of the list go
abbrev pub invariant-loop-self : goal.invariant-loop-self
invariant-loop-self g l = record {
  turning : Turning (is_kept_of l.layout) (Becomes (used_for Going)) (slots_of l.fn.self) (slots_of l.self);
  enough : min l.max (count (is_kept_of l.layout) (slots_of l.fn.self)) ≤ count (is_kept_of l.layout) (slots_of l.self);
  stays : Stays l.fn.self l.self;
}

abbrev pub decreases-loop-self : goal.decreases-loop-self
decreases-loop-self g l = count (is_kept_of l.layout) (slots_of l.self)
