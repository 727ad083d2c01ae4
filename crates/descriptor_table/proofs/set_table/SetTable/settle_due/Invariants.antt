use Rattle.descriptor_table.proofs.Common.{count, is_due, IsBack, Stays, removed_of, slots_of, used_for, Going}
use Rattle.descriptor_table.proofs.Turning.{Turning}
use Rattle.descriptor_table.proofs.set_table.SetTable.settle_due.Given as goal

-- some of the due sets are settled
abbrev pub invariant-loop-place : goal.invariant-loop-place
invariant-loop-place g l = record {
  turning : Turning (is_due l.frame) (IsBack (used_for Going) (removed_of l.fn.self) l.fn.self.keep) (slots_of l.fn.self) (slots_of l.self);
  stays : Stays l.fn.self l.self;
}

abbrev pub decreases-loop-place : goal.decreases-loop-place
decreases-loop-place g l = count (is_due l.frame) (slots_of l.self)
