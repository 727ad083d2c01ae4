use Rattle.descriptor_table.proofs.Common.{IsBack, Stays, removed_of, slots_of, used_for, Going}
use Rattle.descriptor_table.proofs.Holding.{TurnedFirst}
use Rattle.descriptor_table.proofs.set_table.SetTable.settle_each.Given as goal

-- the sets of the first names settled
abbrev pub invariant-loop-index : goal.invariant-loop-index
invariant-loop-index g l = record {
  first : TurnedFirst (g.N.SetName.handles_of l.names) (IsBack (used_for Going) (removed_of l.fn.self) l.fn.self.keep) l.index (slots_of l.fn.self) (slots_of l.self);
  stays : Stays l.fn.self l.self;
}
