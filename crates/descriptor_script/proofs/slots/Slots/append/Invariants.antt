use Rattle.std.proofs.Common.{◌≡◌, ◌++◌, length, map, Some}
use Rattle.std.specs.Vec.Iter.{into_iter_items}
use Rattle.descriptor_script.specs.Inner.Slots.{HasSpareSlots}
use Rattle.descriptor_script.proofs.slots.Slots.append.Given as goal

-- the sets so far are put, and memory for the others is reserved
abbrev pub invariant-loop-set : goal.invariant-loop-set
invariant-loop-set g l = record {
  ahead : l.yielded ++ into_iter_items l.set-iterator ≡ l.fn.sets.items;
  sets : l.self.sets.items ≡ l.fn.self.sets.items ++ map Some l.yielded;
  reserve : HasSpareSlots (length (into_iter_items l.set-iterator)) l.self;
}
