use Rattle.descriptor_table.proofs.Common.{◌≡◌, nexts_in, slots_in, used_for, Becomes, Held}
use Rattle.descriptor_table.specs.Slots.{space_in}
use Rattle.descriptor_table.proofs.Holding.{TurnedFirst}
use Rattle.descriptor_table.proofs.slot_list.SlotList.hold_each.Given as goal

-- the sets of the first handles are held
abbrev pub invariant-loop-index : goal.invariant-loop-index
invariant-loop-index g l = record {
  first : TurnedFirst (g.N.SetName.handles_of l.names) (Becomes (used_for Held)) l.index (slots_in l.fn.self) (slots_in l.self);
  nexts : nexts_in l.self ≡ nexts_in l.fn.self;
  space : space_in l.self ≡ space_in l.fn.self;
}
