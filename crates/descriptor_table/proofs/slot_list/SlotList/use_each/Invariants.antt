use Rattle.descriptor_table.proofs.Common.{◌≡◌, nexts_in, slots_in}
use Rattle.descriptor_table.specs.Slots.{space_in}
use Rattle.descriptor_table.proofs.Linking.{LinkedSome}
use Rattle.descriptor_table.proofs.Named.{UsedNames}
use Rattle.descriptor_table.proofs.slot_list.SlotList.use_each.Given as goal

-- the sets of the first names are in the other use, and linked
abbrev pub invariant-loop-index : goal.invariant-loop-index
invariant-loop-index g l = record {
  used : UsedNames g.N.SetName g.met.N.SetName.each l.number l.layout l.used l.names l.index (slots_in l.fn.self) (slots_in l.self);
  linked : LinkedSome (g.N.SetName.handles_of l.names) l.index l.first l.next (slots_in l.fn.self) (nexts_in l.fn.self) (nexts_in l.self);
  space : space_in l.self ≡ space_in l.fn.self;
}
