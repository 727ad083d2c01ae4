use Rattle.descriptor_manager.proofs.Common.{◌≡◌, ◌+◌, length, take, AreSetsOf, AllFit, HasRoom, ComesOf, HoldEach, Holds, KeepsStore, slots_in}
use Rattle.descriptor_manager.proofs.store.Store.hold_coming.Given as goal

abbrev pub invariant-loop-index : goal.invariant-loop-index
invariant-loop-index g l = record {
  long : length l.names ≡ length l.fn.names;
  fit : AllFit g.N.SetName.handle_of g.N.SetName.fit (slots_in l.self) (take l.index l.names);
  holds : HoldEach l.fn.self.table.number l.layout l.used (take l.index (g.N.SetName.handles_of l.names)) (slots_in l.fn.self) (slots_in l.self);
  fewer : length l.self.coming.items + l.index ≡ length l.fn.self.coming.items;
  own : (known : g.row.L.Denot) → AreSetsOf g.D.DescriptorDevice.meaning known l.fn.self.coming.items → AreSetsOf g.D.DescriptorDevice.meaning known l.self.coming.items;
  table : HasRoom (length l.self.coming.items) l.self.table;
  stays : KeepsStore l.fn.self l.self;
  keeps : (known : g.row.L.Denot) → AreSetsOf g.D.DescriptorDevice.meaning known l.fn.self.coming.items → Holds (ComesOf g.D.DescriptorDevice.meaning known l.layout) l.fn.self l.self;
}
