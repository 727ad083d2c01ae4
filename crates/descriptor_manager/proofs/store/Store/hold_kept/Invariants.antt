use Rattle.descriptor_manager.proofs.Common.{◌≡◌, ℕ, ◌+◌, ◌<◌, true, length, take, AllFit, is_kept_of, slot_at, HasRoom, place_at, HoldEach, Holds, NoneComes, kept_of, slots_in}
use Rattle.descriptor_manager.proofs.store.Store.hold_kept.Given as goal

abbrev pub invariant-loop-index : goal.invariant-loop-index
invariant-loop-index g l = record {
  long : length l.names ≡ length l.fn.names;
  fit : AllFit g.N.SetName.handle_of g.N.SetName.fit (slots_in l.self) (take l.index l.names);
  holds : HoldEach l.fn.self.table.number l.layout l.used (take l.index (g.N.SetName.handles_of l.names)) (slots_in l.fn.self) (slots_in l.self);
  were_kept : (i : ℕ) → i < l.index → is_kept_of l.layout (slot_at (slots_in l.fn.self) (place_at (g.N.SetName.handles_of l.names) i)) ≡ true;
  fewer : kept_of l.layout l.self + l.index ≡ kept_of l.layout l.fn.self;
  as_many : length (slots_in l.self) ≡ length (slots_in l.fn.self);
  table : (n : ℕ) → HasRoom n l.fn.self.table → HasRoom n l.self.table;
  keeps : Holds NoneComes l.fn.self l.self;
  coming : l.self.coming ≡ l.fn.self.coming;
}
