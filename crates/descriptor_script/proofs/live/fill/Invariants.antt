use Rattle.std.proofs.Common.{◌≡◌, ℕ, ◌+◌, ◌≤◌, None, nat_eq, ◌++◌, map, length, replicate}
use Rattle.std.specs.List.{range_with_len}
use Rattle.indexmap.specs.IndexMap.{get, spare}
use Rattle.gpu_descriptor_types.specs.Layouts.{layout, left}
use Rattle.descriptor_script.specs.Scripted.Raw.{raw_sets}
use Rattle.descriptor_script.proofs.live.fill.Given as goal

-- a set was put for each layout so far
abbrev pub invariant-loop-layout : goal.invariant-loop-layout
invariant-loop-layout g l = record {
  ahead : left l.layout-iterator + length l.yielded ≡ left l.fn.layouts;
  same : replicate (left l.layout-iterator) l.layout-iterator.layout ≡ replicate (left l.layout-iterator) l.fn.layouts.layout;
  name : l.name ≡ l.fn.first + length l.yielded;
  live : l.live.entries ≡ l.fn.live.entries ++ map (λ name. (name, (layout l.fn.layouts).counts)) (range_with_len l.fn.first (length l.yielded));
  space : left l.layout-iterator ≤ spare l.live;
  fresh : (n : ℕ) → l.name ≤ n → get nat_eq l.live n ≡ None;
  sets : g.K.SetSink.sink.kept l.sink ≡ g.K.SetSink.sink.kept l.fn.sink ++ map (g.K.SetSink.sink.kept_as l.fn.sink) (raw_sets l.fn.pool l.fn.first (length l.yielded));
  alike : g.K.SetSink.sink.kept_as l.sink ≡ g.K.SetSink.sink.kept_as l.fn.sink;
  room : g.K.SetSink.sink.room l.sink + length l.yielded ≡ g.K.SetSink.sink.room l.fn.sink;
}
