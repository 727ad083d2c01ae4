use Rattle.std.proofs.Common.{◌≡◌, Bool, List}
use Rattle.std.specs.List.{list_any}
use Rattle.gpu_descriptor.specs.Model.Books.{key_eq}
use Rattle.descriptor_lines.specs.LayoutTables.{has_key, key_of, layouts_in}
use Rattle.descriptor_lines.specs.declared.layouts.Entry.{Entry}
use Rattle.descriptor_lines.specs.declared.layouts.Layout.{Layout}
use Rattle.descriptor_lines.proofs.layouts.LayoutTable.has_key.Given as goal

-- whether one of the entries that are still to come has the key
abbrev pub any_left : List Entry → Layout → Bool
any_left entries layout = list_any (λ e. key_eq (key_of e.layout) (key_of layout)) entries

abbrev pub invariant-loop-entry : goal.invariant-loop-entry
invariant-loop-entry l = any_left l.entry-iterator l.layout ≡ has_key (layouts_in l.self) l.layout
