use Rattle.std.proofs.Common.{◌≡◌, ◌||◌, Global, String, List, [], ◌∷◌, map, refl, ap, ◌∙◌}
use Rattle.std.specs.Map.{values_of}
use Rattle.gpu_descriptor.specs.Model.Books.{key_eq}
use Rattle.descriptor_lines.specs.LayoutTables.{has_key, key_of, listed}
use Rattle.descriptor_lines.specs.declared.layouts.Entry.{Entry}
use Rattle.descriptor_lines.specs.declared.layouts.Layout.{Layout}
use Rattle.descriptor_lines.proofs.layouts.LayoutTable.has_key.Invariants.{any_left}
use Rattle.descriptor_lines.proofs.layouts.LayoutTable.has_key.Goals as goal

all_left : (es : List (String Global × Entry)) (layout : Layout) → any_left (values_of es) layout ≡ has_key (map listed es) layout
all_left [] layout = refl
all_left (e ∷ es) layout = ap (λ rest. key_eq (key_of e.1.layout) (key_of layout) || rest) (all_left es layout)

pub loop-entry-init : goal.loop-entry-init
loop-entry-init c = ap (λ entries. any_left entries c.args.layout.now) (c.into_iter-entry-iterator.ensures.into_iter_gives ∙ c.values-entry-items.ensures.rest) ∙ all_left c.args.self.now.by_name.entries c.args.layout.now
