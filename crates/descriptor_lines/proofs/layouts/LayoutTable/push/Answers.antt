use Rattle.std.proofs.lemmas.Grind.{common_steps}
use Rattle.std.proofs.Common.{◌≡◌, Option, None, Some, Result, Ok, Err, OnOk, IsOk, ◌++◌, ◌∷◌, [], Global, String, string_bytes, refl, arith}
use Rattle.std.proofs.lemmas.List.{map-append}
use Rattle.std.proofs.lemmas.List.Elements.{filter-append}
use Rattle.std.specs.Option.{option_map}
use Rattle.std.specs.String.{string_eq}
use Rattle.indexmap.specs.IndexMap.{insert_entry}
use Rattle.indexmap.proofs.CallerLemmas.{insert_entry-new}
use Rattle.descriptor_lines.specs.LayoutTables.{layout_named}
use Rattle.descriptor_lines.specs.declared.layouts.Entry.{Entry}
use Rattle.descriptor_lines.specs.declared.layouts.LayoutTable.{LayoutTable}
use Rattle.descriptor_lines.proofs.layouts.LayoutTable.push.Goals as goal

none_from_mapped : {X Y : Type 0} (f : X → Y) (o : Option X) → option_map f o ≡ None → o ≡ None
none_from_mapped f None none = refl
none_from_mapped f (Some x) none = (cc)

on_ok : {T E : Type 0} (r : Result T E) (P : Type 0) → IsOk r → OnOk r P → P
on_ok (Ok x) P is holds = holds
on_ok (Err e) P is holds = (cc)

-- the entry of a layout with a new name stands last
last_entry : (layouts : LayoutTable) (name : String Global) (entry : Entry) → layout_named layouts (string_bytes name) ≡ None → insert_entry string_eq layouts.by_name.entries name entry ≡ layouts.by_name.entries ++ (name, entry) ∷ []
last_entry layouts name entry absent = insert_entry-new string_eq layouts.by_name name entry (none_from_mapped _ _ absent)

pub returns : goal.returns
returns c = grind (arith, common_steps, filter-append, last_entry, map-append)
