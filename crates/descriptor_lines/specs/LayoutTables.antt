-- The layouts by name.
use Rattle.std.specs.Prelude.{ℕ, Bool, List, filter, map, Option, String, bytes_eq, string_bytes}
use Rattle.std.specs.Global.{Global}
use Rattle.std.specs.List.{list_any}
use Rattle.std.specs.Option.{option_map}
use Rattle.indexmap.specs.IndexMap.{get_by_text, index_of_by}
use Rattle.gpu_descriptor_types.specs.Counts.{kinds}
use Rattle.gpu_descriptor.specs.Model.Books.{Key, key_eq}
use Rattle.descriptor_lines.specs.declared.layouts.Entry.{Entry}
use Rattle.descriptor_lines.specs.declared.layouts.Layout.{Layout}
use Rattle.descriptor_lines.specs.declared.layouts.LayoutTable.{LayoutTable}

-- the key of the pools for a layout's sets
abbrev pub key_of : Layout → Key
key_of layout = record { counts = kinds layout.counts; marked = layout.mark }

-- an entry's layout with its name
abbrev pub listed : String Global × Entry → List ℕ × Layout
listed entry = (string_bytes entry.0, entry.1.layout)

-- whether a layout of the list has the same counts and mark
abbrev pub has_key : List (List ℕ × Layout) → Layout → Bool
has_key layouts layout = list_any (λ l. key_eq (key_of l.1) (key_of layout)) layouts

-- the greatest number of layouts
abbrev pub max_layouts : ℕ
max_layouts = 1024

module _ (layouts : LayoutTable) where
  -- the layouts with their names, in the order in which they came
  abbrev pub layouts_in : List (List ℕ × Layout)
  layouts_in = map listed layouts.by_name.entries

  -- those that were the first with their counts and mark when they came
  abbrev pub first_layouts : List (List ℕ × Layout)
  first_layouts = map listed (filter (λ e. e.1.is_first) layouts.by_name.entries)

  -- the layout of this name
  abbrev pub layout_named : List ℕ → Option Layout
  layout_named name = option_map (λ e. e.layout) (get_by_text layouts.by_name name)

  -- its place, in this order
  abbrev pub place_named : List ℕ → Option ℕ
  place_named name = index_of_by (λ key. bytes_eq name (string_bytes key)) layouts.by_name
