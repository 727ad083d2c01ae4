-- The sets of a table, each with the id that the table keeps for its layout.
use Rattle.std.specs.Prelude.{◌≡◌, ℕ, List, Option, option_map}
use Rattle.std.specs.List.{filter_map}
use Rattle.gpu_descriptor.specs.Caller.Sets.{whole}
use Rattle.gpu_descriptor.specs.declared.compact.CompactDescriptorSet.{CompactDescriptorSet}
use Rattle.gpu_descriptor.specs.declared.set.DescriptorSet.{DescriptorSet}
use Rattle.descriptor_table.specs.Groups.{is_of}
use Rattle.descriptor_table.specs.Slots.{Slot}
use Rattle.descriptor_table.specs.Tables.{Changes, GivesAny, ids_of, slots_of}
use Rattle.descriptor_table.specs.declared.set_table.SetTable.{SetTable}
use Rattle.descriptor_manager.specs.declared.returning.Returning.{Returning}

module _ {S : Type 0} where
  -- the set of a slot, with the id of its layout
  abbrev pub whole_in : (ℕ → ℕ) → Slot (CompactDescriptorSet S) → Option (DescriptorSet S)
  whole_in ids s = option_map (λ x. whole (ids s.layout, x)) s.set

  -- the sets of a table
  abbrev pub whole_sets : SetTable (CompactDescriptorSet S) → List (DescriptorSet S)
  whole_sets t = filter_map (whole_in (ids_of t)) (slots_of t)

  -- one of the group was taken out of its slot, if there was one
  pub record GivesNext (s : Returning S) (r : Option (DescriptorSet S)) (t : Returning S) : Type 0 where
    pub group : t.group ≡ s.group
    pub same : t.table.ghost_name ≡ s.table.ghost_name
    pub gives : Changes (GivesAny (is_of s.group) (whole_in (ids_of s.table.now)) r) s.table.now t.table.now
