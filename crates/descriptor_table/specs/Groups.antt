-- Which sets return to their pools.
use Rattle.std.specs.Prelude.{ℕ, ◌+◌, Bool}
use Rattle.descriptor_table.specs.Slots.{Slot, is_in}
use Rattle.descriptor_table.specs.declared.group.Group.{Group}
use Rattle.descriptor_table.specs.declared.group.Group.TheVariants.{Going, KeptOf}

-- the number of a group's list
abbrev pub list_of : Group → ℕ
list_of Going = 1
list_of (KeptOf layout) = layout + 2

module _ {T : Type 0} where
  -- whether a slot has a set of the group
  abbrev pub is_of : Group → Slot T → Bool
  is_of group = is_in (list_of group)
