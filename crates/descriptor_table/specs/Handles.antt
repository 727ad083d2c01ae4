-- Values under handles.
use Rattle.std.specs.Prelude.{◌+◌, ◌<◌, ◌≤◌, length}
use Rattle.descriptor_table.specs.Slots.{Slots, slots_in, space_in}
use Rattle.descriptor_table.specs.declared.handle_table.HandleTable.{HandleTable}

module _ {T : Type 0} where
  -- the slots of the values
  abbrev pub values_of : HandleTable T → Slots T
  values_of t = slots_in t.slots

  -- there is memory for one more slot
  pub record HasPlace (t : HandleTable T) : Type 0 where
    pub few : length (values_of t) + 1 < 4294967296
    pub slots : length (values_of t) + 1 ≤ space_in t.slots
