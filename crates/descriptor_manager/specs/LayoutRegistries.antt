-- The layouts of a registry, and whose handles they have.
use Rattle.std.specs.Prelude.{ℕ, false, Option}
use Rattle.gpu_descriptor_types.specs.declared.device.DescriptorDevice.{Ghosts}
use Rattle.gpu_descriptor.specs.declared.layout.SetLayout.{SetLayout}
use Rattle.descriptor_table.specs.Sets.{Sets, sets_of}
use Rattle.descriptor_table.specs.Handles.{values_of}
use Rattle.descriptor_table.specs.Slots.{Slots}
use Rattle.descriptor_manager.specs.declared.layout_registry.LayoutHandle.{LayoutHandle}
use Rattle.descriptor_manager.specs.declared.layout_registry.LayoutRegistry.{LayoutRegistry}

module _ {L P S D : Type 0} {d : Ghosts D L P S} where
  -- the number that marks the registry's handles
  abbrev pub registry_of : LayoutRegistry L P S D d → ℕ
  registry_of r = r.table.number

  -- the slots of the layouts
  abbrev pub layout_slots : LayoutRegistry L P S D d → Slots (SetLayout L)
  layout_slots r = values_of r.table

  -- the layouts by handle: each is held, in no frame
  abbrev pub layouts_by : LayoutRegistry L P S D d → Sets (SetLayout L)
  layouts_by r = sets_of (registry_of r) 0 false (layout_slots r)

  -- the layout of a handle; None if the layout was removed, or if the handle is another registry's
  abbrev pub layout_at : LayoutRegistry L P S D d → LayoutHandle → Option (SetLayout L)
  layout_at r h = (layouts_by r).set h.slot
