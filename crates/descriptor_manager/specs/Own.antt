-- Each set of a set manager is of the layout that has its number.
use Rattle.std.specs.Prelude.{◌≡◌, ℕ, false, true, length, Some, is_some}
use Rattle.gpu_descriptor_types.specs.declared.device.DescriptorDevice.{Ghosts}
use Rattle.gpu_descriptor.specs.declared.layout.SetLayout.{SetLayout}
use Rattle.descriptor_table.specs.Slots.{Slots, slot_at}
use Rattle.descriptor_table.specs.Tables.{is_usable, layouts_of}
use Rattle.descriptor_manager.specs.Stores.{AreAllOf, IsAtRest, removed_in, slots_in}
use Rattle.descriptor_manager.specs.declared.store.Store.{Store}

-- the sets of a store are at rest, and are of these layouts. Their handles have this number
pub record HasSetsOf {L P S D : Type 0} {d : Ghosts D L P S} (layouts : Slots (SetLayout L)) (manager : ℕ) (s : Store L P S D d) : Type 0 where
  pub rest : IsAtRest s
  -- the sets under a number are of the layout that has it
  pub own : (n : ℕ) (known : SetLayout L) → (slot_at layouts n).set ≡ Some known → AreAllOf d.meaning known.layout n (slots_in s)
  -- a layout that is there wasn't removed from the table, and the number of one that may come was
  pub there : (n : ℕ) → is_some (slot_at layouts n).set ≡ true → removed_in s n ≡ false
  pub free : (n : ℕ) → is_usable (slot_at layouts n) ≡ true → removed_in s n ≡ true
  -- the table has each layout's number
  pub numbers : layouts_of s.table ≡ length layouts
  pub number : s.table.number ≡ manager
