-- The lists of slots without a set, of sets that go, and of the kept sets of each layout.
use Rattle.std.specs.Prelude.{map, slice_set, ◌≡◌, ℕ, ◌<◌, Bool, false, List, ◌∷◌, length, ⊤}
use Rattle.descriptor_table.specs.Slots.{chain_at, is_removed, shown}
use Rattle.descriptor_table.specs.declared.group.Group.{Group}
use Rattle.descriptor_table.specs.declared.group.Group.TheVariants.{Going, KeptOf}
use Rattle.descriptor_table.specs.declared.lists.Lists.{Lists}
use Rattle.descriptor_table.specs.declared.slot.Chain.{Chain}

-- all lists by number: of vacant slots, of sets that go, and of the kept sets of each layout
abbrev pub chains_in : Lists → List Chain
chains_in l = l.vacant ∷ l.going ∷ map shown l.kept.items

-- how many layouts have a number, the removed ones included
abbrev pub layouts_in : Lists → ℕ
layouts_in l = length l.kept.items

-- whether the layout of a number was removed
abbrev pub removed_in : Lists → ℕ → Bool
removed_in l layout = is_removed (chain_at l.kept.items layout)

-- the layout of a group is there
abbrev pub HasList : Group → Lists → Type 0
HasList Going l = ⊤
HasList (KeptOf layout) l = (layout < layouts_in l) × (removed_in l layout ≡ false)

-- the list with a number became this, and layouts are as they were
pub record Relisted (k : ℕ) (c : Chain) (old new : Lists) : Type 0 where
  pub chains : chains_in new ≡ slice_set (chains_in old) k c
  pub layouts : layouts_in new ≡ layouts_in old
  pub removed : removed_in new ≡ removed_in old
