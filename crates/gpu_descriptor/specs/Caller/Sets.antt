-- Sets of the allocator, as the code has them and as the books see them.
use Rattle.std.specs.Prelude.{◌≡◌, ℕ, ◌-◌, List, map, All}
use Rattle.std.specs.Int.NonZero.{non_zero_u64_get}
use Rattle.gpu_descriptor_types.specs.Meaning.{Meaning, IsOfLayout}
use Rattle.gpu_descriptor.specs.declared.compact.CompactDescriptorSet.{CompactDescriptorSet}
use Rattle.gpu_descriptor.specs.declared.set.DescriptorSet.{DescriptorSet}
use Rattle.gpu_descriptor.specs.Model.Agreement.{Item}
use Rattle.gpu_descriptor.specs.Caller.Call.{layout_key}

module _ {S : Type 0} where
  -- the raw set
  abbrev pub raw_of : DescriptorSet S → S
  raw_of x = x.raw

  -- the number of its pool
  abbrev pub number_of : DescriptorSet S → ℕ
  number_of x = x.number

  -- the id of its key
  abbrev pub id_of : DescriptorSet S → ℕ
  id_of x = x.id

  -- the set as the books see it
  abbrev pub item_of : (S → ℕ) → DescriptorSet S → Item
  item_of name x = record { key = x.key.is; id = x.id; number = x.number; name = name x.raw }

  -- the sets as the books see them
  abbrev pub items_of : (S → ℕ) → List (DescriptorSet S) → List Item
  items_of name xs = map (item_of name) xs

  -- each has a raw set that was made with the layout
  abbrev pub AreOfLayout : {L P : Type 0} → Meaning L P S → L → List (DescriptorSet S) → Type 0
  AreOfLayout means layout xs = All (λ x. IsOfLayout means layout x.raw) xs

  -- each has a raw set that was made with the layout, and the layout's key
  abbrev pub AreSetsOf : {L P : Type 0} → Meaning L P S → L → List (DescriptorSet S) → Type 0
  AreSetsOf means layout xs = All (λ x. IsOfLayout means layout x.raw × (x.key.is ≡ layout_key means layout)) xs

  -- ---- sets without the ids of their keys

  -- the raw set
  abbrev pub raw_in : CompactDescriptorSet S → S
  raw_in x = x.raw

  -- the set, with the id of its key
  abbrev pub whole : ℕ × CompactDescriptorSet S → DescriptorSet S
  whole p = record { raw = p.1.raw; number = non_zero_u64_get p.1.number - 1; id = p.0; key = p.1.key }

  -- the raw set was made with the layout, and the set has the layout's key
  abbrev pub IsSetOf : {L P : Type 0} → Meaning L P S → L → CompactDescriptorSet S → Type 0
  IsSetOf means layout x = IsOfLayout means layout x.raw × (x.key.is ≡ layout_key means layout)
