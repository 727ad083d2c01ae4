-- The live sets of a pool, as a table by name keeps them.
use Rattle.std.specs.Prelude.{◌≡◌, ℕ, ◌-◌, List, length, map, Option, None}
use Rattle.std.specs.Iterator.{YieldsThen}
use Rattle.gpu_descriptor_types.specs.Counts.{kinds}
use Rattle.gpu_descriptor_types.specs.Multiset.{LiveSet, times, AreIn}
use Rattle.gpu_descriptor_types.specs.declared.counts.DescriptorTotalCount.{DescriptorTotalCount}
use Rattle.descriptor_script.specs.Scripted.Raw.{set_id}
use Rattle.descriptor_script.specs.declared.raw.RawSet.{RawSet}

-- the set of an entry
abbrev pub live_set_of : ℕ × DescriptorTotalCount → LiveSet
live_set_of e = record { name = e.0; counts = kinds e.1 }

-- the sets of a table's entries
abbrev pub live_sets_of : List (ℕ × DescriptorTotalCount) → List LiveSet
live_sets_of entries = map live_set_of entries

-- sets of these names are among those of the list
pub record HasNamed (names : List ℕ) (all : List LiveSet) : Type 0 where
  pub gone : List LiveSet
  pub named : map (λ s. s.name) gone ≡ names
  pub live : AreIn gone (times all)

-- the iterator gave so many items, up to its end, and sets of their names were taken from the list
pub record TakesOut {I : Type 0} (steps : I → Option RawSet → I → Type 0) (n : ℕ) (old new : I) (before after : List LiveSet) : Type 0 where
  pub items : List RawSet
  pub many : length items ≡ n
  pub drained : YieldsThen steps old items None new
  pub taken : HasNamed (map set_id items) before
  pub less : (x : LiveSet) → times after x ≡ times before x - times taken.gone x
