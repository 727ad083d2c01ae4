-- The live pools of a table, as a ledger shows them, and the names that were given.
use Rattle.std.specs.Prelude.{◌≡◌, ℕ, ◌≤◌, Bool, false, Option, None, Some, is_some, nat_eq}
use Rattle.std.specs.Option.{option_map}
use Rattle.indexmap.specs.IndexMap.{IndexMap, get}
use Rattle.gpu_descriptor_types.specs.Counts.{kinds}
use Rattle.gpu_descriptor_types.specs.Flags.{bits}
use Rattle.gpu_descriptor_types.specs.Ledger.{Pool}
use Rattle.gpu_descriptor_types.specs.Multiset.{times}
use Rattle.descriptor_script.specs.Inner.Live.{live_sets_of}
use Rattle.descriptor_script.specs.declared.live.LivePool.{LivePool}

-- what the ledger shows of a pool
abbrev pub seen : LivePool → Pool
seen p = record { counts = kinds p.counts; capacity = p.max_sets; flags = bits p.flags; refusals = p.refusals.count; live = times (live_sets_of p.sets.entries) }

-- whether the pool has a set of this name
abbrev pub has_set : ℕ → Option LivePool → Bool
has_set n None = false
has_set n (Some p) = is_some (get nat_eq p.sets n)

module _ {S : Type 0} (live : IndexMap ℕ LivePool S) where
  -- the pools of the table by name, as the ledger shows them
  abbrev pub pools_in : ℕ → Option Pool
  pools_in q = option_map seen (get nat_eq live q)

  -- no live pool has this name or a later one
  abbrev pub PoolsAreBelow : ℕ → Type 0
  PoolsAreBelow next = (q : ℕ) → next ≤ q → is_some (get nat_eq live q) ≡ false

  -- no live set has this name or a later one
  abbrev pub SetsAreBelow : ℕ → Type 0
  SetsAreBelow next = (q n : ℕ) → next ≤ n → has_set n (get nat_eq live q) ≡ false
