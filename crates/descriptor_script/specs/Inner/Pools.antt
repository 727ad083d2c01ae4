-- The live pools of a device, and the names that it gave.
use Rattle.gpu_descriptor_types.specs.Ledger.{Counters, Ledger}
use Rattle.descriptor_script.specs.Scripted.Raw.{Names}
use Rattle.descriptor_script.specs.Inner.Table.{pools_in}
use Rattle.descriptor_script.specs.declared.pools.Pools.{Pools}

-- the names of the pool and of the set that come next
abbrev pub next_names : Pools → Names
next_names p = record { pools = p.next_pool; sets = p.next_set }

-- what is owed, with these counters
abbrev pub owed : Pools → Counters → Ledger
owed p counters = record { pools = pools_in p.live; counters = counters }
