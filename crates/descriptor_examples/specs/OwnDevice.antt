-- A device with memory for one pool, and for no set: what it owes.
use Rattle.std.specs.Prelude.{ℕ, zero, suc, false, Option, None, Some}
use Rattle.gpu_descriptor_types.specs.Counts.{kinds}
use Rattle.gpu_descriptor_types.specs.Flags.{bits}
use Rattle.gpu_descriptor_types.specs.Ledger.{Pool, Ledger, fresh, no_rise}
use Rattle.gpu_descriptor_types.specs.Meaning.{Meaning}
use Rattle.gpu_descriptor_types.specs.declared.counts.DescriptorTotalCount.{DescriptorTotalCount}
use Rattle.descriptor_examples.specs.declared.own_device.OnePool.{OnePool}
use Rattle.descriptor_examples.specs.declared.own_device.OnlyPool.{OnlyPool}

-- pools and sets are their names, and all layouts have one
abbrev pub one_meaning : Meaning DescriptorTotalCount ℕ ℕ
one_meaning = record { pool_name = λ pool. pool; set_name = λ set. set; counts = kinds; mark = λ layout. false; layout_name = λ layout. 0; set_layout = λ set. 0 }

-- the pool as it was created: none of its sets is ever live, and it refuses none as fragmented or full
abbrev pub as_created : Option OnlyPool → Option Pool
as_created None = None
as_created (Some p) = Some (fresh (kinds p.counts) p.max_sets (bits p.flags))

-- the pool has the name 0
abbrev pub only : Option Pool → ℕ → Option Pool
only pool zero = pool
only pool (suc name) = None

-- the ledger of a device: its pool, if it has one, and its counters
abbrev pub owed_of : OnePool → Ledger
owed_of d = record {
  pools = only (as_created d.pool);
  counters = record no_rise { created = d.created.count; destroyed = d.destroyed.count; asked = d.asked.count; released = d.released.count; device_memory = d.refused.count };
}
