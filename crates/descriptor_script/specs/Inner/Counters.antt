-- The counters of a ledger, as a device keeps them.
use Rattle.descriptor_script.specs.declared.counters.Counters.{Counters}
use Rattle.gpu_descriptor_types.specs.Ledger as ledger

-- the counters as the ledger has them: how often each was raised
abbrev pub counters_of : Counters → ledger.Counters
counters_of n = record {
  created = n.created.tally.count;
  destroyed = n.destroyed.tally.count;
  asked = n.asked.tally.count;
  released = n.released.tally.count;
  device_memory = n.device_memory.tally.count;
  host_memory = n.host_memory.tally.count;
  fragmentation = n.fragmentation.tally.count;
  pool_refused = n.pool_refused.tally.count;
}
