use Rattle.std.proofs.Common.{Some, sym, ◌∙◌}
use Rattle.gpu_descriptor_types.specs.Counts.{kinds}
use Rattle.gpu_descriptor_types.specs.Flags.{bits}
use Rattle.gpu_descriptor_types.specs.Ledger.{fresh}
use Rattle.descriptor_examples.specs.OwnDevice.{as_created}
use Rattle.descriptor_examples.proofs.OnePools.{no_pool, only_updated}
use Rattle.descriptor_examples.proofs.own_device.OnePoolDescriptorDeviceDescriptorTotalCountU64U64.create_descriptor_pool.Goals as goal

pub returns-clause-new_name : goal.returns-clause-new_name
returns-clause-new_name c = no_pool c.args.self.now.pool (sym c.is_some.ensures ∙ c.if-is_some.false)

pub returns-clause-ok : goal.returns-clause-ok
returns-clause-ok c = λ i. record {
  pools = sym (only_updated (as_created c.args.self.now.pool) (Some (fresh (kinds c.args.counts.now) c.args.max_sets (bits c.args.flags)))) i;
  counters = record { created = c.next-self-2.ensures i; destroyed = c.args.self.now.destroyed.count; asked = c.args.self.now.asked.count; released = c.args.self.now.released.count; device_memory = c.args.self.now.refused.count; host_memory = 0; fragmentation = 0; pool_refused = 0 };
}
