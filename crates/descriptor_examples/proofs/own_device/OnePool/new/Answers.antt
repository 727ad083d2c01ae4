use Rattle.descriptor_examples.proofs.OnePools.{only_none}
use Rattle.descriptor_examples.proofs.own_device.OnePool.new.Goals as goal

pub returns : goal.returns
returns c = λ i. record {
  pools = only_none i;
  counters = record { created = c.zero.ensures i; destroyed = c.zero-2.ensures i; asked = c.zero-3.ensures i; released = c.zero-4.ensures i; device_memory = c.zero-5.ensures i; host_memory = 0; fragmentation = 0; pool_refused = 0 };
}
