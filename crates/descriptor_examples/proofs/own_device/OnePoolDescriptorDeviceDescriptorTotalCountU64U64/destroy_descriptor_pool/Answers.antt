use Rattle.std.proofs.Common.{◌≡◌, Option, None, sym, ap, ◌∙◌}
use Rattle.std.specs.Map.{update}
use Rattle.std.specs.Prelude.{nat_eq}
use Rattle.gpu_descriptor_types.specs.Ledger.{Pool}
use Rattle.descriptor_examples.specs.OwnDevice.{as_created, only}
use Rattle.descriptor_examples.proofs.OnePools.{only_named, only_updated}
use Rattle.descriptor_examples.proofs.own_device.OnePoolDescriptorDeviceDescriptorTotalCountU64U64.destroy_descriptor_pool.Goals as goal

pub returns : goal.returns
returns c =
    let pool : Option Pool = as_created c.args.self.now.pool in
    let named : c.args.pool ≡ 0 = only_named pool c.args.pool c.requires.pool c.requires.is_live in
    let gone : only None ≡ update nat_eq (only pool) c.args.pool None = sym (only_updated pool None) ∙ ap (λ k. update nat_eq (only pool) k None) (sym named) in
    λ i. record {
      pools = gone i;
      counters = record { created = c.args.self.now.created.count; destroyed = c.next-self.ensures i; asked = c.args.self.now.asked.count; released = c.args.self.now.released.count; device_memory = c.args.self.now.refused.count; host_memory = 0; fragmentation = 0; pool_refused = 0 };
    }
