use Rattle.std.proofs.Common.{[], ◌∷◌, refl, sym}
use Rattle.descriptor_examples.specs.OwnDevice.{as_created, only}
use Rattle.descriptor_examples.proofs.OnePools.{none_in, none_live, on_only, released_none}
use Rattle.descriptor_examples.proofs.own_device.OnePoolDescriptorDeviceDescriptorTotalCountU64U64.dealloc_descriptor_sets.Goals as goal

pub unreachable-requires : goal.unreachable-requires
unreachable-requires g c =
    none_live c.args.self.now c.args.pool.now c.in-Some.field-0 (c.requires.live (c.in-Some.field-0 ∷ []) c.next.new.self (c.next.new.self, c.in-Some.ensures.steps, refl))

pub returns-clause-released : goal.returns-clause-released
returns-clause-released g c =
    let h = c.requires.live [] c.args.sets.now refl in
    let same = on_only _ c.args.self.now.pool c.args.pool.now h.pool h.is_live (released_none c.args.self.now.pool) in
    record {
      items = [];
      drained = (c.args.sets.now, refl, c.in-None.ensures.steps);
      gone = [];
      named = refl;
      live = none_in (only (as_created c.args.self.now.pool) c.args.pool.now);
      ledger = λ i. record {
        pools = sym same i;
        counters = record { created = c.args.self.now.created.count; destroyed = c.args.self.now.destroyed.count; asked = c.args.self.now.asked.count; released = c.next-self.ensures i; device_memory = c.args.self.now.refused.count; host_memory = 0; fragmentation = 0; pool_refused = 0 };
      };
    }
