use Rattle.std.proofs.lemmas.List.{nil_from_length}
use Rattle.descriptor_manager.proofs.Common.{◌≡◌, ap, arith, length, option_map, ◌∙◌, subst, true, Allocations, Rendering, Side, ids_of, is_held_use, outstanding_of, side, side_of, slot_at, slots_in, waits_for, whole, whole_in}
use Rattle.descriptor_manager.specs.Managers.{slots_of}
use Rattle.gpu_descriptor.specs.Caller.CleansUp.{Sweeps}
use Rattle.descriptor_manager.proofs.Back.{left_none, no_sets, none_used}
use Rattle.descriptor_manager.proofs.manager.SetManager.shutdown.Goals as goal

pub returns-clause-pools : goal.returns-clause-pools
returns-clause-pools g c =
    let slots = slots_of c.free_all.new.self in
    let none = left_none (slots_of c.args.self) slots c.free_all.ensures.frees.turns in
    ap (λ l. l.pools) c.into_device.ensures ∙ c.cleanup.ensures.emptied (none_used is_held_use slots none) (none_used (waits_for (λ w. true)) slots none) ∙ ap (λ (r : Rendering g.row.L.Denot g.row.P.Denot g.row.S.Denot). r.pools_besides) c.free_all.ensures.rest

pub returns-clause-calls : goal.returns-clause-calls
returns-clause-calls g c =
    let s = c.free_all.new.self.store in
    let left = left_none (slots_of c.args.self) (slots_in s) c.free_all.ensures.frees.turns in
    let empty = no_sets (whole_in (ids_of s.table)) (slots_in s) (λ p within. ap (option_map (λ x. whole (ids_of s.table (slot_at (slots_in s) p).layout, x))) (left p)) in
    let none : outstanding_of s.allocator ≡ 0 = omega (arith, s.accounted, ap length empty, ap length c.free_all.new.self.sets.rest.none_coming) in
    let cleans = c.cleanup.ensures.cleans in
    let same = cleans.back.returns.back.none (nil_from_length cleans.back.sets (omega (arith, cleans.back.returns.back.outstanding, none))) in
    record {
      mid = side_of s;
      back = c.free_all.ensures.frees.back;
      none = none;
      end = side_of c.cleanup.new.self.store;
      destroys = subst (λ (m : Side (Allocations g.row.P.Denot)). Sweeps true g.D.DescriptorDevice.meaning m (side_of c.cleanup.new.self.store)) (λ i. side (same.0 i) (same.1 i)) cleans.cleans;
      leaves = c.into_device.ensures;
    }
