use Rattle.std.proofs.lemmas.Grind.{common_steps}
use Rattle.std.proofs.Common.{◌≡◌, ℕ, ◌+◌, nat_eq, List, ◌++◌, map, ap, ◌∙◌, arith}
use Rattle.std.specs.List.{range_with_len}
use Rattle.std.specs.Map.{lookup}
use Rattle.gpu_descriptor_types.specs.Counts.{kinds}
use Rattle.gpu_descriptor_types.specs.Ledger.{live_sets}
use Rattle.gpu_descriptor_types.specs.Layouts.{layout, left}
use Rattle.gpu_descriptor_types.specs.Multiset.{LiveSet, times}
use Rattle.descriptor_script.specs.Inner.Live.{live_sets_of}
use Rattle.descriptor_script.specs.Scripted.Raw.{set_id, raw_sets}
use Rattle.descriptor_script.specs.Inner.Table.{seen}
use Rattle.descriptor_script.specs.declared.live.LivePool.{LivePool}
use Rattle.descriptor_script.proofs.Written.{written, pools_below, sets_below, sets_still_below, free_names, on_written, more_live}
use Rattle.descriptor_script.proofs.pools.Pools.grant.Goals as goal

pub invariant_of-self : goal.invariant_of-self
invariant_of-self g c =
    let old : LivePool = c.in-Some.live.now in
    let new : LivePool = record old { sets = c.reserve.new.self } in
    let h = written c.args.self.now.live (c.get_mut.follows.lender new) c.args.pool old new c.in-Some.ensures.value (c.get_mut.follows.holds new) in
    record {
      pools_named = pools_below h c.args.self.now.next_pool c.args.self.now.pools_named;
      sets_named = sets_still_below h c.args.self.now.next_set c.args.self.now.sets_named (λ j free. ap (lookup (nat_eq j)) c.reserve.ensures.entries ∙ free);
    }

pub fill-requires-clause-fresh : goal.fill-requires-clause-fresh
fill-requires-clause-fresh g c n above =
    let old : LivePool = c.in-Some.live.now in
    let h = written c.args.self.now.live (c.get_mut.follows.lender old) c.args.pool old old c.in-Some.ensures.value (c.get_mut.follows.holds old) in
    ap (lookup (nat_eq n)) c.reserve.ensures.entries ∙ free_names h c.args.self.now.next_set c.args.self.now.sets_named n above

pub invariant_of-self-2 : goal.invariant_of-self-2
invariant_of-self-2 g c = grind (arith, common_steps, pools_below, sets_below, written)

pub returns-clause-pools : goal.returns-clause-pools
returns-clause-pools g c =
    let old : LivePool = c.in-Some.live.now in
    let new : LivePool = record old { sets = c.fill.new.live } in
    let h = written c.args.self.now.live (c.get_mut.follows.lender new) c.args.pool old new c.in-Some.ensures.value (c.get_mut.follows.holds new) in
    let first : ℕ = c.args.self.now.next_set in
    let many : ℕ = left c.args.layouts in
    let counts = (layout c.args.layouts).counts in
    let sets : List LiveSet = live_sets (kinds counts) (map set_id (raw_sets c.args.pool first many)) in
    let put : c.fill.new.live.entries ≡ old.sets.entries ++ map (λ name. (name, counts)) (range_with_len first many) = c.fill.ensures.live ∙ ap (λ l. l ++ map (λ name. (name, counts)) (range_with_len first many)) c.reserve.ensures.entries in
    let live : times (live_sets_of c.fill.new.live.entries) ≡ (λ x. times (live_sets_of old.sets.entries) x + times sets x) = more_live old.sets.entries c.fill.new.live.entries counts c.args.pool first many put in
    on_written h (λ pool. record pool { live = λ x. pool.live x + times sets x }) (ap (λ (l : LiveSet → ℕ). record (seen old) { live = l }) live)
