use Rattle.std.proofs.Common.{◌≡◌, ℕ, ◌+◌, ◌-◌, List, [], refl, sym, ap, subst}
use Rattle.std.specs.Prelude.{IfSome}
use Rattle.std.proofs.Math.Path.{fun_ext}
use Rattle.gpu_descriptor_types.specs.Ledger.{Pool}
use Rattle.gpu_descriptor_types.specs.Multiset.{LiveSet, times, AreIn}
use Rattle.descriptor_script.specs.Inner.Live.{live_sets_of}
use Rattle.descriptor_script.specs.Inner.Table.{seen}
use Rattle.descriptor_script.specs.declared.live.LivePool.{LivePool}
use Rattle.descriptor_script.proofs.Written.{written, pools_below, sets_still_below, seen_was, on_written, same_pool, none_is_live}
use Rattle.descriptor_script.proofs.pools.Pools.release.Goals as goal

pub unreachable-requires : goal.unreachable-requires
unreachable-requires g c =
    let none = c.requires.live [] c.args.sets.now refl in
    none_is_live c.args.self.now.live c.args.pool none.pool c.in_default.ensures.value none.is_live

pub take_back-requires-clause-live : goal.take_back-requires-clause-live
take_back-requires-clause-live g c xs t y =
    let a = c.requires.live xs t y in
    let old : LivePool = c.in-Some.live.now in
    let same : a.pool ≡ seen old = same_pool c.args.self.now.live c.args.pool old a.pool c.in-Some.ensures.value a.is_live in
    record { gone = a.gone; named = a.named; live = subst (λ (pool : Pool). AreIn a.gone pool.live) same a.live }

pub invariant_of-self : goal.invariant_of-self
invariant_of-self g c =
    let old : LivePool = c.in-Some.live.now in
    let new : LivePool = record old { sets = c.take_back.new.live } in
    let h = written c.args.self.now.live (c.get_mut.follows.lender new) c.args.pool old new c.in-Some.ensures.value (c.get_mut.follows.holds new) in
    record {
      pools_named = pools_below h c.args.self.now.next_pool c.args.self.now.pools_named;
      sets_named = sets_still_below h c.args.self.now.next_set c.args.self.now.sets_named c.take_back.ensures.fresh;
    }

pub returns-clause-released : goal.returns-clause-released
returns-clause-released g c n =
    let old : LivePool = c.in-Some.live.now in
    let new : LivePool = record old { sets = c.take_back.new.live } in
    let h = written c.args.self.now.live (c.get_mut.follows.lender new) c.args.pool old new c.in-Some.ensures.value (c.get_mut.follows.holds new) in
    let back = c.take_back.ensures.back in
    let gone : List LiveSet = back.taken.gone in
    let live : times (live_sets_of new.sets.entries) ≡ (λ x. times (live_sets_of old.sets.entries) x - times gone x) = fun_ext back.less in (
      record {
        items = back.items;
        drained = back.drained;
        gone = gone;
        named = back.taken.named;
        live = subst (λ o. IfSome o (λ (pool : Pool). AreIn gone pool.live)) (sym (seen_was h)) back.taken.live;
        ledger = ap (λ pools. record { pools = pools; counters = record n { released = n.released + 1 } }) (on_written h (λ pool. record pool { live = λ x. pool.live x - times gone x }) (ap (λ (l : LiveSet → ℕ). record (seen old) { live = l }) live));
      },
      back.many,
    )
