use Rattle.descriptor_script.specs.declared.live.LivePool.{LivePool}
use Rattle.descriptor_script.proofs.Written.{written, pools_below, sets_still_below}
use Rattle.descriptor_script.proofs.pools.Pools.count_refusal.Goals as goal

pub invariant_of-self : goal.invariant_of-self
invariant_of-self c =
    let old : LivePool = c.in-Some.live.now in
    let new : LivePool = record old { refusals = c.next-live.result } in
    let h = written c.args.self.now.live (c.get_mut.follows.lender new) c.args.pool old new c.in-Some.ensures.value (c.get_mut.follows.holds new) in
    record {
      pools_named = pools_below h c.args.self.now.next_pool c.args.self.now.pools_named;
      sets_named = sets_still_below h c.args.self.now.next_set c.args.self.now.sets_named (λ j free. free);
    }
