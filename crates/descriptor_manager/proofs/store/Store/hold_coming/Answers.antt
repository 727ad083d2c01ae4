use Rattle.descriptor_manager.proofs.Common.{◌∙◌, subst, arith, length-set, take_all, AllFit, ComesOf, slots_in}
use Rattle.descriptor_manager.proofs.Joining.{holds_after, held_stays, all_of_after, layout_stays, stays_then, one_more}
use Rattle.descriptor_manager.proofs.store.Store.hold_coming.Goals as goal

pub hold_last-requires-clause-layout : goal.hold_last-requires-clause-layout
hold_last-requires-clause-layout g c = layout_stays _ _ _ c.loop-index.invariant.stays.settings c.requires.layout

pub hold_last-requires-clause-known : goal.hold_last-requires-clause-known
hold_last-requires-clause-known g c =
    let was = c.loop-index.invariant in
    let keyed = c.requires.known in
    (keyed.0, was.own keyed.0 keyed.1, all_of_after g.D.DescriptorDevice.meaning keyed.0 c.args.layout (ComesOf g.D.DescriptorDevice.meaning keyed.0 c.args.layout) _ _ (λ n x come. come.1) (was.keeps keyed.0 keyed.1).sets keyed.2)

pub loop-index-preserved : goal.loop-index-preserved
loop-index-preserved g c =
    let was = c.loop-index.invariant in
    let now = c.hold_last.ensures in
    let i = c.loop-index.index in
    let s = c.args.self.now in
    let new = c.hold_last.new.self in
    let here = held_stays _ _ _ _ _ s c.loop-index.self was.stays now.holds in
    let more = one_more g.N.SetName g.met.N.SetName.each _ _ _ c.requires.live c.loop-index.names i _ _ _ _ (omega arith) was.holds here was.fit now.fits in
    record {
      long = length-set _ _ _ ∙ was.long;
      holds = more.0;
      fit = more.1;
      fewer = omega arith;
      own = λ known own. now.own known (was.own known own);
      table = now.table;
      stays = stays_then _ _ _ was.stays now.stays;
      keeps = λ known own. holds_after (ComesOf g.D.DescriptorDevice.meaning known c.args.layout) _ _ _ _ _ _ _ _ (λ n x come. come) c.requires.live now.holds (was.keeps known own) (now.keeps known (was.own known own));
    }

pub returns-then-capacity-gt-MAX_COMING-clause-fit : goal.returns-then-capacity-gt-MAX_COMING-clause-fit
returns-then-capacity-gt-MAX_COMING-clause-fit g c = subst (AllFit g.N.SetName.handle_of g.N.SetName.fit (slots_in c.loop-index.self)) (take_all c.loop-index.index c.loop-index.names (let end = c.loop-index-test.false in let long = c.loop-index.invariant.long in omega arith)) c.loop-index.invariant.fit

pub returns-else-capacity-gt-MAX_COMING-clause-fit : goal.returns-else-capacity-gt-MAX_COMING-clause-fit
returns-else-capacity-gt-MAX_COMING-clause-fit g c = subst (AllFit g.N.SetName.handle_of g.N.SetName.fit (slots_in c.loop-index.self)) (take_all c.loop-index.index c.loop-index.names (let end = c.loop-index-test.false in let long = c.loop-index.invariant.long in omega arith)) c.loop-index.invariant.fit

pub returns-then-capacity-gt-MAX_COMING-clause-keeps : goal.returns-then-capacity-gt-MAX_COMING-clause-keeps
returns-then-capacity-gt-MAX_COMING-clause-keeps g c known own =
    let was = c.loop-index.invariant.keeps known own in
    record { side = was.side; sets = was.sets; grows = was.grows; stays = record { settings = was.stays.settings; limit = was.stays.limit; bound = was.stays.bound; besides = was.stays.besides } }
