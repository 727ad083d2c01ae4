use Rattle.descriptor_manager.proofs.Common.{◌≡◌, ℕ, ◌+◌, ◌<◌, ◌∙◌, [], ◌∷◌, true, refl, sym, subst, arith, length-set, take_all, AllFit, is_kept_of, slot_at, place_at, handles_long, handles_written, NoneComes, slots_in}
use Rattle.descriptor_manager.proofs.Joining.{holds_after, held_stays, were_kept, one_more}
use Rattle.descriptor_manager.proofs.store.Store.hold_kept.Goals as goal

pub loop-index-preserved : goal.loop-index-preserved
loop-index-preserved g c =
    let was = c.loop-index.invariant in
    let now = c.hold_next.ensures in
    let i = c.loop-index.index in
    let s = c.args.self.now in
    let handle = g.N.SetName.handle_of c.hold_next.result in
    let written = handles_written g.N.SetName g.met.N.SetName.each c.loop-index.names i c.hold_next.result handle refl in
    let all = handles_long g.N.SetName g.met.N.SetName.each c.loop-index.names in
    let here = held_stays c.args.layout c.args.used (handle ∷ []) (slots_in c.loop-index.self) (slots_in c.hold_next.new.self) s c.loop-index.self was.keeps.stays now.holds in
    let more = one_more g.N.SetName g.met.N.SetName.each s.table.number c.args.layout c.args.used c.requires.live c.loop-index.names i c.hold_next.result (slots_in s) (slots_in c.loop-index.self) (slots_in c.hold_next.new.self) (omega arith) was.holds here was.fit now.fits in
    record {
      long = length-set c.loop-index.names i c.hold_next.result ∙ was.long;
      holds = more.0;
      fit = more.1;
      were_kept = subst (λ l. (j : ℕ) → j < i + 1 → is_kept_of c.args.layout (slot_at (slots_in s) (place_at l j)) ≡ true) (sym written)
          (were_kept s.table.number c.args.used c.args.layout i (g.N.SetName.handles_of c.loop-index.names) handle (slots_in s) (slots_in c.loop-index.self) c.requires.live (omega arith) was.holds was.were_kept now.was_kept);
      fewer = (let a = was.fewer in let b = now.fewer in omega arith);
      as_many = now.as_many ∙ was.as_many;
      table = λ n room. now.table n (was.table n room);
      coming = now.coming ∙ was.coming;
      keeps = holds_after NoneComes NoneComes _ _ _ _ _ _ _ (λ n x none. none) c.requires.live now.holds was.keeps now.keeps;
    }

pub returns-clause-fit : goal.returns-clause-fit
returns-clause-fit g c = subst (AllFit g.N.SetName.handle_of g.N.SetName.fit (slots_in c.loop-index.self)) (take_all c.loop-index.index c.loop-index.names (let end = c.loop-index-test.false in let long = c.loop-index.invariant.long in omega arith)) c.loop-index.invariant.fit
