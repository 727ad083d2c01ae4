use Rattle.descriptor_table.proofs.Common.{◌≡◌, ◌<◌, ◌∙◌, length, refl, sym, arith, place_at, slots_in}
use Rattle.descriptor_table.proofs.Holding.{first_more}
use Rattle.descriptor_table.proofs.Names.{place_read}
use Rattle.descriptor_table.proofs.slot_list.SlotList.hold_each.Goals.{After-handle}
use Rattle.descriptor_table.proofs.slot_list.SlotList.hold_each.Goals as goal

-- the place of the next name, which is there
at : (g : _) (c : After-handle g) → (place_at (g.N.SetName.handles_of c.args.names.now) c.loop-index.index ≡ c.handle.result.place) × (c.handle.result.place < length (slots_in c.loop-index.self))
at g c =
    let read = place_read g.N.SetName g.met.N.SetName.each c.args.names.now c.loop-index.index c.index-names-index.result c.handle.result (omega arith) c.index-names-index.is c.handle.ensures in
    (read, omega (arith, read, c.requires.within c.loop-index.index c.loop-index-test.true, c.loop-index.invariant.first.long))

pub set_use-requires : goal.set_use-requires
set_use-requires g c = (at g (goal.at.set_use-requires g c).After-handle).1

pub loop-index-preserved : goal.loop-index-preserved
loop-index-preserved g c =
    let d = at g (goal.at.loop-index-preserved g c).After-handle in
    let inv = c.loop-index.invariant in
    record {
      first = first_more _ _ _ _ _ _ _ _ inv.first (λ i less e. c.requires.apart i c.loop-index.index less c.loop-index-test.true (e ∙ sym d.0)) d.0 d.1 c.set_use.ensures.writes.slots (λ o x is. is) refl;
      nexts = c.set_use.ensures.nexts ∙ inv.nexts;
      space = c.set_use.ensures.writes.space ∙ inv.space;
    }
