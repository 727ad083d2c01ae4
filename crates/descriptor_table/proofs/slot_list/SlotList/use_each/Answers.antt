use Rattle.descriptor_table.proofs.Common.{◌≡◌, ◌∙◌, length, refl, sym, arith}
use Rattle.descriptor_table.proofs.Holding.{first_all}
use Rattle.descriptor_table.proofs.Linking.{back_all, held_back, linked_more}
use Rattle.descriptor_table.proofs.Named.{other_place, used_all, used_more, used_no, was_held}
use Rattle.descriptor_table.proofs.Names.{handles_long, place_read}
use Rattle.descriptor_table.proofs.Sound.{same_long}
use Rattle.descriptor_table.proofs.slot_list.SlotList.use_each.Goals as goal

pub loop-index-preserved : goal.loop-index-preserved
loop-index-preserved g c =
    let inv = c.loop-index.invariant in
    let set = c.if-not-use_named.ensures in
    let x = c.index-names-index.result in
    let may = sym set.named in
    let apart = other_place _ _ _ _ _ _ _ _ _ inv.used x c.loop-index-test.true c.index-names-index.is c.requires.other may in
    let held = was_held _ _ _ _ _ _ _ _ _ inv.used x c.loop-index-test.true c.index-names-index.is c.requires.other may in
    record {
      used = used_more _ _ _ _ _ _ _ _ _ inv.used x c.loop-index-test.true c.index-names-index.is c.requires.other may _ (set.writes refl).slots;
      linked = rw c.handle-first.ensures (linked_more _ _ _ _ _ _ _ _ _ held.used apart (place_read g.N.SetName g.met.N.SetName.each _ _ x _ c.loop-index-test.true c.index-names-index.is refl) held.within (same_long c.args.self.now) (set.nexts refl) inv.linked);
      space = set.space ∙ inv.space;
    }

pub returns-then-not-use_named-clause-all : goal.returns-then-not-use_named-clause-all
returns-then-not-use_named-clause-all g c = λ none once. absurd (used_no _ _ _ _ _ _ _ _ _ c.loop-index.invariant.used c.index-names-index.result c.loop-index-test.true c.index-names-index.is (sym c.if-not-use_named.ensures.named) none once)

pub returns-then-not-use_named-clause-none : goal.returns-then-not-use_named-clause-none
returns-then-not-use_named-clause-none g c = λ n. let back = c.hold_each.ensures in held_back _ _ _ _ _ _ _ c.loop-index.invariant.used.held c.loop-index.invariant.used.first (rw (sym (c.if-not-use_named.ensures.none refl)) (record { long = back.long; named = back.held; rest = back.rest }))

pub returns-clause-once : goal.returns-clause-once
returns-clause-once g c = λ t. used_all _ _ _ _ _ _ _ _ _ c.loop-index.invariant.used c.loop-index-test.false

-- all names
all : (g : _) (c : goal.After-loop-index g) → length (g.N.SetName.handles_of c.args.names.now) ≡ c.loop-index.index
all g c = omega (arith, c.loop-index.auto.index-end, handles_long g.N.SetName g.met.N.SetName.each c.args.names.now)

pub returns-clause-used : goal.returns-clause-used
returns-clause-used g c = λ t. first_all _ _ _ _ _ (sym (all g c)) c.loop-index.invariant.used.first

pub returns-clause-linked : goal.returns-clause-linked
returns-clause-linked g c =
    let long = handles_long g.N.SetName g.met.N.SetName.each c.args.names.now in
    rw (sym long ∙ all g c) (c.loop-index.invariant.linked.places ∙ back_all _ _ (sym (all g c)))
