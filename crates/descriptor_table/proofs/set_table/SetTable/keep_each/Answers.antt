use Rattle.descriptor_table.proofs.Common.{common_steps, ◌≡◌, ◌∙◌, ◌+◌, ◌<◌, length, refl, sym, subst, arith, chain_at, chains_in, layouts_of, removed_of, slots_in, slots_of, users_in, AreCounted, AreSound, KeptOf, Some, SetTable, Kept, ap, length-set, place_at, slot_at, used_for, ℕ, last_or, None, walk, nexts_in, get_or}
use Rattle.descriptor_table.proofs.Chains.{and_true, unheld}
use Rattle.descriptor_table.proofs.Counts.{chain_counts}
use Rattle.descriptor_table.proofs.Entries.{in_place}
use Rattle.descriptor_table.proofs.Holding.{held_is}
use Rattle.descriptor_table.proofs.Keeping.{few_kept, kept_sound}
use Rattle.descriptor_table.proofs.Listed.{other_slots, slot_set}
use Rattle.descriptor_table.proofs.Names.{handles_long, names_last, place_read}
use Rattle.std.proofs.lemmas.Option.{get_or_from_slice_get, slice_get_within}
use Rattle.descriptor_table.proofs.Relisted.{group_within}
use Rattle.descriptor_table.proofs.Reusing.{Reused, reused_counted, reused_each, reused_none, took_sound}
use Rattle.descriptor_table.proofs.set_table.SetTable.keep_each.Goals.{In-Some-use_each}
use Rattle.descriptor_table.proofs.set_table.SetTable.keep_each.Goals as goal

pub invariant_of-self-clause-sound : goal.invariant_of-self-clause-sound
invariant_of-self-clause-sound g c = let s = c.args.self.now in took_sound s.slots c.use_each.new.self (chains_in s.lists) (layouts_of s) s.waiting s.keep s.sound _ (reused_none _ _ (c.in_default-use_each.ensures.none refl)) c.use_each.ensures.nexts

pub invariant_of-self-clause-counted : goal.invariant_of-self-clause-counted
invariant_of-self-clause-counted g c = let s = c.args.self.now in subst (λ l. AreCounted l (layouts_of s) (removed_of s) (users_in s.users)) (sym (c.in_default-use_each.ensures.none refl)) s.counted

module _ (g : _) (c : In-Some-use_each g) where
  abbrev s : SetTable g.row.T.Denot
  s = c.args.self.now

  abbrev layout : ℕ
  layout = c.in-Some-list_with_room.layout

  -- the sets of the names are kept
  reused : Reused (Some layout) Kept (walk (length c.args.names.now) (nexts_in c.use_each.new.self) c.in-Some-use_each.first) (slots_of s) (slots_in c.use_each.new.self)
  reused = (let e = c.in-Some-use_each.ensures in reused_each s.number (g.N.SetName.handles_of c.args.names.now) (Some layout) Kept _ _ _ (e.once refl).0 (e.may refl) (e.used refl) e.linked)

  last : last_or None (walk (length c.args.names.now) (nexts_in c.use_each.new.self) c.in-Some-use_each.first) ≡ Some c.handle.result.place
  last = ap (last_or None) c.in-Some-use_each.ensures.linked ∙ names_last g.N.SetName g.met.N.SetName.each c.args.names.now c.in-Some.name.now c.handle.result c.in-Some.ensures.value c.handle.ensures

  ends : get_or (nexts_in c.use_each.new.self) c.handle.result.place 0 ≡ (chain_at (chains_in s.lists) (layout + 2)).first
  ends =
      let some : 0 < length c.args.names.now = slice_get_within c.args.names.now 0 c.in-Some.name.now (sym c.in-Some.ensures.value) in
      let at = place_read g.N.SetName g.met.N.SetName.each c.args.names.now 0 c.in-Some.name.now c.handle.result some (sym (get_or_from_slice_get c.args.names.now 0 c.in-Some.name.now c.in-Some.name.now (sym c.in-Some.ensures.value))) c.handle.ensures in
      subst (λ p. get_or (nexts_in c.use_each.new.self) p 0 ≡ (chain_at (chains_in s.lists) (layout + 2)).first) at (c.in-Some-use_each.ensures.ends refl some ∙ c.first-next.ensures)

  few : (chain_at (chains_in s.lists) (layout + 2)).count + length c.args.names.now < 4294967295
  few = omega (arith, few_kept layout c.in-Some-use_each.first (length c.args.names.now) c.handle.result.place s.slots c.use_each.new.self (chains_in s.lists) (layouts_of s) s.waiting s.keep s.sound reused c.use_each.ensures.nexts last ends, reused.long, s.sound.size)

pub overflow_cast-names : goal.overflow_cast-names
overflow_cast-names g c = omega (arith, few g (goal.at.overflow_cast-names g c).In-Some-use_each)

pub prepend-requires-clause-few : goal.prepend-requires-clause-few
prepend-requires-clause-few g c = few g (goal.at.prepend-requires-clause-few g c).In-Some-use_each

pub invariant_of-self-2 : goal.invariant_of-self-2
invariant_of-self-2 g c =
    let d = (goal.at.invariant_of-self-2 g c).In-Some-use_each in
    let s = c.args.self.now in
    let n = c.in-Some-list_with_room.layout in
    let to = c.prepend.ensures in
    let kept = kept_sound n c.in-Some-use_each.first (length c.args.names.now) c.handle.result.place s.slots c.use_each.new.self (chains_in s.lists) (layouts_of s) s.waiting s.keep s.sound (reused g d) c.use_each.ensures.nexts (last g d) (ends g d) in
    record {
      sound = in_place (λ chains layouts. AreSound c.use_each.new.self chains layouts s.waiting s.keep) _ _ _ _ to.chains to.layouts (kept (omega (arith, c.in-Some-list_with_room.ensures.1, chain_counts s (n + 2))) (group_within s.lists (KeptOf n) c.in-Some-list_with_room.ensures.0));
      counted = in_place (λ layouts removed. AreCounted (slots_in c.use_each.new.self) layouts removed (users_in s.users)) _ _ _ _ to.layouts to.removed
          (reused_counted (Some n) Kept (unheld Kept refl) s.slots c.use_each.new.self (chains_in s.lists) (layouts_of s) s.waiting s.keep s.sound _ (reused g d) c.use_each.ensures.nexts (removed_of s) (users_in s.users) s.counted);
    }

-- one set
pub returns-then-names-eq1-clause-back : goal.returns-then-names-eq1-clause-back
returns-then-names-eq1-clause-back g c = λ t.
    let name = c.in-Some.name.now in
    let handles = g.N.SetName.handles_of c.args.names.now in
    let old = slots_of c.args.self.now in
    let p = (g.N.SetName.handle_of name).place in
    let kept = c.keep_named.ensures in
    let one = c.if-names-eq1.true in
    let at : place_at handles 0 ≡ p = place_read g.N.SetName g.met.N.SetName.each c.args.names.now 0 name (g.N.SetName.handle_of name) (omega arith) (sym (get_or_from_slice_get c.args.names.now 0 name name (sym c.in-Some.ensures.value))) refl in
    let long = handles_long g.N.SetName g.met.N.SetName.each c.args.names.now in
    let here = slot_set old p (used_for Kept (slot_at old p)) (held_is c.args.self.now.number old (g.N.SetName.handle_of name) (and_true _ _ (kept.held t)).1).within in
    grind (arith, common_steps, long, at, here, kept.keeps t, kept.may t, length-set, other_slots old p (used_for Kept (slot_at old p)))
