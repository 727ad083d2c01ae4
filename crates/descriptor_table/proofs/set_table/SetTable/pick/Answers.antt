use Rattle.descriptor_table.proofs.Common.{◌≡◌, ◌-◌, ◌<◌, true, length, refl, set, subst, sym, rules, is_of, list_of, AreSound, slot_at, slots_in, layouts_of, slots_of, chains_in, Chain}
use Rattle.descriptor_table.proofs.Counts.{chain_short, some_of}
use Rattle.descriptor_table.proofs.Entries.{in_place}
use Rattle.descriptor_table.proofs.Heads.{first, taken_sound}
use Rattle.descriptor_table.proofs.Numbers.{list_counted}
use Rattle.descriptor_table.proofs.set_table.SetTable.pick.Goals.{After-at}
use Rattle.descriptor_table.proofs.set_table.SetTable.pick.Goals as goal

pub at-requires : goal.at-requires
at-requires g c = let s = c.args.self.now in let k = list_of c.args.group in (first s k (some_of s k c.get-list.result c.get-list.ensures c.if-list-eq0.false) c.get-list.result (sym c.get-list.ensures)).0

-- the first slot of the list is in it
at : (g : _) (c : After-at g) → (c.get-list.result.first < length (slots_of c.args.self.now)) × (is_of c.args.group (slot_at (slots_of c.args.self.now) c.get-list.result.first) ≡ true)
at g c = let s = c.args.self.now in let k = list_of c.args.group in first s k (some_of s k c.get-list.result c.get-list.ensures c.if-list-eq0.false) c.get-list.result (sym c.get-list.ensures)

pub set_use-requires : goal.set_use-requires
set_use-requires g c = (at g (goal.at.set_use-requires g c).After-at).0

pub pop-requires-clause-few : goal.pop-requires-clause-few
pop-requires-clause-few g c = chain_short c.args.self.now (list_of c.args.group)

pub invariant_of-self-clause-sound : goal.invariant_of-self-clause-sound
invariant_of-self-clause-sound g c =
    let s = c.args.self.now in
    let k = list_of c.args.group in
    in_place (λ chains layouts. AreSound c.set_use.new.self chains layouts s.waiting s.keep) _ _ _ _ c.pop.ensures.chains c.pop.ensures.layouts
    (subst (λ (w : Chain). AreSound c.set_use.new.self (set (chains_in s.lists) k (record { first = c.at.result.now.next; count = w.count - 1 })) (layouts_of s) s.waiting s.keep) c.get-list.ensures
    (taken_sound s k (some_of s k c.get-list.result c.get-list.ensures c.if-list-eq0.false) c.get-list.result (sym c.get-list.ensures) c.set_use.new.self c.set_use.ensures.writes.slots c.at.ensures.next c.set_use.ensures.nexts))

pub invariant_of-self-clause-counted : goal.invariant_of-self-clause-counted
invariant_of-self-clause-counted g c = list_counted c.args.self.now (slots_in c.set_use.new.self) c.get-list.result.first _ c.set_use.ensures.writes.slots (at g (goal.at.invariant_of-self-clause-counted g c).After-at).0 refl refl (list_of c.args.group) _ c.pop.new.self c.pop.ensures

pub returns : goal.returns
returns g c = search (rules, at g (goal.at.returns g c).After-at)
