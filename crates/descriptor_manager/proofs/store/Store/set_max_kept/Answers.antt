use Rattle.descriptor_manager.proofs.Common.{ap, common_steps, ◌∙◌, ◌+◌, subst, arith, rules, filter_map, goes, Turns, Becomes, is_kept, slots_of, vacated, MayBecome, whole_in}
use Rattle.descriptor_table.specs.Slots.{slots_in}
use Rattle.descriptor_manager.proofs.Given.{accounted_as, exact_as, turned_whole}
use Rattle.descriptor_manager.proofs.Back.{given_kept, left}
use Rattle.descriptor_manager.proofs.Arriving.{follow_turns, follows_vacated, none_goes, arrived, same_arrives}
use Rattle.descriptor_manager.proofs.store.Store.set_max_kept.Goals.{After-give, After-set_max_kept}
use Rattle.descriptor_manager.proofs.store.Store.set_max_kept.Goals as goal

pub invariant_of-self : goal.invariant_of-self
invariant_of-self g c =
    let same = (λ i. filter_map (whole_in (c.set_max_kept.ensures.ids i)) (slots_in (c.set_max_kept.ensures.slots i))) ∙ turned_whole _ _ c.trim.ensures.turns.stays c.trim.ensures.turns.slots (search rules) in
    record { agree = search rules; exact = exact_as c.args.self.now same; accounted = accounted_as c.args.self.now same }

-- those that were let go were returned
gives : (g : _) (c : After-give g) → Turns goes (Becomes vacated) (slots_of c.trim.new.self) (slots_of c.give.new.self.table)
gives g c = subst (λ v. Turns goes (Becomes vacated) (slots_in v) (slots_of c.give.new.self.table)) c.set_max_kept.ensures.slots c.give.ensures.frees.turns

all : (g : _) (c : After-give g) → Turns is_kept (MayBecome vacated) (slots_of c.args.self.now.table) (slots_of c.give.new.self.table)
all g c = search (rules, gives, left, none_goes)

pub returns-clause-few : goal.returns-clause-few
returns-clause-few g c = λ layout.
    let same = given_kept (slots_of c.trim.new.self) (slots_of c.give.new.self.table) (gives g c) (layout + 2) (omega arith) in
    omega arith

pub returns-clause-as_many : goal.returns-clause-as_many
returns-clause-as_many g c = grind (arith, common_steps, given_kept, gives)

pub returns-clause-settles : goal.returns-clause-settles
returns-clause-settles g c = arrived _ _ _ (follow_turns (all g c) (λ o n step. search (rules, follows_vacated, same_arrives))) (ap (λ v. v.items) c.give.ensures.coming ∙ c.requires.rest.none_coming) c.requires.rest (search rules)
