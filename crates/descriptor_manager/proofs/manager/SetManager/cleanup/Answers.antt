use Rattle.descriptor_manager.proofs.Common.{rules, ap, ids_of, option_map, slots_in, whole, whole_in}
use Rattle.descriptor_manager.proofs.Owned.{sets_stay}
use Rattle.descriptor_manager.proofs.Naming.{cleaned_names}
use Rattle.descriptor_manager.proofs.Arriving.{none_left}
use Rattle.descriptor_manager.proofs.Back.{cleaned_empty}
use Rattle.descriptor_manager.proofs.manager.SetManager.cleanup.Goals as goal

pub invariant_of-self-clause-sets : goal.invariant_of-self-clause-sets
invariant_of-self-clause-sets g c = sets_stay c.cleanup.ensures.settles c.args.self.now.sets

pub returns-clause-emptied : goal.returns-clause-emptied
returns-clause-emptied g c = λ held waits. c.cleanup.ensures.emptied (cleaned_empty (whole_in (ids_of c.cleanup.new.self.table)) (λ s none. ap (option_map (λ x. whole (ids_of c.cleanup.new.self.table s.layout, x))) none) (slots_in c.args.self.now.store) (slots_in c.cleanup.new.self) c.args.self.now.sets.rest.placed c.cleanup.ensures.cleaned held waits)

pub returns-clause-none_kept : goal.returns-clause-none_kept
returns-clause-none_kept g c = none_left (slots_in c.args.self.now.store) (slots_in c.cleanup.new.self) c.cleanup.ensures.cleaned

pub returns-clause-names : goal.returns-clause-names
returns-clause-names g c = search (rules, cleaned_names)
