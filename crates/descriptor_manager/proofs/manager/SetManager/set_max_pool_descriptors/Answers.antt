use Rattle.descriptor_manager.proofs.Common.{rules, ap, sym, ◌∙◌, slot_at, slots_of}
use Rattle.descriptor_manager.proofs.manager.SetManager.set_max_pool_descriptors.Goals as goal

pub invariant_of-self-clause-sets : goal.invariant_of-self-clause-sets
invariant_of-self-clause-sets g c =
    let was = c.args.self.now.sets in
    let table = c.set_max_pool_descriptors.ensures.table in
    record {
      rest = search rules;
      own = λ n known at p x full is. was.own n known at p x (ap (λ t. (slot_at (slots_of t) p).set) (sym table) ∙ full) (ap (λ t. (slot_at (slots_of t) p).layout) (sym table) ∙ is);
      there = search rules;
      free = search rules;
      numbers = search rules;
      number = search rules;
    }
