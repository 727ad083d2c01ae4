use Rattle.descriptor_manager.proofs.Common.{common_steps, Settings, is_usable, ◌≡◌, [], length, true≢false, sym, ap, ◌∙◌, arith, slot_at, layout_slots}
use Rattle.descriptor_manager.proofs.Owned.{found_none}
use Rattle.descriptor_manager.proofs.manager.SetManager.new.Goals as goal

pub invariant_of-result-clause-sets : goal.invariant_of-result-clause-sets
invariant_of-result-clause-sets g c =
    let none : layout_slots c.new-2.result ≡ [] = c.new-2.ensures.slots in
    let store = c.new.ensures in
    record {
      rest = store.rest;
      own = λ n known at p x full is. absurd (let e = sym (ap (λ l. (slot_at l p).set) store.slots) ∙ full in cc);
      there = λ n some. ap (λ (s : Settings). s.removed n) store.settings;
      free = λ n usable. absurd (true≢false (sym usable ∙ ap (λ l. is_usable (slot_at l n)) none));
      numbers = ap (λ (s : Settings). s.layouts) store.settings ∙ ap length (sym none);
      number = ap (λ (s : Settings). s.number) store.settings;
    }

pub returns-clause-layouts : goal.returns-clause-layouts
returns-clause-layouts g c handle = grind (arith, common_steps, found_none)
