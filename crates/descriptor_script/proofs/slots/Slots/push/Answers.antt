use Rattle.std.proofs.lemmas.Grind.{common_steps}
use Rattle.std.proofs.Common.{◌+◌, ◌∷◌, [], length, length-append, sym, ap, ◌∙◌, arith}
use Rattle.descriptor_script.specs.Inner.Marks.{AreClear}
use Rattle.descriptor_script.specs.Sessions.Tickets.{held_sets}
use Rattle.descriptor_script.proofs.Held.{held_few, held_more}
use Rattle.descriptor_script.proofs.Cleared.{clear_more}
use Rattle.descriptor_script.proofs.slots.Slots.push.Goals as goal

pub overflow_add-self : goal.overflow_add-self
overflow_add-self g c = grind (arith, common_steps, held_few)

pub invariant_of-self : goal.invariant_of-self
invariant_of-self g c =
    let s = c.args.self.now in
    record {
      as_long = c.push_reserved-2.ensures.len ∙ ap (λ n. n + 1) s.as_long ∙ sym c.push_reserved.ensures.len;
      clear = (let P = AreClear in rw c.push_reserved-2.ensures.items (clear_more s.listed.items s.clear));
      counted = (let e = ap held_sets c.push_reserved.ensures.items ∙ held_more s.sets.items (c.args.set ∷ []) in
          let l = ap length e ∙ length-append (held_sets s.sets.items) (c.args.set ∷ []) in
          ap (λ n. n + 1) s.counted ∙ sym l);
    }
