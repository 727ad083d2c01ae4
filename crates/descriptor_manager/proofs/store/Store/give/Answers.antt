use Rattle.descriptor_manager.proofs.Common.{common_steps, ◌≡◌, refl, arith, is_of, count, slots_of, count_none, side_of}
use Rattle.descriptor_manager.proofs.Given.{none_turns, returns_none}
use Rattle.descriptor_manager.proofs.store.Store.give.Goals as goal

pub returns-then-is_empty-clause-frees : goal.returns-then-is_empty-clause-frees
returns-then-is_empty-clause-frees g c =
    let slots = slots_of c.args.self.now.table in
    let zero : count (is_of c.args.group) slots ≡ 0 = grind (arith, common_steps) in
    let none = count_none (is_of c.args.group) slots refl zero in
    grind (arith, common_steps, none_turns (is_of c.args.group) slots none, returns_none g.D.DescriptorDevice.meaning c.args.self.now.allocator (side_of c.args.self.now).ledger)
