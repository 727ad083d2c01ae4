use Rattle.descriptor_table.proofs.Common.{common_steps, arith, get_or-map, length-map, map-set, users_in}
use Rattle.descriptor_table.specs.declared.users.LayoutUse.{LayoutUse}
use Rattle.descriptor_table.proofs.Numbers.{free_less, last_free}
use Rattle.descriptor_table.proofs.users.LayoutUsers.take.Goals as goal

pub returns-clause-users : goal.returns-clause-users
returns-clause-users c = map-set (λ (l : LayoutUse). l.count) c.args.self.now.uses.items c.in_ok-layout.layout (record { count = 1; id = c.index_mut.result.now.id })

pub index_mut-requires : goal.index_mut-requires
index_mut-requires c = let u = c.args.self.now in grind (arith, common_steps, get_or-map, length-map, map-set, last_free u.free.items c.pop.new.self.items (users_in u) c.in_ok-layout.layout)

pub invariant_of-self-2 : goal.invariant_of-self-2
invariant_of-self-2 c = let u = c.args.self.now in grind (arith, common_steps, get_or-map, length-map, map-set, free_less u.free.items c.pop.new.self.items (users_in u) c.in_ok-layout.layout)

pub returns-clause-within : goal.returns-clause-within
returns-clause-within c = let u = c.args.self.now in grind (arith, common_steps, get_or-map, length-map, map-set, last_free u.free.items c.pop.new.self.items (users_in u) c.in_ok-layout.layout)

pub returns-clause-free : goal.returns-clause-free
returns-clause-free c = let u = c.args.self.now in grind (arith, common_steps, get_or-map, length-map, map-set, last_free u.free.items c.pop.new.self.items (users_in u) c.in_ok-layout.layout)
