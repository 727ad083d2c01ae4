use Rattle.descriptor_table.proofs.Common.{◌+◌, refl, arith, length-set}
use Rattle.descriptor_table.proofs.Numbers.{count_is, counts_set, free_stays}
use Rattle.descriptor_table.proofs.users.LayoutUsers.join.Goals as goal

pub invariant_of-self : goal.invariant_of-self
invariant_of-self c =
    let u = c.args.self.now in
    let e = c.index_mut-users.result.now in
    let is = c.index_mut-users.ensures.value in
    let n = c.args.layout in
    record {
      listed = free_stays u.uses.items n e c.requires.within is u.free.items (record { count = e.count + 1; id = c.args.id }) u.listed (omega (arith, c.requires.some, count_is u.uses.items n e c.requires.within is)) (omega arith);
      room = omega (arith, length-set u.uses.items n (record { count = e.count + 1; id = c.args.id }), u.room);
    }

pub returns-clause-users : goal.returns-clause-users
returns-clause-users c =
    let e = c.index_mut-users.result.now in
    counts_set c.args.self.now.uses.items c.args.layout e c.requires.within c.index_mut-users.ensures.value (record { count = e.count + 1; id = c.args.id }) (λ n. n + 1) refl
