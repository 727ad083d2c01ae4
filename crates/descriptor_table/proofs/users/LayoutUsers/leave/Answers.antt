use Rattle.descriptor_table.proofs.Common.{common_steps, ◌-◌, refl, arith, get_or-map, length-map, length-set, map-set, users_in}
use Rattle.descriptor_table.proofs.Numbers.{count_is, counts_set, free_more, free_room, free_stays, ids_stay}
use Rattle.descriptor_table.proofs.users.LayoutUsers.leave.Goals as goal

pub push_reserved-requires : goal.push_reserved-requires
push_reserved-requires c = let u = c.args.self.now in grind (arith, common_steps, get_or-map, length-map, map-set, free_room u.free.items (users_in u) u.listed c.args.layout)

pub invariant_of-self : goal.invariant_of-self
invariant_of-self c = let u = c.args.self.now in grind (arith, common_steps, get_or-map, length-map, map-set, free_more u.free.items (users_in u) u.listed c.args.layout)

pub invariant_of-self-else-count-eq0 : goal.invariant_of-self-else-count-eq0
invariant_of-self-else-count-eq0 c =
    let u = c.args.self.now in
    let e = c.index_mut-users.result.now in
    let is = c.index_mut-users.ensures.value in
    let n = c.args.layout in
    record {
      listed = free_stays u.uses.items n e c.requires.within is u.free.items (record { count = e.count - 1; id = e.id }) u.listed (omega (arith, c.requires.some, count_is u.uses.items n e c.requires.within is)) c.if-count-eq0.false;
      room = omega (arith, length-set u.uses.items n (record { count = e.count - 1; id = e.id }), u.room);
    }

pub returns-then-count-eq0-clause-users : goal.returns-then-count-eq0-clause-users
returns-then-count-eq0-clause-users c =
    let e = c.index_mut-users.result.now in
    counts_set c.args.self.now.uses.items c.args.layout e c.requires.within c.index_mut-users.ensures.value (record { count = e.count - 1; id = e.id }) (λ n. n - 1) refl

pub returns-else-count-eq0-clause-users : goal.returns-else-count-eq0-clause-users
returns-else-count-eq0-clause-users c =
    let e = c.index_mut-users.result.now in
    counts_set c.args.self.now.uses.items c.args.layout e c.requires.within c.index_mut-users.ensures.value (record { count = e.count - 1; id = e.id }) (λ n. n - 1) refl

pub returns-else-count-eq0-clause-ids : goal.returns-else-count-eq0-clause-ids
returns-else-count-eq0-clause-ids c =
    let e = c.index_mut-users.result.now in
    ids_stay c.args.self.now.uses.items c.args.layout e c.requires.within c.index_mut-users.ensures.value (record { count = e.count - 1; id = e.id }) refl
