use Rattle.gpu_descriptor.proofs.Common.{arith, ap, ◌∙◌, sum, key_of, kinds, bounded_sets}
use Rattle.gpu_descriptor_types.proofs.Room.{bounded_some}
use Rattle.gpu_descriptor.proofs.request.NextSize.{next_counts, next_fits, next_small}
use Rattle.gpu_descriptor.proofs.bucket.growth.next_size.Goals as goal

pub returns-clause-sets : goal.returns-clause-sets
returns-clause-sets c =
    let s = c.in_ok-sets.ensures.sets in
    let each = sum (kinds c.args.key.now.counts) in
    let is = c.bounded_pool_sets.ensures.sets in
    let some = bounded_some c.args.bound each c.args.wanted c.in_ok-sets.sets c.requires.some s.some in
    record { whole = s.whole; is_whole = s.is_whole; cut = is ∙ ap (bounded_sets c.args.bound each c.args.wanted) s.cut; some = omega arith }

pub returns-clause-fits : goal.returns-clause-fits
returns-clause-fits c = next_counts c.args.bound (key_of c.args.key.now) c.args.room c.args.total c.args.wanted _ (returns-clause-sets c)

pub returns-clause-at_most : goal.returns-clause-at_most
returns-clause-at_most c = next_small c.args.bound (key_of c.args.key.now) c.args.room c.args.total c.args.wanted _ (returns-clause-sets c)

pub returns-clause-room : goal.returns-clause-room
returns-clause-room c = (let fits = next_fits c.args.bound (key_of c.args.key.now) c.args.room c.args.total c.args.wanted _ (returns-clause-sets c) in let small = c.ranges.room.fits in (fits, omega arith))
