use Rattle.std.proofs.Common.{arith, ◌≤◌, ◌*◌, max, sum, sym, ap, subst, ◌∙◌}
use Rattle.gpu_descriptor_types.specs.Counts.{kinds as kinds_of}
use Rattle.gpu_descriptor_types.proofs.PoolCounts.{pool_counts_sum}
use Rattle.gpu_descriptor_types.proofs.Room.{all_in_room, fits_in_room}
use Rattle.gpu_descriptor_types.proofs.Sizes.{fewer_fit, pool_size_once}
use Rattle.gpu_descriptor_types.proofs.pool_size.cut_pool_size.Goals as goal

pub counts_of_sets-requires : goal.counts_of_sets-requires
counts_of_sets-requires c = fewer_fit (kinds_of c.args.counts.now) c.in_ok-sets.sets c.new_pool_sets-whole.result c.in_ok-sets.ensures.at_most c.new_pool_sets-whole.ensures.fits

pub returns-clause-sets : goal.returns-clause-sets
returns-clause-sets c = record {
  whole = c.new_pool_sets-whole.result;
  is_whole = c.new_pool_sets-whole.ensures.sets;
  cut = c.in_ok-sets.ensures.sets;
  some = c.in_ok-sets.ensures.some;
}

pub returns-clause-within : goal.returns-clause-within
returns-clause-within c =
    let cut = c.in_ok-sets.ensures.sets in
    let some = c.in_ok-sets.ensures.some in
    let fits = fits_in_room c.args.room (sum (kinds_of c.args.counts.now)) c.new_pool_sets-whole.result c.in_ok-sets.sets cut (omega arith) in
    let all = ap sum c.counts_of_sets.ensures ∙ pool_counts_sum (kinds_of c.args.counts.now) c.in_ok-sets.sets (omega arith) in
    omega arith

pub returns-clause-whole : goal.returns-clause-whole
returns-clause-whole c = λ sets is fits.
    let same = pool_size_once (kinds_of c.args.counts.now) c.args.total c.args.wanted c.new_pool_sets-whole.result sets c.new_pool_sets-whole.ensures.sets is in
    let room : max 1 (c.new_pool_sets-whole.result * sum (kinds_of c.args.counts.now)) ≤ c.args.room = subst (λ n. max 1 (n * sum (kinds_of c.args.counts.now)) ≤ c.args.room) (sym same) fits in
    c.in_ok-sets.ensures.sets ∙ all_in_room c.args.room (sum (kinds_of c.args.counts.now)) c.new_pool_sets-whole.result room ∙ same

pub returns-clause-fits : goal.returns-clause-fits
returns-clause-fits c = fewer_fit (kinds_of c.args.counts.now) c.in_ok-sets.sets c.new_pool_sets-whole.result c.in_ok-sets.ensures.at_most c.new_pool_sets-whole.ensures.fits
