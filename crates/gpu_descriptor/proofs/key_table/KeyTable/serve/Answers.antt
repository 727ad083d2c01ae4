use Rattle.gpu_descriptor.proofs.Common.{◌≡◌, ℕ, refl, sym, ap, ◌∙◌, subst, arith, length, map, false≢true, Bucket, is_of, key_of, next_number, number_after, numbers_of, AreBookedIn, books_in, row_of, stored_keys, IsUnserved, common_steps}
use Rattle.gpu_descriptor.proofs.table.Rising.{ids_put}
use Rattle.gpu_descriptor.proofs.table.RowAt.{IsAt, is_at, keys_at, present, put_same}
use Rattle.gpu_descriptor.proofs.cleanup.KeyOrder.{keys_stay}
use Rattle.gpu_descriptor.proofs.sums.Flags.{flags_stay}
use Rattle.gpu_descriptor.proofs.sums.Loads.{total_present, pools_set}
use Rattle.gpu_descriptor.proofs.request.InTable.{missing, serves_present}
use Rattle.gpu_descriptor.proofs.request.Passed.{passed}
use Rattle.gpu_descriptor.proofs.request.Serving.{is_served, next, unserved}
use Rattle.gpu_descriptor.proofs.key_table.KeyTable.serve.Goals.{After-index_mut-bucket}
use Rattle.gpu_descriptor.proofs.key_table.KeyTable.serve.Goals as goal

-- the place has the key
there : (g : _) (c : After-index_mut-bucket g) → IsAt (key_of c.args.request.now.key) c.args.self.now.buckets.entries c.in-Some.place c.index_mut-bucket.result.now
there g c = is_at (key_of c.args.request.now.key) c.args.self.now.buckets.entries c.in-Some.place c.index_mut-bucket.result.now c.in-Some.ensures.place c.index_mut-bucket.ensures.value

-- the number of its next pool, as the books have it
number : (g : _) (c : After-index_mut-bucket g) → number_after (numbers_of c.index_mut-bucket.result.now.pools.items) ≡ next_number (books_in g.D.DescriptorDevice.meaning.pool_name (map row_of c.args.self.now.buckets.entries) (key_of c.args.request.now.key))
number g c =
    let name = g.D.DescriptorDevice.meaning.pool_name in
    next name c.index_mut-bucket.result.now.id c.index_mut-bucket.result.now.pools.items ∙ ap next_number (sym (present name c.args.self.now.distinct (there g c)))

pub returns-clause-fits : goal.returns-clause-fits
returns-clause-fits g c = λ room some numbers. (
    let key = key_of c.args.request.now.key in
    let gone = missing g.D.DescriptorDevice.meaning.pool_name key c.args.self.now.buckets.entries (is_of key) (λ l. refl) c.in_default.ensures.place in
    let none = ap (λ (b : Bucket). length b.pools) gone in absurd (omega arith))

pub returns-in_err-prepare : goal.returns-in_err-prepare
returns-in_err-prepare g c =
    let at = (goal.at.returns-in_err-prepare g c).After-index_mut-bucket in
    let same = put_same c.args.self.now.buckets.entries c.in-Some.place (there g at).key c.index_mut-bucket.result.now (there g at).at in
    record {
      serves = unserved c.args.self.now.buckets.entries (passed c.from_residual.result c.in_err-prepare.field-0.0 c.from_residual.ensures.1)
          (subst (λ (n : ℕ). IsUnserved c.args.request.now.count n c.in_err-prepare.field-0.0) (number g at) c.in_err-prepare.ensures.refused) c.prepare.ensures.sets same;
      range = (refl, refl);
      fits = λ room some numbers. absurd (false≢true (c.in_err-prepare.ensures.fits room (let n = number g at in let bound = numbers in omega arith)));
    }

pub take-requires-clause-booked : goal.take-requires-clause-booked
take-requires-clause-booked g c =
    subst (λ (b : Bucket). AreBookedIn (key_of c.args.request.now.key) (g.D.DescriptorDevice.ledger c.args.device.now).pools b.pools) (present g.D.DescriptorDevice.meaning.pool_name c.args.self.now.distinct (there g (goal.at.take-requires-clause-booked g c).After-index_mut-bucket)) c.requires.booked

pub take-requires-clause-bound : goal.take-requires-clause-bound
take-requires-clause-bound g c = grind (arith, common_steps, (total_present (there g (goal.at.take-requires-clause-bound g c).After-index_mut-bucket)))

pub returns-in-Some : goal.returns-in-Some
returns-in-Some g c =
    let at = there g (goal.at.returns-in-Some g c).After-index_mut-bucket in
    let es = c.args.self.now.buckets.entries in
    record {
      serves = is_served es c.index_mut-bucket.result.now.id c.index_mut-bucket.result.now.pools.items c.index_mut-bucket.result.now.total c.take.new.self c.prepare.ensures.sets c.in_ok-prepare.ensures.numbers c.take.ensures.appends c.take.ensures.all c.take.ensures.total c.take.ensures.taken
          (λ numbers all taken total. serves_present c.args.request.now.key c.take.new.self numbers all taken total es c.args.self.now.distinct refl refl at refl)
          (keys_at es c.in-Some.place c.take.new.self ∙ keys_stay (key_of c.args.request.now.key) (stored_keys es) c.in-Some.place c.in-Some.ensures.place) (pools_set at c.take.new.self _ _ c.take.ensures.room) c.take.ensures.bound c.take.ensures.looks;
      range = (refl, refl);
      fits = λ room some numbers. refl;
    }

pub invariant_of-self : goal.invariant_of-self
invariant_of-self g c =
    let at = there g (goal.at.invariant_of-self g c).After-index_mut-bucket in
    record { rising = grind (arith, common_steps, ids_put); begun = c.args.self.now.begun; ranged = grind (arith, common_steps, ids_put); distinct = grind (arith, common_steps, keys_at); flagged = c.args.self.now.flagged ∙ sym (flags_stay c.args.self.now.buckets.entries c.in-Some.place at.key c.index_mut-bucket.result.now _ at.at refl) }

pub invariant_of-self-in-Some : goal.invariant_of-self-in-Some
invariant_of-self-in-Some g c =
    let at = there g (goal.at.invariant_of-self-in-Some g c).After-index_mut-bucket in
    record { rising = grind (arith, common_steps, ids_put); begun = c.args.self.now.begun; ranged = grind (arith, common_steps, ids_put); distinct = grind (arith, common_steps, keys_at); flagged = c.args.self.now.flagged ∙ sym (flags_stay c.args.self.now.buckets.entries c.in-Some.place at.key c.index_mut-bucket.result.now c.take.new.self at.at c.take.ensures.flag_stays) }
