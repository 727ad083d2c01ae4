use Rattle.gpu_descriptor.proofs.Common.{◌≡◌, ℕ, ◌+◌, ◌<◌, ◌≤◌, if◌then◌else◌, Bool, true, false, List, length, length-map, append-nil, nil_from_length, slice_get_within, get_or_from_slice_get, sum_by, sym, ap, ◌∙◌, arith, DescriptorBucket, DescriptorPool, Entry, Key, Ledger, key_of, entry_of, numbers_of, pools_load, common_steps, AsksNewest, IsAsked}
use Rattle.std.proofs.lemmas.List.Sums.{sum_by-set}
use Rattle.gpu_descriptor.proofs.release.StoredNumbers.{numbers_set}
use Rattle.gpu_descriptor.proofs.request.OpenWalk.{open_walk_start, open_walk_more, open_walk_stop, walk_sated, walk_empty, one_asked}
use Rattle.gpu_descriptor.proofs.request.OwnLayout.{appends_more, items_behind, long_more}
use Rattle.gpu_descriptor.proofs.request.Passed.{passed}
use Rattle.gpu_descriptor.proofs.request.Walking.{walk_end}
use Rattle.gpu_descriptor.proofs.sums.PoolLoads.{stored_put}
use Rattle.gpu_descriptor.proofs.bucket.existing.take_from_existing.Goals as goal

no_more : (none : Bool) (n : ℕ) → (if none then 0 else n) ≤ n
no_more true n = omega arith
no_more false n = omega arith

-- what stays of the pools where one was asked, and what falls
module _ {P : Type 0} {old new : DescriptorBucket P} (a : AsksNewest old new) where
  within : a.place < length old.pools.items
  within = slice_get_within old.pools.items a.place a.was a.at

  numbers_stay : numbers_of new.pools.items ≡ numbers_of old.pools.items
  numbers_stay = ap numbers_of a.pools ∙ numbers_set old.pools.items a.place a.was a.is a.at a.number

  load_stays : (k : Key) → pools_load k new.pools.items ≡ pools_load k old.pools.items
  load_stays k = ap (pools_load k) a.pools ∙ stored_put k old.pools.items a.place a.was a.is within (sym (get_or_from_slice_get old.pools.items a.place a.was a.was a.at)) a.capacity

  fewer_free : (name : P → ℕ) {k : Key} {wanted : ℕ} {names : List ℕ} {m m' : Ledger} → IsAsked k wanted names (entry_of name a.was) (entry_of name a.is) m m' → 0 < wanted
      → sum_by (λ (p : DescriptorPool P). p.available) new.pools.items < sum_by (λ (p : DescriptorPool P). p.available) old.pools.items
  fewer_free name asked some =
      let free = λ (p : DescriptorPool P). p.available in
      let put = sum_by-set free old.pools.items a.place a.is a.was within in
      let is = ap free (get_or_from_slice_get old.pools.items a.place a.was a.was a.at) in
      let now = ap (sum_by free) a.pools in
      let left = ap (λ (e : Entry). e.available) asked.entry in
      let many = asked.many in
      let most = no_more asked.refused a.was.available in
      let has = a.has_free in
      omega arith

pub loop-sink-init : goal.loop-sink-init
loop-sink-init g c = grind (arith, common_steps, append-nil, open_walk_start)

pub ask_newest-requires-clause-booked : goal.ask_newest-requires-clause-booked
ask_newest-requires-clause-booked g c = c.loop-sink.invariant.walk.walking.taken.keeps.booked

pub loop-sink-smaller : goal.loop-sink-smaller
loop-sink-smaller g c = (let got = c.in_ok-ask_newest.ensures.asked in fewer_free got.0 g.D.DescriptorDevice.meaning.pool_name got.4 c.loop-sink-test.true)

pub loop-sink-preserved : goal.loop-sink-preserved
loop-sink-preserved g c =
    let inv = c.loop-sink.invariant in
    let b = c.loop-sink.pools.bucket.now in
    let key = key_of c.args.request.now.key in
    let got = c.in_ok-ask_newest.ensures.asked in
    let a = got.0 in
    let asked_one = one_asked c.requires.booked inv.walk c.loop-sink-test.true a got.4 in
    record {
      appends = appends_more inv.appends key b.id a.was.number got.1 got.2 got.3 got.5;
      id_stays = a.id ∙ inv.id_stays;
      flag_stays = a.flag ∙ inv.flag_stays;
      numbers_stay = numbers_stay a ∙ inv.numbers_stay;
      total = (let was = inv.total in let long = long_more inv.appends key b.id a.was.number got.1 got.2 in let less = got.3 in let came = c.in_ok-ask_newest.ensures.total in omega arith);
      walk = open_walk_more c.requires.booked inv.walk c.loop-sink-test.true a (items_behind inv.appends key b.id a.was.number got.1 got.2) got.4
          (ap (λ (n : ℕ). c.ask_newest.new.sink.left + n) (length-map got.1 g.D.DescriptorDevice.meaning.set_name) ∙ got.3);
      load = load_stays a key ∙ inv.load;
      looks = (let was = inv.looks in let one = c.in_ok-ask_newest.ensures.looks in omega arith);
      same_bucket = c.in_ok-ask_newest.ensures.same_bucket ∙ inv.same_bucket;
      same_looks = c.in_ok-ask_newest.ensures.same_looks ∙ inv.same_looks;
    }

pub returns-else-not-is_empty-clause-walked : goal.returns-else-not-is_empty-clause-walked
returns-else-not-is_empty-clause-walked g c = (let none : length c.loop-sink.pools.bucket.now.listed.ordinals.items ≡ 0 = grind (arith, common_steps) in walk_end c.loop-sink.invariant.id_stays (walk_empty c.requires.booked c.loop-sink.invariant.walk (nil_from_length _ none)))

pub returns-after-loop-sink-clause-walked : goal.returns-after-loop-sink-clause-walked
returns-after-loop-sink-clause-walked g c = walk_end c.loop-sink.invariant.id_stays (walk_sated c.requires.booked c.loop-sink.invariant.walk (let none = c.loop-sink-test.false in omega arith))

pub returns-in_err-ask_newest-clause-stopped : goal.returns-in_err-ask_newest-clause-stopped
returns-in_err-ask_newest-clause-stopped g c =
    let inv = c.loop-sink.invariant in
    let err = c.in_err-ask_newest.ensures.err in
    rw (passed c.from_residual.result c.in_err-ask_newest.field-0.0 c.from_residual.ensures.1, err.1)
    (open_walk_stop c.requires.booked inv.walk c.loop-sink-test.true err.0 inv.id_stays err.3 err.4 err.5)

pub returns-in_err-ask_newest-clause-numbers_stay : goal.returns-in_err-ask_newest-clause-numbers_stay
returns-in_err-ask_newest-clause-numbers_stay g c = numbers_stay c.in_err-ask_newest.ensures.err.0 ∙ c.loop-sink.invariant.numbers_stay

pub returns-in_err-ask_newest-clause-load : goal.returns-in_err-ask_newest-clause-load
returns-in_err-ask_newest-clause-load g c = load_stays c.in_err-ask_newest.ensures.err.0 (key_of c.args.request.now.key) ∙ c.loop-sink.invariant.load
