use Rattle.gpu_descriptor.proofs.Common.{rules, ◌≡◌, ℕ, ◌+◌, ◌≤◌, ◌++◌, List, length, map, sym, ap, ◌∙◌, arith, Result, Ok, OnOk, true, [], ◌∷◌, Err, length-map, map-append, DescriptorPool, DescriptorSet, Item, Entry, Key}
use Rattle.gpu_descriptor.proofs.Common.{key_of, fresh_entry, items_at, items_of, entry_of, number_after, numbers_of, pools_load}
use Rattle.std.specs.Result.{is_ok}
use mathlib.Core.Bool.{true≢false}
use Rattle.gpu_descriptor.proofs.lists.Numbers.{next_push}
use Rattle.gpu_descriptor.proofs.release.StoredNumbers.{numbers_stored}
use Rattle.gpu_descriptor.specs.Caller.SetLists.{appended}
use Rattle.gpu_descriptor.proofs.request.Growing.{grow_start, grow_more, grow_end, grow_stop, load_more}
use Rattle.gpu_descriptor.proofs.sums.StoredPools.{allocated_entries, load_entries}
use Rattle.gpu_descriptor.proofs.request.Passed.{passed}
use Rattle.gpu_descriptor.proofs.request.OwnLayout.{appends_more, items_behind, long_more}
use Rattle.gpu_descriptor.proofs.bucket.DescriptorBucket.take.Goals as goal

-- what is known of an Ok
on_ok : {T E X : Type 0} (r : Result T E) → OnOk r X → is_ok r ≡ true → X
on_ok (Ok done) known is = known
on_ok (Err e) known is = absurd (true≢false (sym is))

-- a bucket that was lent to the walk is what the walk left
pub returns-in_err-map_err-clause-taken : goal.returns-in_err-map_err-clause-taken
returns-in_err-map_err-clause-taken g c = (let same : c.self-1.given.0 ≡ c.take_from_existing.new.pools.bucket.now = search rules in rw (same, sym c.new-open_pools.ensures.bucket) (search rules))

pub returns-then-sink-eq0-clause-taken : goal.returns-then-sink-eq0-clause-taken
returns-then-sink-eq0-clause-taken g c = (let same : c.self-1.given.0 ≡ c.take_from_existing.new.pools.bucket.now = search rules in rw (same, sym c.new-open_pools.ensures.bucket) (search rules))

pub loop-sink-init : goal.loop-sink-init
loop-sink-init g c =
    let name = g.D.DescriptorDevice.meaning.pool_name in
    let walk = rw (c.new-open_pools.ensures.bucket, c.new-open_pools.ensures.looks) at c.take_from_existing.ensures in
    let known = on_ok c.take_from_existing.result walk.walked (sym c.in_ok-map_err.ensures.variant) in
    let total = walk.total in
    let all = walk.appends.rest in
    let same : c.self-1.given.0 ≡ c.take_from_existing.new.pools.bucket.now = search rules in
    rw same (record {
      appends = walk.appends;
      total = total;
      id_stays = walk.id_stays;
      flag_stays = walk.flag_stays;
      numbers = (let same = ap number_after walk.numbers_stay in omega arith);
      growing = grow_start known walk.id_stays (let out = allocated_entries name c.args.self.now.pools.items in let counted = c.args.self.now.counted in omega arith);
      load = ap (λ n. c.args.budget.now.room + n) walk.load;
      bound = λ i. c.args.budget.now.bound;
      looks = walk.looks;
    })

pub returns-clause-taken : goal.returns-clause-taken
returns-clause-taken g c = (let inv = c.loop-sink.invariant in grow_end inv.growing (let end : c.loop-sink.sink.left ≡ 0 = omega arith in end) inv.id_stays tt)

pub returns-in_err-take_from_new-clause-taken : goal.returns-in_err-take_from_new-clause-taken
returns-in_err-take_from_new-clause-taken g c =
    let inv = c.loop-sink.invariant in
    let err = c.in_err-take_from_new.ensures.err in
    let put = ap (λ (xs : List (DescriptorSet g.row.S.Denot)). items_of g.D.DescriptorDevice.meaning.set_name (appended (g.K.SetPlaces.items c.args.sink.now.sets) xs)) err.0 in
    rw (passed c.from_residual-in_err-take_from_new.result c.in_err-take_from_new.field-0.0 c.from_residual-in_err-take_from_new.ensures.1)
    (grow_stop c.in_err-take_from_new.field-0.0 c.loop-sink-test.true inv.growing put (ap (map (entry_of g.D.DescriptorDevice.meaning.pool_name)) err.2) (c.in_err-take_from_new.ensures.id_stays ∙ inv.id_stays) err.5 err.6)

pub loop-sink-preserved : goal.loop-sink-preserved
loop-sink-preserved g c =
    let inv = c.loop-sink.invariant in
    let got = c.in_ok-take_from_new.ensures.grown in
    let grown = rw inv.bound at got.4 in
    let key : Key = key_of c.args.request.now.key in
    let items : List (DescriptorPool g.row.P.Denot) = c.loop-sink.self.pools.items in
    let new : List Entry = map (entry_of g.D.DescriptorDevice.meaning.pool_name) items in
    let new' : List Entry = map (entry_of g.D.DescriptorDevice.meaning.pool_name) c.take_from_new.new.self.pools.items in
    let was : List (DescriptorSet g.row.S.Denot) = g.K.SetPlaces.items c.args.sink.now.sets in
    let sets : List (DescriptorSet g.row.S.Denot) = appended was (g.K.SetPlaces.items c.loop-sink.sink.sets) in
    let put : List Item = items_of g.D.DescriptorDevice.meaning.set_name sets in
    let more : List ℕ = map g.D.DescriptorDevice.meaning.set_name got.0 in
    let given : length got.0 ≡ length more = sym (length-map got.0 g.D.DescriptorDevice.meaning.set_name) in
    let few : length more ≤ c.loop-sink.sink.left = (let a = grown.many in let b = grown.given in omega arith) in
    let number : ℕ = number_after (numbers_of items) in
    let seen = items_behind inv.appends key c.loop-sink.self.id number got.0 got.1 ∙ ap (λ (i : ℕ). put ++ items_at key i number more) inv.id_stays in
    let long = long_more inv.appends key c.loop-sink.self.id number got.0 got.1 in
    let numbered : number_after (numbers_of new) ≡ number = ap number_after (numbers_stored g.D.DescriptorDevice.meaning.pool_name items) in
    record {
      appends = appends_more inv.appends key c.loop-sink.self.id number got.0 got.1 got.2 got.5;
      total = (let a = inv.total in let b = got.3 in omega arith);
      id_stays = c.in_ok-take_from_new.ensures.id_stays ∙ inv.id_stays;
      flag_stays = c.in_ok-take_from_new.ensures.flag_stays ∙ inv.flag_stays;
      numbers = (
          let a = inv.numbers in
          let is : number_after (numbers_of new') ≡ number_after (numbers_of c.take_from_new.new.self.pools.items) = ap number_after (numbers_stored g.D.DescriptorDevice.meaning.pool_name c.take_from_new.new.self.pools.items) in
          let one = ap (λ (es : List Entry). number_after (numbers_of es)) grown.entries ∙ ap number_after (map-append _ new (fresh_entry (number_after (numbers_of new)) grown.pool ∷ [])) ∙ next_push (numbers_of new) (number_after (numbers_of new)) in
          let gave = grown.given in
          let size = grown.size.some in
          let all = grown.many in
          omega arith);
      growing = grow_more c.requires.booked inv.growing grown c.loop-sink-test.true (got.3 ∙ ap (λ n. c.loop-sink.self.total + n) given) (let less = got.2 in omega arith) (sym numbered) seen;
      load = (
          let a = inv.load in
          let b = ap (pools_load key) grown.entries ∙ load_more key (number_after (numbers_of new)) new grown.pool in
          let was = load_entries g.D.DescriptorDevice.meaning.pool_name key items in
          let is = load_entries g.D.DescriptorDevice.meaning.pool_name key c.take_from_new.new.self.pools.items in
          let less = grown.less in
          omega arith);
      bound = c.in_ok-take_from_new.ensures.bound ∙ inv.bound;
      looks = (let a = inv.looks in let b = c.in_ok-take_from_new.ensures.looks in omega arith);
    }
