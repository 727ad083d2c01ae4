use Rattle.gpu_descriptor.proofs.Common.{names_of, greatest_pool_size, ◌≡◌, ℕ, List, set, ◌+◌, ◌<◌, ◌≤◌, ◌-◌, rules, arith, sym, refl, ◌∙◌, ap, subst, length, map, slice_get, [], ◌∷◌, Some, length-set, eqb-false, length-map, or_parts, slice_get_read, DescriptorPool, Ledger, after_release, LiveSet, common_steps}
use Rattle.gpu_descriptor.proofs.Common.{DescriptorSet, live_in, Entry, IsNonDecreasing, AreBookedIn, IsTakenAt, free_in, entry_less, bucket_of, entry_of, first_ordinal, number_after, rises, slice_set}
use Rattle.std.proofs.lemmas.List.Elements.{All-set}
use Rattle.gpu_descriptor.proofs.cleanup.Rotation.{Has}
use Rattle.gpu_descriptor.proofs.lists.OpenOrdinals.{open_rises}
use Rattle.gpu_descriptor.proofs.lists.OpenList.{listed_again, fewer_listed}
use Rattle.gpu_descriptor.proofs.release.Comparisons.{listed_count}
use Rattle.gpu_descriptor.proofs.release.BucketRun.{AreTaken, are_taken, changed_at, stored_after, total_less}
use Rattle.gpu_descriptor.proofs.release.RunsOfOne.{less_at}
use Rattle.gpu_descriptor.proofs.release.StoredNumbers.{IsAt, numbers_set, numbers_stored, stands_at, stored_at}
use Rattle.gpu_descriptor.proofs.foreign.LedgerPools.{taken_from, release_pools}
use Rattle.gpu_descriptor.proofs.release.OneRun.{run_live, run_ends, run_goes, done}
use Rattle.gpu_descriptor.proofs.table.Exact.{bucket}
use Rattle.gpu_descriptor.proofs.bucket.DescriptorBucket.release_sets.Goals.{Start, After-index_mut-pool, After-finish-count}
use Rattle.gpu_descriptor.proofs.bucket.DescriptorBucket.release_sets.Goals as goal

-- one set alone is in the place
first_taken : (g : _) (c : Start g) → IsTakenAt c.args.first.key.is c.args.first.number (g.D.DescriptorDevice.meaning.set_name c.args.first.raw ∷ []) (bucket_of g.D.DescriptorDevice.meaning.pool_name c.args.self.now) (g.D.DescriptorDevice.ledger c.args.device.now).pools
first_taken g c = c.requires.taken [] c.args.sets.now refl tt

pub place_of_pool-place-requires : goal.place_of_pool-place-requires
place_of_pool-place-requires g c = (let t = first_taken g (goal.at.place_of_pool-place-requires g c).Start in record { there = stored_at g.D.DescriptorDevice.meaning.pool_name c.args.self.now.id c.args.first.number c.args.self.now.pools.items t.entry t.at })

is_at : (g : _) (c : After-index_mut-pool g) → IsAt g.D.DescriptorDevice.meaning.pool_name c.args.first.number c.place_of_pool-place.result c.args.self.now.pools.items c.index_mut-pool.result.now
is_at g c = stands_at g.D.DescriptorDevice.meaning.pool_name c.args.first.number c.place_of_pool-place.result c.args.self.now.pools.items c.index_mut-pool.result.now c.args.self.now.rising c.place_of_pool-place.ensures.place c.index_mut-pool.ensures.value

places : (g : _) (c : After-index_mut-pool g) → c.index_mut-pool.result.now.allocated + c.index_mut-pool.result.now.available ≤ greatest_pool_size
places g c = grind (arith, common_steps, is_at)

read : (g : _) (c : After-index_mut-pool g) → slice_get c.args.self.now.pools.items c.place_of_pool-place.result ≡ Some c.index_mut-pool.result.now
read g c = slice_get_read c.args.self.now.pools.items (length c.args.self.now.pools.items) c.place_of_pool-place.result c.index_mut-pool.result.now refl (is_at g c).within c.index_mut-pool.ensures.value

-- what the run says of the place, once its sets are counted
module _ (g : _) (c : After-finish-count g) where
  abbrev place : ℕ
  place = c.place_of_pool-place.result

  abbrev e : Entry
  e = entry_of g.D.DescriptorDevice.meaning.pool_name c.index_mut-pool.result.now

  module _ (here : IsAt g.D.DescriptorDevice.meaning.pool_name c.args.first.number place c.args.self.now.pools.items c.index_mut-pool.result.now) where
    -- the sets of which the release speaks are live in the place
    taken : AreTaken (map g.D.DescriptorDevice.meaning.set_name c.dealloc_descriptor_sets.ensures.released.items) (live_in (g.D.DescriptorDevice.ledger c.args.device.now).pools e.pool) c.dealloc_descriptor_sets.ensures.released.gone
    taken = search (rules, are_taken, e, place)

    -- as many sets were counted as went
    counted : (c.finish-count.result ≤ e.allocated) × (c.finish-count.result ≡ length c.dealloc_descriptor_sets.ensures.released.gone) × (0 < c.finish-count.result)
    counted =
        let t = c.dealloc_descriptor_sets.ensures.released in
        let d =
        done g.I.Iterator.next_gives g.I.Iterator.can_next g.I.Iterator.remaining
        g.D.DescriptorDevice.meaning.set_name _ c.args.first
        (bucket_of g.D.DescriptorDevice.meaning.pool_name c.args.self.now)
        (g.D.DescriptorDevice.ledger c.args.device.now).pools place e c.dealloc_descriptor_sets.new.sets t.items
        t.gone refl refl refl refl c.requires.stored here.at (here.there c.args.self.now.id) c.requires.taken
        t.drained taken in
        let count = d.count in
        let long = d.long in
        let is = c.finish-count.ensures.count in
        (omega arith, is ∙ count ∙ sym long, omega arith)

    changed :
        map (entry_of g.D.DescriptorDevice.meaning.pool_name)
        (set c.args.self.now.pools.items place
        (record {
          pool = c.dealloc_descriptor_sets.new.pool;
          number = c.index_mut-pool.result.now.number;
          capacity = c.index_mut-pool.result.now.capacity;
          allocated = c.index_mut-pool.result.now.allocated - c.finish-count.result;
          available = c.index_mut-pool.result.now.available + c.finish-count.result;
        }))
        ≡ set (map (entry_of g.D.DescriptorDevice.meaning.pool_name) c.args.self.now.pools.items) place
        (entry_less (length c.dealloc_descriptor_sets.ensures.released.gone) e)
    changed =
        changed_at g.D.DescriptorDevice.meaning.pool_name c.args.self.now.pools.items place c.index_mut-pool.result.now c.dealloc_descriptor_sets.new.pool c.finish-count.result (length c.dealloc_descriptor_sets.ensures.released.gone) c.dealloc_descriptor_sets.ensures.name counted.1

pub dealloc_descriptor_sets-requires-clause-live : goal.dealloc_descriptor_sets-requires-clause-live
dealloc_descriptor_sets-requires-clause-live g c =
    let d = (goal.at.dealloc_descriptor_sets-requires-clause-live g c).After-index_mut-pool in
    run_live g.I.Iterator.next_gives g.I.Iterator.can_next g.I.Iterator.remaining g.D.DescriptorDevice.meaning.set_name
    (bucket_of g.D.DescriptorDevice.meaning.pool_name c.args.self.now) (g.D.DescriptorDevice.ledger c.args.device.now)
    c.args.first c.place_of_pool-place.result
    (entry_of g.D.DescriptorDevice.meaning.pool_name c.index_mut-pool.result.now) _ refl refl refl c.requires.stored
    (is_at g d).at ((is_at g d).there c.args.self.now.id) c.requires.taken

pub overflow_sub-pool : goal.overflow_sub-pool
overflow_sub-pool g c = grind (arith, common_steps, counted, is_at)

pub overflow_add-pool : goal.overflow_add-pool
overflow_add-pool g c = grind (arith, common_steps, counted, is_at)

pub overflow_sub-self : goal.overflow_sub-self
overflow_sub-self g c = grind (arith, common_steps, counted, is_at)

pub returns-clause-stored : goal.returns-clause-stored
returns-clause-stored g c =
    let r = (goal.at.returns-clause-stored g c).After-index_mut-pool in
    let f = (goal.at.returns-clause-stored g c).After-finish-count in
    let t = c.dealloc_descriptor_sets.ensures.released in
    let e = entry_of g.D.DescriptorDevice.meaning.pool_name c.index_mut-pool.result.now in
    let pools : (g.D.DescriptorDevice.ledger c.dealloc_descriptor_sets.new.self).pools ≡ taken_from (g.D.DescriptorDevice.ledger c.args.device.now).pools e.pool t.gone = ap (λ (l : Ledger). l.pools) t.ledger ∙ release_pools e.pool t.gone (g.D.DescriptorDevice.ledger c.args.device.now) in
    let after = stored_after c.args.first.key.is (map (entry_of g.D.DescriptorDevice.meaning.pool_name) c.args.self.now.pools.items) (g.D.DescriptorDevice.ledger c.args.device.now).pools (place g f) e t.gone c.requires.stored (is_at g r).at (taken g f (is_at g r)).within in
    let there = subst (λ (x : List Entry). AreBookedIn c.args.first.key.is (taken_from (g.D.DescriptorDevice.ledger c.args.device.now).pools e.pool t.gone) x) (sym (changed g f (is_at g r))) after in
    rw pools there

pub invariant_of-self : goal.invariant_of-self
invariant_of-self g c =
    let r = (goal.at.invariant_of-self g c).After-index_mut-pool in
    let f = (goal.at.invariant_of-self g c).After-finish-count in
    let fits = (counted g f (is_at g r)).0 in
    let less = total_less c.args.self.now.pools.items c.place_of_pool-place.result c.index_mut-pool.result.now c.dealloc_descriptor_sets.new.pool c.finish-count.result (is_at g r).within c.index_mut-pool.ensures.value (omega arith) in
    let few = less.0 in
    let left = less.1 in
    let total = c.args.self.now.counted in
    let from = c.from.ensures in
    let numbered = c.args.self.now.numbered in
    let some : 0 < c.index_mut-pool.result.now.available + c.finish-count.result = (let some = (counted g f (is_at g r)).2 in omega arith) in
    let new : DescriptorPool g.row.P.Denot =
    record {
      pool = c.dealloc_descriptor_sets.new.pool;
      number = c.index_mut-pool.result.now.number;
      capacity = c.index_mut-pool.result.now.capacity;
      allocated = c.index_mut-pool.result.now.allocated - c.finish-count.result;
      available = c.index_mut-pool.result.now.available + c.finish-count.result;
    } in
    let same = numbers_set c.args.self.now.pools.items c.place_of_pool-place.result c.index_mut-pool.result.now new (read g r) refl in
    let long = length-set c.args.self.now.pools.items c.place_of_pool-place.result new in
    let first : first_ordinal (slice_set c.args.self.now.pools.items c.place_of_pool-place.result new) ≡ first_ordinal c.args.self.now.pools.items = (λ i. number_after (same i) - long i) in
    let ordinal = c.first_ordinal.result + c.place_of_pool-place.result in
    record {
      ordinal = c.args.self.now.ordinal ∙ sym first;
      numbered = (let next = ap number_after same in omega arith);
      rising = ap rises same ∙ c.args.self.now.rising;
      counted = omega arith;
      «open» =
          rw first
          (listed_again (first_ordinal c.args.self.now.pools.items) c.args.self.now.pools.items
          c.args.self.now.listed.ordinals.items c.args.self.now.«open» c.place_of_pool-place.result
          c.index_mut-pool.result.now new (read g r) ordinal
          (ap (λ (n : ℕ). n + c.place_of_pool-place.result) c.first_ordinal.ensures.first) some
          c.reopen.new.self.ordinals.items c.reopen.ensures.entered c.reopen.ensures.stays);
      capacity = (let long = length-set c.args.self.now.pools.items c.place_of_pool-place.result new in omega arith);
      full = λ off. (
          let parts = or_parts c.args.self.now.may_have_empty _ (sym c.note_pool.ensures.flag ∙ off) in
          let here = eqb-false _ _ parts.1 in
          All-set Has c.args.self.now.pools.items c.place_of_pool-place.result new (omega arith) (c.args.self.now.full parts.0));
      some = λ on. (let within = (is_at g r).within in omega arith);
    }

pub reopen-requires-clause-rising : goal.reopen-requires-clause-rising
reopen-requires-clause-rising g c = subst IsNonDecreasing (sym c.args.self.now.«open») (open_rises (first_ordinal c.args.self.now.pools.items) (free_in c.args.self.now.pools.items))

pub reopen-requires-clause-fits : goal.reopen-requires-clause-fits
reopen-requires-clause-fits g c = λ full.
    let r = (goal.at.reopen-requires-clause-fits g c).After-index_mut-pool in
    let fewer = fewer_listed (first_ordinal c.args.self.now.pools.items) c.args.self.now.pools.items c.args.self.now.listed.ordinals.items c.args.self.now.«open» c.place_of_pool-place.result c.index_mut-pool.result.now c.index_mut-pool.result.now (read g r) full in
    omega arith

pub returns-clause-ran : goal.returns-clause-ran
returns-clause-ran g c =
    let r = (goal.at.returns-clause-ran g c).After-index_mut-pool in
    let f = (goal.at.returns-clause-ran g c).After-finish-count in
    let t = c.dealloc_descriptor_sets.ensures.released in
    let es : List Entry = map (entry_of g.D.DescriptorDevice.meaning.pool_name) c.args.self.now.pools.items in
    let e = entry_of g.D.DescriptorDevice.meaning.pool_name c.index_mut-pool.result.now in
    let d =
    done g.I.Iterator.next_gives g.I.Iterator.can_next g.I.Iterator.remaining g.D.DescriptorDevice.meaning.set_name
    _ c.args.first (bucket_of g.D.DescriptorDevice.meaning.pool_name c.args.self.now)
    (g.D.DescriptorDevice.ledger c.args.device.now).pools (place g f) e c.dealloc_descriptor_sets.new.sets t.items
    t.gone refl refl refl refl c.requires.stored (is_at g r).at ((is_at g r).there c.args.self.now.id)
    c.requires.taken t.drained (taken g f (is_at g r)) in
    let m = sym d.run.ahead in
    let h = c.finish-count.ensures.ahead in
    let v = sym d.run.source in
    let w = c.finish-count.ensures.source in
    let fits = (counted g f (is_at g r)).0 in
    let less = total_less c.args.self.now.pools.items (place g f) c.index_mut-pool.result.now c.dealloc_descriptor_sets.new.pool c.finish-count.result (is_at g r).within c.index_mut-pool.ensures.value (omega arith) in
    let long = length-map d.run.xs (λ (x : DescriptorSet _). g.D.DescriptorDevice.meaning.set_name x.raw) in
    let entries = changed g f (is_at g r) ∙ ap (λ (l : ℕ). set es (place g f) (entry_less l e)) d.long in (
      d.run.xs,
      run_ends g.I.Iterator.next_gives g.I.Iterator.can_next g.I.Iterator.remaining g.D.DescriptorDevice.meaning.set_name d (search (rules, m, h)) (search (rules, v, w)),
      record {
        entry = e;
        at = (is_at g r).there c.args.self.now.id;
        books = ap (λ (x : List Entry). bucket c.args.self.now.id x) (entries ∙ sym (less_at (length (names_of g.D.DescriptorDevice.meaning.set_name (c.args.first ∷ d.run.xs))) es (place g f) e c.requires.stored.distinct (is_at g r).at));
        ledger = t.ledger ∙ ap (λ (ls : List LiveSet). after_release e.pool ls (g.D.DescriptorDevice.ledger c.args.device.now)) d.sets;
      },
      (omega arith),
    )

pub returns-clause-goes : goal.returns-clause-goes
returns-clause-goes g c =
    let r = (goal.at.returns-clause-goes g c).After-index_mut-pool in
    let t = c.dealloc_descriptor_sets.ensures.released in
    let d =
    done g.I.Iterator.next_gives g.I.Iterator.can_next g.I.Iterator.remaining g.D.DescriptorDevice.meaning.set_name
    _ c.args.first (bucket_of g.D.DescriptorDevice.meaning.pool_name c.args.self.now)
    (g.D.DescriptorDevice.ledger c.args.device.now).pools c.place_of_pool-place.result
    (entry_of g.D.DescriptorDevice.meaning.pool_name c.index_mut-pool.result.now)
    c.dealloc_descriptor_sets.new.sets t.items t.gone refl refl refl refl c.requires.stored (is_at g r).at
    ((is_at g r).there c.args.self.now.id) c.requires.taken t.drained
    (taken g (goal.at.returns-clause-goes g c).After-finish-count (is_at g r)) in
    let m = sym d.run.ahead in
    let h = c.finish-count.ensures.ahead in
    let v = sym d.run.source in
    let f = c.finish-count.ensures.source in
    run_goes g.I.Iterator.next_gives g.I.Iterator.can_next g.I.Iterator.remaining g.D.DescriptorDevice.meaning.set_name d (search (rules, m, h)) (search (rules, v, f)) c.requires.ends.1

pub returns-clause-compares : goal.returns-clause-compares
returns-clause-compares g c = grind (arith, common_steps, listed_count, numbers_stored)

pub returns-clause-load : goal.returns-clause-load
returns-clause-load g c = grind (arith, common_steps)
