use Rattle.gpu_descriptor.proofs.Common.{common_steps, ◌≡◌, ℕ, ◌+◌, ◌-◌, ◌≤◌, ◌++◌, List, [], ◌∷◌, length, map, min, refl, sym, ap, ◌∙◌, subst, arith, length-map, map-append, Some, Ledger, after_alloc, after_create, after_destroy, live_sets, HasNoSets, fresh, pool_counts, DescriptorPool, Entry, Key, All, IsOfLayout}
use Rattle.gpu_descriptor.proofs.Common.{flags_of, key_of, set_at, number_after, numbers_of, pool_descriptors, entry_of}
use Rattle.gpu_descriptor.specs.declared.bucket.stop.Stop.TheVariants as stop
use Rattle.gpu_descriptor.proofs.release.StoredNumbers.{numbers_stored}
use Rattle.gpu_descriptor.proofs.request.NextSize.{one_fits}
use Rattle.gpu_descriptor.proofs.request.Asks.{same_entry}
use Rattle.gpu_descriptor.proofs.request.PoolCreated.{created_at, fresh_room, no_sets, grown, not_grown, not_created, none_asked, had_room}
use Rattle.gpu_descriptor.proofs.bucket.DescriptorBucket.take_from_new.Goals.{In-Ok, In-Ok-alloc_descriptor_sets}
use Rattle.gpu_descriptor.proofs.bucket.DescriptorBucket.take_from_new.Goals as goal

-- the pool that was created
module _ (g : _) (c : In-Ok g) where
  abbrev key : Key
  key = key_of c.args.request.now.key

  abbrev size : ℕ
  size = c.in-Some.size

  abbrev name : ℕ
  name = g.D.DescriptorDevice.meaning.pool_name c.in-Ok.raw

  abbrev before : Ledger
  before = g.D.DescriptorDevice.ledger c.args.device.now

  abbrev created : Ledger
  created = g.D.DescriptorDevice.ledger c.create_descriptor_pool.new.self

  made : created ≡ after_create (pool_counts key.counts size) size (flags_of key) name before
  made = c.in-Ok.ensures.ok ∙ (λ i. after_create (c.counts_of_sets-counts.ensures i) size (c.pool_flags-flags.ensures i) name before)

  at : created.pools name ≡ Some (fresh (pool_counts key.counts size) size (flags_of key))
  at = created_at key size name before created made

  -- a pool of one set fits
  fits : pool_descriptors key 1 ≤ c.args.budget.now.room
  fits = one_fits c.args.budget.now.bound key c.args.budget.now.room c.args.self.now.total c.args.sink.now.left size c.in-Some.ensures.sets

-- what came stands behind what was there
kept : (g : _) (c : In-Ok-alloc_descriptor_sets g) → (g.K.SetPlaces.items c.alloc_descriptor_sets.new.sets.sets)
    ≡ (g.K.SetPlaces.items c.args.sink.now.sets) ++ map (set_at (key_of c.args.request.now.key) c.args.self.now.id (number_after (numbers_of c.args.self.now.pools.items))) c.in-Ok-alloc_descriptor_sets.ensures.ok.sets
kept g c = grind (arith, common_steps)

pub alloc_descriptor_sets-requires : goal.alloc_descriptor_sets-requires
alloc_descriptor_sets-requires g c =
    let d = (goal.at.alloc_descriptor_sets-requires g c).In-Ok in
    let few : c.min-given.result ≤ c.in-Some.size = (let a = c.min-given.ensures in omega arith) in
    let keyed = subst (λ (k : Key). (created g d).pools (name g d) ≡ Some (fresh (pool_counts k.counts (size g d)) (size g d) (flags_of k))) c.args.request.now.same (at g d) in
    record { fits = record { gives = rw (c.new.ensures.left, c.new.ensures.layout) (fresh_room (g.D.DescriptorDevice.meaning.counts c.args.request.now.layout.now) (g.D.DescriptorDevice.meaning.mark c.args.request.now.layout.now) (size g d) (name g d) c.min-given.result (created g d) keyed few); room = (let a = c.min-given.ensures in let n = c.new.ensures.left in omega arith) } }

pub destroy_descriptor_pool-requires : goal.destroy_descriptor_pool-requires
destroy_descriptor_pool-requires g c =
    let d = (goal.at.destroy_descriptor_pool-requires g c).In-Ok in
    let m' : Ledger = g.D.DescriptorDevice.ledger c.alloc_descriptor_sets.new.self in
    subst (λ (q : ℕ). HasNoSets q m') (sym c.in-Err-alloc_descriptor_sets.ensures.name) (no_sets (key g d) (size g d) (name g d) c.in-Err-alloc_descriptor_sets.error (created g d) m' (at g d) c.in-Err-alloc_descriptor_sets.ensures.err.ledger)

pub returns-in-Err-alloc_descriptor_sets-clause-err : goal.returns-in-Err-alloc_descriptor_sets-clause-err
returns-in-Err-alloc_descriptor_sets-clause-err g c =
    let d = (goal.at.returns-in-Err-alloc_descriptor_sets-clause-err g c).In-Ok in
    let m' : Ledger = g.D.DescriptorDevice.ledger c.alloc_descriptor_sets.new.self in
    let m'' : Ledger = g.D.DescriptorDevice.ledger c.destroy_descriptor_pool.new.self in
    let gone : m'' ≡ after_destroy (name g d) m' = c.destroy_descriptor_pool.ensures ∙ ap (λ q. after_destroy q m') c.in-Err-alloc_descriptor_sets.ensures.name in
    let err = c.in-Err-alloc_descriptor_sets.ensures.err in (
      err.kept ∙ ap g.K.SetPlaces.items c.aim.ensures.sets,
      err.room
          ∙ c.aim.ensures.left,
      c.reserve_pool.ensures.pools,
      c.reserve_pool.ensures.total,
      refl,
      not_grown (key g d)
          (size g d) (name g d) c.in-Err-alloc_descriptor_sets.error (before g d) (created g d) m' m''
          c.in-Ok.ensures.new_name (made g d) err.ledger gone,
      had_room (λ is. absurd (cc)) (fits g d),
    )

pub returns-in-Ok-alloc_descriptor_sets-clause-grown : goal.returns-in-Ok-alloc_descriptor_sets-clause-grown
returns-in-Ok-alloc_descriptor_sets-clause-grown g c =
    let d = (goal.at.returns-in-Ok-alloc_descriptor_sets-clause-grown g c).In-Ok in
    let m' : Ledger = g.D.DescriptorDevice.ledger c.alloc_descriptor_sets.new.self in
    let put = c.in-Ok-alloc_descriptor_sets.ensures.ok in
    let names : List ℕ = map g.D.DescriptorDevice.meaning.set_name put.sets in
    let count = c.min-given.ensures in
    let many : length put.sets ≡ c.min-given.result = put.many ∙ c.new.ensures.left in
    let long : length names ≡ min c.in-Some.size c.args.sink.now.left = length-map put.sets g.D.DescriptorDevice.meaning.set_name ∙ many ∙ count in
    let is : m' ≡ after_alloc (name g d) (live_sets (key g d).counts names) (created g d) = put.ledger ∙ ap (λ cs. after_alloc (name g d) (live_sets cs names) (created g d)) (ap g.D.DescriptorDevice.meaning.counts c.new.ensures.layout ∙ sym (ap (λ (k : Key). k.counts) c.args.request.now.same)) in
    let old : List Entry = map (entry_of g.D.DescriptorDevice.meaning.pool_name) c.args.self.now.pools.items in
    let new : List Entry = map (entry_of g.D.DescriptorDevice.meaning.pool_name) c.push.new.self.pools.items in
    let value : DescriptorPool g.row.P.Denot = record { pool = c.alloc_descriptor_sets.new.pool; number = c.next_number-number.result; capacity = c.in-Some.size; allocated = c.min-given.result; available = c.in-Some.size - c.min-given.result } in
    let now : new ≡ old ++ record { number = c.next_number-number.result; pool = name g d; capacity = size g d; allocated = min (size g d) c.args.sink.now.left; available = size g d - min (size g d) c.args.sink.now.left } ∷ [] =
    ap (map (entry_of g.D.DescriptorDevice.meaning.pool_name)) (c.push.ensures.pools ∙ ap (λ x. x ++ value ∷ []) c.reserve_pool.ensures.pools)
    ∙ map-append (entry_of g.D.DescriptorDevice.meaning.pool_name) c.args.self.now.pools.items (value ∷ [])
    ∙ ap (λ (e : Entry). old ++ e ∷ []) (same_entry (entry_of g.D.DescriptorDevice.meaning.pool_name value) _ refl c.in-Ok-alloc_descriptor_sets.ensures.name refl count (ap (λ n. c.in-Some.size - n) count)) in
    let numbered : c.next_number-number.result ≡ number_after (numbers_of old) =
    c.next_number-number.ensures ∙ ap (λ (items : List (DescriptorPool g.row.P.Denot)). number_after (numbers_of items)) c.reserve_pool.ensures.pools ∙ sym (ap number_after (numbers_stored g.D.DescriptorDevice.meaning.pool_name c.args.self.now.pools.items)) in
    let room : c.alloc_descriptor_sets.new.sets.left + length put.sets ≡ c.args.sink.now.left = (let r = put.room in let n = c.new.ensures.left in let a = c.aim.ensures.left in omega arith) in
    let total : c.push.new.self.total ≡ c.args.self.now.total + length put.sets = (let pushed = c.push.ensures.total in let kept = c.reserve_pool.ensures.total in omega arith) in
    let came = kept g (goal.at.returns-in-Ok-alloc_descriptor_sets-clause-grown g c).In-Ok-alloc_descriptor_sets in (
      put.sets,
      came,
      room,
      total,
      grown c.args.budget.now.bound (key g d) c.args.budget.now.room _ c.args.self.now.total c.args.sink.now.left (size g d) (name g d) c.next_number-number.result
          names old new (before g d) (created g d) m' c.in-Some.ensures.sets
          (let fits = c.in-Some.ensures.room.0 in let load = c.marked_descriptors_of_pool.ensures in omega arith) long c.in-Ok.ensures.new_name (made g d) is numbered now,
      subst (λ l. All (IsOfLayout g.D.DescriptorDevice.meaning l) put.sets) c.new.ensures.layout put.own,
    )

pub returns-then-is_err-clause-err : goal.returns-then-is_err-clause-err
returns-then-is_err-clause-err g c = (
  refl,
  refl,
  c.reserve_pool.ensures.pools,
  c.reserve_pool.ensures.total,
  refl,
  none_asked
      (g.D.DescriptorDevice.ledger c.args.device.now) stop.NoMemoryForPool refl,
  had_room (λ is. absurd (cc))
      (one_fits c.args.budget.now.bound (key_of c.args.request.now.key) c.args.budget.now.room c.args.self.now.total
      c.args.sink.now.left c.in-Some.size c.in-Some.ensures.sets),
)

pub returns-in-Err-clause-err : goal.returns-in-Err-clause-err
returns-in-Err-clause-err g c =
    let l : Ledger = g.D.DescriptorDevice.ledger c.args.device.now in
    let m : Ledger = g.D.DescriptorDevice.ledger c.create_descriptor_pool.new.self in (
      refl,
      refl,
      c.reserve_pool.ensures.pools,
      c.reserve_pool.ensures.total,
      refl,
      not_created c.in-Err.error l m
          c.in-Err.ensures.err,
      had_room (λ is. absurd (cc))
          (one_fits c.args.budget.now.bound (key_of c.args.request.now.key) c.args.budget.now.room c.args.self.now.total
          c.args.sink.now.left c.in-Some.size c.in-Some.ensures.sets),
    )

pub marked_descriptors_of_pool-requires : goal.marked_descriptors_of_pool-requires
marked_descriptors_of_pool-requires g c = c.in-Some.ensures.room.1

pub overflow_sub-budget : goal.overflow_sub-budget
overflow_sub-budget g c = (let fits = c.in-Some.ensures.room.0 in let load = c.marked_descriptors_of_pool.ensures in omega arith)

pub returns-in_default-clause-err : goal.returns-in_default-clause-err
returns-in_default-clause-err g c =
    (refl, refl, refl, refl, refl, none_asked (g.D.DescriptorDevice.ledger c.args.device.now) stop.NoRoomUnderLimit refl, (λ is. c.in_default.ensures.none, λ none. refl))

pub returns-in-Err-clause-looks : goal.returns-in-Err-clause-looks
returns-in-Err-clause-looks g c = grind (arith, common_steps)

pub returns-in-Err-alloc_descriptor_sets-clause-looks : goal.returns-in-Err-alloc_descriptor_sets-clause-looks
returns-in-Err-alloc_descriptor_sets-clause-looks g c = grind (arith, common_steps)

pub push-requires-clause-capacity : goal.push-requires-clause-capacity
push-requires-clause-capacity g c = grind (arith, common_steps)

pub push-requires-clause-listed : goal.push-requires-clause-listed
push-requires-clause-listed g c = grind (arith, common_steps)
