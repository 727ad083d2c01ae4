-- A request for which all that it needs is there is refused by the device alone.
-- For `fill` and `serve_if_allowed`.
use Rattle.gpu_descriptor.proofs.Common.{◌≡◌, ℕ, ◌+◌, ◌-◌, ◌<◌, ◌≤◌, ◌&&◌, Bool, List, [], ◌∷◌, drop, length, nat_lt, sum_by, sum_by-cons, arith, common_steps, refl, sym, ap, subst, DeviceAllocationError, AllocationError, Item, Entry, Stop, Result, is_some, false, true, false≢true}
use Rattle.gpu_descriptor.proofs.Common.{Call, Allocates, IsWithinLimit, Stays, inl, inr, ◌⊎◌, next_number, greatest_u64, IfErr, IsBack, IsStopped, StopsAt, taken_by, offer, refused_count}
use Rattle.std.specs.Prelude.{OnErr, ◌*◌, sum}
use Rattle.gpu_descriptor.proofs.Common.{AddsUp, Agree, Agrees, Allocations, Key, Ledger, State, bucket_load, descriptors_out, marked_load_of, pool_load_of, set_descriptors, state_of}
use Rattle.gpu_descriptor.proofs.sums.Loads.{set_descriptors-le}
use Rattle.gpu_descriptor.proofs.sums.PoolSums.{free_within}
use Rattle.gpu_descriptor.proofs.sums.TableSums.{adds_up, marked_load_of-table, pool_load_of-table}
use Rattle.gpu_descriptor.specs.declared.errors.AllocationError.TheVariants.{OutOfHostMemory}
use Rattle.gpu_descriptor.specs.Caller.Certain.{free_places, refusals}
use Rattle.gpu_descriptor.specs.declared.bucket.stop.Stop.TheVariants as stop
use Rattle.gpu_descriptor_types.specs.declared.errors.DeviceAllocationError.TheVariants as alloc_error
use Rattle.gpu_descriptor.specs.Model.Outcomes.Allocates.{none, above_limit, past_bound, no_memory_at_start, done, stopped}

-- pools that offer fewer places than they are known to have: one of them refused
some_refused : (refused : ℕ → Bool) (pools : List Entry) → sum_by (offer refused) pools < sum_by (λ (e : Entry). e.available) pools → 0 < refused_count refused pools
some_refused refused [] fewer = absurd (omega arith)
some_refused refused (e ∷ pools) fewer = grind (arith, common_steps, sum_by-cons, (some_refused refused pools))

-- a key with free places has pools
pub some_pools : (pools : List Entry) → 0 < sum_by (λ (e : Entry). e.available) pools → 0 < length pools
some_pools [] some = some
some_pools (e ∷ pools) some = omega arith

-- what passes the tests before the walk
pub in_limit : (marked above : Bool) (limit load : ℕ) → above ≡ (marked && nat_lt limit load) → (marked ≡ true → load ≤ limit) → above ≡ false
in_limit false above limit load test within = test
in_limit true above limit load test within = (let keeps = within refl in grind (arith, common_steps))

pub in_bound : (past : Bool) (greatest sum : ℕ) → past ≡ nat_lt greatest sum → sum ≤ greatest → past ≡ false
in_bound past greatest sum test within = grind (arith, common_steps)

-- the limit has counted the places since their pools were created
pub room_of_places : (s : State) (k : Key) (marked pools limit count : ℕ) → Agree s → AddsUp descriptors_out s.books marked → AddsUp bucket_load s.books pools → pools ≤ limit → count ≤ free_places (s.books k) → k.marked ≡ true → count * sum k.counts + marked ≤ limit
room_of_places s k marked pools limit count agree out load within free on =
    let all = free_within s agree k marked pools out load in
    let le = set_descriptors-le k count (free_places (s.books k)) free in
    let is : set_descriptors k count ≡ count * sum k.counts = rw on refl in
    omega arith

pub allowed : {P : Type 0} (name : P → ℕ) (a : Allocations P) (l : Ledger) → Agrees name a l → pool_load_of a ≤ a.limit → (k : Key) (count : ℕ) → count ≤ free_places ((state_of name a l).books k) → k.marked ≡ true → count * sum k.counts + marked_load_of a ≤ a.limit
allowed name a l agree within k count =
    room_of_places (state_of name a l) k (marked_load_of a) (pool_load_of a) a.limit count agree.books
    (adds_up name a descriptors_out agree.rows (marked_load_of-table name a)) (adds_up name a bucket_load agree.rows (pool_load_of-table name a)) within

module _ (c : Call) (free : c.count ≤ free_places (c.old.books c.key)) where
  abbrev pools : List Entry
  pools = (c.old.books c.key).pools

  -- it stopped after the existing pools, of which one refused
  after_pools : (s : IsStopped c) (why : Stop) → IsBack c s.grant why → s.grant.skipped ≡ 0 → sum_by (offer s.grant.refused) pools < c.count → refusals c.before < refusals c.after
  after_pools s why back all short =
      let some = some_refused s.grant.refused pools (omega arith) in
      let asked : refused_count s.grant.refused (drop s.grant.skipped pools) ≡ refused_count s.grant.refused pools = ap (λ (n : ℕ). refused_count s.grant.refused (drop n pools)) all in
      let n = ap refusals back.counters in omega arith

  -- or at one that returned a memory error
  at_pool : (s : IsStopped c) (e : DeviceAllocationError) → IsBack c s.grant (stop.ExistingPoolWithoutMemory e) → refusals c.before < refusals c.after
  at_pool s alloc_error.OutOfDeviceMemory back = (let n = ap refusals back.counters in omega arith)
  at_pool s alloc_error.OutOfHostMemory back = (let n = ap refusals back.counters in omega arith)
  at_pool s alloc_error.FragmentedPool back = (let n = ap refusals back.counters in omega arith)
  at_pool s alloc_error.OutOfPoolMemory back = (let n = ap refusals back.counters in omega arith)

  stop_refused : (s : IsStopped c) (why : Stop) → IsBack c s.grant why → StopsAt why c.bound c.key (c.limit - c.pooled) c.count s.grant pools → refusals c.before < refusals c.after
  stop_refused s (stop.ExistingPoolWithoutMemory e) back at = at_pool s e back
  stop_refused s stop.NoRoomUnderLimit back at = (let short = at.1.short in after_pools s _ back at.0 (omega arith))
  stop_refused s stop.NoMemoryForPool back at = (let short = at.1.short in after_pools s _ back at.0 (omega arith))
  stop_refused s (stop.PoolNotCreated e) back at = (let short = at.1.short in after_pools s _ back at.0 (omega arith))
  stop_refused s (stop.NewPoolRefused e) back at = (let short = at.1.short in after_pools s _ back at.0 (omega arith))

  -- so the device refused where the request reached the walk and failed
  pub walk_refused : (outcome : Allocates c) → is_some (taken_by outcome) ≡ true → OnErr c.answer (refusals c.before < refusals c.after)
  walk_refused (none zero_count answer stays) walked = absurd (false≢true walked)
  walk_refused (above_limit some above answer stays) walked = absurd (false≢true walked)
  walk_refused (past_bound some within past answer stays) walked = absurd (false≢true walked)
  walk_refused (no_memory_at_start p answer stays) walked = absurd (false≢true walked)
  walk_refused (done p d) walked = subst (λ (r : Result (List Item) AllocationError). OnErr r (refusals c.before < refusals c.after)) (sym d.answer) tt
  walk_refused (stopped p s) walked = subst (λ (r : Result (List Item) AllocationError). OnErr r (refusals c.before < refusals c.after)) (sym s.back.answer) (stop_refused s s.why s.back s.at)

-- whatever the outcome, it is refused by the device, or for want of memory before the device was asked
pub only_refused : (c : Call) → Allocates c → c.count ≤ free_places (c.old.books c.key) → IsWithinLimit c → next_number (c.old.books c.key) + c.count ≤ greatest_u64 → c.out + c.count ≤ greatest_u64 → IfErr c.answer (λ e. (refusals c.before < refusals c.after) ⊎ ((e ≡ OutOfHostMemory) × Stays c))
only_refused c outcome free within numbers sets = by outcome
  where
    Says : Result (List Item) AllocationError → Type 0
    Says r = IfErr r (λ e. (refusals c.before < refusals c.after) ⊎ ((e ≡ OutOfHostMemory) × Stays c))

    by : Allocates c → Says c.answer
    by (none zero_count answer stays) = subst Says (sym answer) tt
    by (above_limit some above answer stays) = absurd (let keeps = within above.marked in let past = above.above in omega arith)
    by (past_bound some limit past answer stays) = absurd (elim past [ inl many ↦ (omega arith) | inr many ↦ (omega arith) ])
    by (no_memory_at_start p answer stays) = subst Says (sym answer) (inr (refl, stays))
    by (done p d) = subst Says (sym d.answer) tt
    by (stopped p s) = subst Says (sym s.back.answer) (inl (stop_refused c free s s.why s.back s.at))
