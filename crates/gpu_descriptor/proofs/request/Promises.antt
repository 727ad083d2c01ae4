-- What every outcome of a request promises.
-- For request.HandedOut: `short` is the clause that pools are created only if the existing ones fall short, and few (IsShort).
use Rattle.gpu_descriptor.proofs.Common.{common_steps, ◌≡◌, ◌≢◌, ℕ, suc, ◌+◌, ◌-◌, ◌*◌, ◌<◌, ◌≤◌, Bool, Option, List, [], ◌∷◌, map, length, sum_by, inl, inr, refl, sym, ap, ◌∙◌, subst, arith, length-map, length-append, sum_by-cons, sum_by-append, pool_size_floor, ◌↔◌, OnOk, Counters}
use Rattle.gpu_descriptor.proofs.Common.{create_refused, alloc_refused, no_rise, CreatePoolError, DeviceAllocationError, Stop, Key, Entry, cases_lt, ◌⊎◌, Allocates, Call, IsBack, IsDone, IsStopped, StopsAt, out_then, stop_rise, needed, Fresh, IsFreshPrefix, IsNextSize, room_after, AreSized}
use Rattle.gpu_descriptor.proofs.Common.{AllByRecursion, IsFreshList, given_by, Grant, Part, portion_of, items_in, AreBelowTwice, IsShort, CreatesOnlyWhereShort, pool_descriptors, Portion, rest, portions_of}
use Rattle.gpu_descriptor_types.proofs.Sizes.{pool_size_some}
use Rattle.gpu_descriptor.specs.declared.bucket.stop.Stop.TheVariants as stop
use Rattle.gpu_descriptor.specs.Model.Outcomes.Allocates.{none, above_limit as was_above_limit, past_bound as was_past_bound, no_memory_at_start as had_no_memory, done, stopped}
use Rattle.gpu_descriptor.specs.Model.FreshPools.IsFreshList.{none as no_fresh, some as some_fresh}
use Rattle.gpu_descriptor.proofs.request.NextSize.{next_whole, one_fits, last_fits}
use Rattle.gpu_descriptor.proofs.request.NewPools.{AreFilled, shares_used, done_filled, prefix_below, list_below}

-- ---- how many sets

abbrev pub sum_given : List Portion → ℕ
sum_given ps = sum_by (λ p. p.given) ps

-- as many items came as the portions say; and shares and rest together are all that was asked for
pub length_items : (k : Key) (id : ℕ) (parts : List Part) → length (items_in k id parts) ≡ sum_given (map portion_of parts)
length_items k id [] = refl
length_items k id (p ∷ parts) = grind (arith, common_steps, length-map, sum_by-cons, (length_items k id parts))

pub shares_sum : (refused : ℕ → Bool) (n : ℕ) (pools : List Entry) → sum_given (portions_of refused n pools) + rest refused n pools ≡ n
shares_sum refused n [] = omega arith
shares_sum refused n (e ∷ newer) = grind (arith, common_steps, sum_by-append, sum_by-cons, (shares_sum refused n newer))

-- ---- pools are created only where the existing ones fall short

-- a pool that was not cut, gave all it has, and didn't do gave the least that a pool holds
whole_gave : (bound : Option ℕ) (k : Key) (room total wanted : ℕ) (f : Fresh) → IsNextSize bound k room total wanted f.size → pool_descriptors k 1 ≤ room - pool_descriptors k f.size → f.given ≡ f.size → f.given < wanted → pool_size_floor k.counts ≤ f.given
whole_gave bound k room total wanted f next left full short = (let some = pool_size_some k.counts total wanted f.size (next_whole bound k room total wanted f.size next (omega arith) left) in omega arith)

-- new pools that gave all they have and didn't do are few; with room left for one more so are they and that one. The last may have been cut
few :
    (bound : Option ℕ) (k : Key) (room total wanted : ℕ) (pools : List Fresh) → AreSized bound k room total wanted pools
    → AllByRecursion (λ (f : Fresh). f.given ≡ f.size) pools → given_by pools < wanted → (more : ℕ)
    → (more ≡ 0) ⊎ ((more ≡ pool_size_floor k.counts) × (pool_descriptors k 1 ≤ room_after k room pools))
    → length pools * pool_size_floor k.counts + more ≤ given_by pools + pool_size_floor k.counts
few bound k room total wanted [] sized full short more why = elim why [ inl nothing ↦ (omega arith) | inr one ↦ (let is = one.0 in omega arith) ]
few bound k room total wanted (f ∷ []) sized full short more why = elim why [ inl nothing ↦ (omega arith) | inr one ↦ (let is = one.0 in let gave = whole_gave bound k room total wanted f sized.0 one.1 full.0 (omega arith) in omega arith) ]
few bound k room total wanted (f ∷ h ∷ pools) sized full short more why =
    let sum = sum_by-cons (λ (g : Fresh). g.given) f (h ∷ pools) in
    let is = full.0 in
    let left = one_fits bound k (room - pool_descriptors k f.size) (total + f.given) (wanted - f.given) h.size sized.1.0 in
    let gave = whole_gave bound k room total wanted f sized.0 left is (omega arith) in
    let rest = few bound k (room - pool_descriptors k f.size) (total + f.given) (wanted - f.given) (h ∷ pools) sized.1 full.1 (omega arith) more why in
    omega arith

-- a request that created n pools is short (IsShort) if n is so small
pools_short : (c : Call) (g : Grant) → 0 < needed c g → AreBelowTwice (out_then c g) (needed c g) g.fresh → OnOk c.answer (AreFilled c) → (n : ℕ) → c.after.created ≡ c.before.created + n → n * pool_size_floor c.key.counts < needed c g + pool_size_floor c.key.counts → IsShort c g
pools_short c g some below filled n rise few = grind (arith, common_steps, shares_used)

-- of a request that stopped after a prefix; a new pool that was destroyed at once counts, too
prefix_short : (c : Call) (s : IsStopped c) (why : Stop) (room : ℕ) → IsBack c s.grant why → IsFreshPrefix c.bound c.key room (out_then c s.grant) (needed c s.grant) s.grant.fresh
    → ((stop_rise why).created * pool_size_floor c.key.counts ≡ 0) ⊎ (((stop_rise why).created * pool_size_floor c.key.counts ≡ pool_size_floor c.key.counts) × (pool_descriptors c.key 1 ≤ room_after c.key room s.grant.fresh)) → IsShort c s.grant
prefix_short c s why room back front more =
    let short = front.short in
    let n = ap (λ (k : Counters). k.created) back.counters in
    let all = few c.bound c.key room _ _ s.grant.fresh front.sized front.full short ((stop_rise why).created * pool_size_floor c.key.counts) more in
    pools_short c s.grant (omega arith) (prefix_below c.bound c.key room _ _ s.grant.fresh front.sized front.full short) (rw back.answer tt) (length s.grant.fresh + (stop_rise why).created) (omega arith) (omega arith)

-- of a request that was met
done_short : (c : Call) (d : IsDone c) → IsFreshList c.bound c.key (c.limit - c.pooled) (out_then c d.grant) (needed c d.grant) d.grant.fresh → 0 < length d.grant.fresh → IsShort c d.grant
done_short c d (no_fresh zero_wanted empty) some = (let e = ap length empty in absurd (omega arith))
done_short c d (some_fresh front last parts short sized le given) some =
    let g : Grant = d.grant in
    let m : ℕ = pool_size_floor c.key.counts in
    let whole_sized = subst (AreSized c.bound c.key (c.limit - c.pooled) (out_then c g) (needed c g)) parts sized in
    let all = few c.bound c.key (c.limit - c.pooled) _ _ front short.sized short.full short.short m (inr (refl, last_fits c.bound c.key _ _ _ front last whole_sized)) in
    let below = subst (AreBelowTwice (out_then c g) (needed c g)) (sym parts) (list_below c.bound c.key (c.limit - c.pooled) (out_then c g) (needed c g) front last whole_sized short.full short.short) in
    let less = short.short in
    let long = ap length parts ∙ length-append front (last ∷ []) in
    let same : length g.fresh ≡ suc (length front) = omega arith in
    let whole : length g.fresh * m ≡ suc (length front) * m = ap (λ n. n * m) same in
    let created = ap (λ (k : Counters). k.created) d.counters in
    pools_short c g (omega arith) below (rw d.answer (done_filled c d some)) (length g.fresh) (omega arith) (omega arith)

-- what an error adds to some of the counters
alloc_creates : (e : DeviceAllocationError) → (alloc_refused e no_rise).created ≡ 0
alloc_creates e = grind arith

create_creates : (e : CreatePoolError) → (create_refused e no_rise).created ≡ 0
create_creates e = grind arith

-- there was room where it stopped for another reason
fits : {why : Stop} {one room : ℕ} → (why ≡ stop.NoRoomUnderLimit) ↔ (room < one) → why ≢ stop.NoRoomUnderLimit → one ≤ room
fits {one = one} {room = room} told other = elim (cases_lt room one) [ inl lt ↦ absurd (other (told.1 lt)) | inr le ↦ le ]

module _ (c : Call) where
  stop_short : (s : IsStopped c) (why : Stop) → IsBack c s.grant why → StopsAt why c.bound c.key (c.limit - c.pooled) c.count s.grant (c.old.books c.key).pools → c.before.created < c.after.created → IsShort c s.grant
  stop_short s (stop.ExistingPoolWithoutMemory e) back at more = grind (arith, common_steps, alloc_creates)
  stop_short s stop.NoRoomUnderLimit back at more = prefix_short c s stop.NoRoomUnderLimit _ back at.1 (inl (omega arith))
  stop_short s stop.NoMemoryForPool back at more = prefix_short c s stop.NoMemoryForPool _ back at.1 (inl (omega arith))
  stop_short s (stop.PoolNotCreated e) back at more = prefix_short c s (stop.PoolNotCreated e) _ back at.1 (inl (ap (λ n. n * pool_size_floor c.key.counts) (create_creates e) ∙ (omega arith)))
  stop_short s (stop.NewPoolRefused e) back at more = prefix_short c s (stop.NewPoolRefused e) _ back at.1 (inr ((omega arith), fits at.2 (λ same. absurd (cc))))

  -- a pool is created only where the existing ones fall short
  pub short : (outcome : Allocates c) → CreatesOnlyWhereShort outcome
  short (none zero_count answer stays) more = (let n = ap (λ (k : Counters). k.created) stays.counters in absurd (omega arith))
  short (was_above_limit some above answer stays) more = (let n = ap (λ (k : Counters). k.created) stays.counters in absurd (omega arith))
  short (was_past_bound some within past answer stays) more = (let n = ap (λ (k : Counters). k.created) stays.counters in absurd (omega arith))
  short (had_no_memory p answer stays) more = (let n = ap (λ (k : Counters). k.created) stays.counters in absurd (omega arith))
  short (done p d) more = (d.grant, refl, (let n = ap (λ (k : Counters). k.created) d.counters in done_short c d d.fresh (omega arith)))
  short (stopped p s) more = (s.grant, refl, stop_short s s.why s.back s.at more)
