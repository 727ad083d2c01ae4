-- What a new pool does to the ledger.
-- For `take_from_new`. l is the ledger at first, m that after the create, m' after the call for sets, m'' after a destroy.
use Rattle.gpu_descriptor.proofs.Common.{◌↔◌, ◌≡◌, ◌≢◌, ◌<◌, ℕ, ◌+◌, ◌-◌, ◌≤◌, min, List, [], ◌∷◌, ◌++◌, length, Bool, true, false, cond, nat_eq, Option, Some, None, slice_index, refl, sym, ap, ◌∙◌, arith, eqb-true, mul-le-mul_right, fun_ext, update, flags_of, Key, Entry, Pool, Ledger, Counters, common_steps}
use Rattle.gpu_descriptor.proofs.Common.{CanGive, HasNoSets, live_sets, fresh, after_create, after_no_create, after_alloc, after_no_alloc, after_destroy, alloc_refused, pool_refusals, no_rise, CreatePoolError, pool_counts, DeviceAllocationError, Stop, update_here, IsNextSize}
use Rattle.gpu_descriptor.proofs.Common.{pool_descriptors, IsGrown, IsRefused, risen, stop_rise, option_map, fresh_entry, number_after, numbers_of}
use Rattle.gpu_descriptor.specs.declared.bucket.stop.Stop.TheVariants as stop
use Rattle.gpu_descriptor_types.proofs.Counting.{none_spelled}
use Rattle.gpu_descriptor.proofs.request.Asks.{same_counters}
use Rattle.gpu_descriptor.proofs.request.PlacesFree.{key_with, wide, marked_flags}

-- a pool for a key was created
pub created_at : (k : Key) (size name : ℕ) (l m : Ledger) → m ≡ after_create (pool_counts k.counts size) size (flags_of k) name l → m.pools name ≡ Some (fresh (pool_counts k.counts size) size (flags_of k))
created_at k size name l m is = ap (λ (x : Ledger). x.pools name) is ∙ update_here l.pools name (Some (fresh (pool_counts k.counts size) size (flags_of k)))

-- it can give as many sets as it was created for
pub fresh_room : (counts : List ℕ) (mark : Bool) (size name n : ℕ) (m : Ledger) → m.pools name ≡ Some (fresh (pool_counts counts size) size (flags_of (key_with counts mark))) → n ≤ size → CanGive name n counts mark m
fresh_room counts mark size name n m is few = record {
  pool = fresh (pool_counts counts size) size (flags_of (key_with counts mark));
  is_live = is;
  marked = marked_flags counts mark;
  places = λ sets spelled. rw (none_spelled sets spelled) (omega arith);
  each_kind = λ sets spelled j. rw (none_spelled sets spelled) (let has = wide (key_with counts mark) size j in let some = mul-le-mul_right (slice_index counts j) few in omega arith);
}

-- if it refused it has no sets, so it may be destroyed
pub no_sets : (k : Key) (size name : ℕ) (error : DeviceAllocationError) (m m' : Ledger) → m.pools name ≡ Some (fresh (pool_counts k.counts size) size (flags_of k)) → m' ≡ after_no_alloc name error m → HasNoSets name m'
no_sets k size name error m m' at is =
    let pool : Pool = fresh (pool_counts k.counts size) size (flags_of k) in
    record {
      pool = record pool { refusals = pool.refusals + pool_refusals error };
      is_live = ap (λ (x : Ledger). x.pools name) is ∙ update_here m.pools name (option_map (λ (pool : Pool). record pool { refusals = pool.refusals + pool_refusals error }) (m.pools name)) ∙ ap (option_map (λ (pool : Pool). record pool { refusals = pool.refusals + pool_refusals error })) at;
      empty = λ x. refl;
    }

-- it gave sets: what it adds to a request
pub grown : (bound : Option ℕ) (k : Key) (room left total wanted size name number : ℕ) (names : List ℕ) (old new : List Entry) (l m m' : Ledger)
    → IsNextSize bound k room total wanted size → left + pool_descriptors k size ≡ room → length names ≡ min size wanted → l.pools name ≡ None
    → m ≡ after_create (pool_counts k.counts size) size (flags_of k) name l → m' ≡ after_alloc name (live_sets k.counts names) m → number ≡ number_after (numbers_of old)
    → new ≡ old ++ record { number = number; pool = name; capacity = size; allocated = min size wanted; available = size - min size wanted } ∷ [] → IsGrown bound k room left total wanted names old new l m'
grown bound k room left total wanted size name number names old new l m m' sized less many none made is numbered now = record {
  pool = record { pool = name; size = size; given = min size wanted };
  size = sized;
  less = less;
  given = refl;
  many = many;
  is_new = none;
  entries = now ∙ ap (λ (i : ℕ). old ++ fresh_entry i (record { pool = name; size = size; given = min size wanted }) ∷ []) numbered;
  pools = ap (λ (x : Ledger). x.pools) (is ∙ ap (after_alloc name (live_sets k.counts names)) made);
  counters = ap (λ (x : Ledger). x.counters) (is ∙ ap (after_alloc name (live_sets k.counts names)) made) ∙ same_counters _ _ (omega arith) (omega arith) (omega arith) (omega arith) (omega arith) (omega arith) (omega arith) (omega arith);
}

fresh_counters : (error : DeviceAllocationError) (n : Counters) → (let made : Counters = record n { created = n.created + 1 } in let asked = alloc_refused error made in record asked { destroyed = asked.destroyed + 1 }) ≡ risen (stop_rise (stop.NewPoolRefused error)) n
fresh_counters error n = same_counters _ _ (grind arith) (grind arith) (grind arith) (grind arith) (grind arith) (grind arith) (grind arith) (grind arith)

-- a pool that was created, refused and was destroyed has left the ledger's pools as they were
pub not_grown : (k : Key) (size name : ℕ) (error : DeviceAllocationError) (l m m' m'' : Ledger) → l.pools name ≡ None → m ≡ after_create (pool_counts k.counts size) size (flags_of k) name l → m' ≡ after_no_alloc name error m → m'' ≡ after_destroy name m' → IsRefused (stop.NewPoolRefused error) l m''
not_grown k size name error l m m' m'' none made refused gone = record {
  pools = ap (λ (x : Ledger). x.pools) all ∙ fun_ext (λ q. at (nat_eq name q) q refl);
  counters = ap (λ (x : Ledger). x.counters) all ∙ fresh_counters error l.counters;
}
  where
    all : m'' ≡ after_destroy name (after_no_alloc name error (after_create (pool_counts k.counts size) size (flags_of k) name l))
    all = gone ∙ ap (after_destroy name) (refused ∙ ap (after_no_alloc name error) made)

    at :
        (b : Bool) (q : ℕ) → nat_eq name q ≡ b
        → cond b None
        (cond b
        (option_map (λ (pool : Pool). record pool { refusals = pool.refusals + pool_refusals error })
        (update nat_eq l.pools name (Some (fresh (pool_counts k.counts size) size (flags_of k))) name))
        (cond b (Some (fresh (pool_counts k.counts size) size (flags_of k))) (l.pools q)))
        ≡ l.pools q
    at true q h = sym none ∙ ap l.pools (eqb-true name q h)
    at false q h = refl

pub not_created : (error : CreatePoolError) (l m : Ledger) → m ≡ after_no_create error l → IsRefused (stop.PoolNotCreated error) l m
not_created error l m is = grind (arith, common_steps)

-- nothing was asked of the device
pub none_asked : (l : Ledger) (why : Stop) → stop_rise why ≡ no_rise → IsRefused why l l
none_asked l why none = record { pools = refl; counters = sym (ap (λ (by : Counters). risen by l.counters) none ∙ same_counters _ _ (omega arith) (omega arith) (omega arith) (omega arith) (omega arith) (omega arith) (omega arith) (omega arith)) }

-- a request stopped for another reason than want of room
pub had_room : {why : Stop} {one room : ℕ} → why ≢ stop.NoRoomUnderLimit → one ≤ room → (why ≡ stop.NoRoomUnderLimit) ↔ (room < one)
had_room other fits = (λ is. absurd (other is), λ none. absurd (omega arith))
