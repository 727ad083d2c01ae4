-- What asking one pool does, from what the device did.
-- For `ask`; `same_counters` for whatever counts calls. e is the pool's entry, l and m are the ledgers before and after.
use Rattle.gpu_descriptor.proofs.Common.{◌≡◌, ℕ, ◌+◌, ◌-◌, ◌<◌, min, List, [], length, false, Option, Some, None, refl, ap, arith, fun_ext, Key, Entry, Pool, Ledger, Counters, live_sets, option_map, after_alloc, common_steps}
use Rattle.gpu_descriptor.proofs.Common.{after_no_alloc, pool_refusals, LiveSet, DeviceAllocationError, pool_with, IsAsked}

-- entries, and counters, with equal fields are equal
pub same_entry : (a b : Entry) → a.number ≡ b.number → a.pool ≡ b.pool → a.capacity ≡ b.capacity → a.allocated ≡ b.allocated → a.available ≡ b.available → a ≡ b
same_entry a b number pool capacity allocated free = λ i. record { number = number i; pool = pool i; capacity = capacity i; allocated = allocated i; available = free i }

pub same_counters : (a b : Counters) → a.created ≡ b.created → a.destroyed ≡ b.destroyed → a.asked ≡ b.asked → a.released ≡ b.released → a.device_memory ≡ b.device_memory → a.host_memory ≡ b.host_memory → a.fragmentation ≡ b.fragmentation → a.pool_refused ≡ b.pool_refused → a ≡ b
same_counters a b e1 e2 e3 e4 e5 e6 e7 e8 = λ i. record { created = e1 i; destroyed = e2 i; asked = e3 i; released = e4 i; device_memory = e5 i; host_memory = e6 i; fragmentation = e7 i; pool_refused = e8 i }

-- a pool that nothing came from and that did not refuse
pub pool_same : (p : Pool) → pool_with [] false p ≡ p
pool_same p = λ i. record p { live = fun_ext (λ (x : LiveSet). (let e : p.live x + 0 ≡ p.live x = omega arith in e)) i }

pub none_with : (o : Option Pool) → option_map (pool_with [] false) o ≡ o
none_with None = refl
none_with (Some p) = ap (λ (x : Pool). Some x) (pool_same p)

-- it isn't asked, and nothing changes
pub skipped : (k : Key) (wanted : ℕ) (e : Entry) (l : Ledger) → min wanted e.available ≡ 0 → IsAsked k wanted [] e e l l
skipped k wanted e l h = grind (arith, common_steps)

-- it gave what is still needed or all it has; it refused as fragmented or full
pub given :
    (k : Key) (wanted : ℕ) (names : List ℕ) (e : Entry) (l m : Ledger) → 0 < min wanted e.available
    → length names ≡ min wanted e.available → m ≡ after_alloc e.pool (live_sets k.counts names) l
    → IsAsked k wanted names e
    (record e {
      allocated = e.allocated + min wanted e.available;
      available = e.available - min wanted e.available;
    })
    l m
given k wanted names e l m some many is = grind (arith, common_steps)

pub refuses : (k : Key) (wanted : ℕ) (error : DeviceAllocationError) (e : Entry) (l m : Ledger) → 0 < min wanted e.available → pool_refusals error ≡ 1 → m ≡ after_no_alloc e.pool error l → IsAsked k wanted [] e (record e { available = 0 }) l m
refuses k wanted error e l m some pool_error is = grind (arith, common_steps)
