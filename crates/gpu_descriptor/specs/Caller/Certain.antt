-- When only the device may refuse a request: no memory and no new pool is needed. The limit then allows it, since the places have been counted since their pools were created.
use Rattle.std.specs.Prelude.{ℕ, ◌+◌, ◌<◌, ◌≤◌, sum_by}
use Rattle.gpu_descriptor_types.specs.Bounds.{greatest_u64}
use Rattle.gpu_descriptor_types.specs.Ledger.{Counters, Ledger}
use Rattle.gpu_descriptor_types.specs.Meaning.{Meaning}
use Rattle.gpu_descriptor_types.specs.Side.{Side}
use Rattle.gpu_descriptor.specs.Model.Books.{Bucket, Key, next_number}
use Rattle.gpu_descriptor.specs.Caller.States.{outstanding_of, state_of}
use Rattle.gpu_descriptor.specs.Caller.Values.{Allocations}

-- how many places of a key's pools are known to be free
abbrev pub free_places : Bucket → ℕ
free_places b = sum_by (λ e. e.available) b.pools

-- a request for count sets of a key that `places` more sets of the list have room for: all that it needs is there
pub record IsProvided {L P S : Type 0} (means : Meaning L P S) (k : Key) (count places : ℕ) (old : Side (Allocations P)) : Type 0 where
  -- the list has room for the sets
  pub room : count ≤ places
  -- the key's pools have as many places that are known to be free, so the key is in the table, too
  pub free : count ≤ free_places ((state_of means.pool_name old.value old.ledger).books k)
  -- the numbers of count new pools, and that of the outstanding sets, keep 64 bits
  pub numbers : next_number ((state_of means.pool_name old.value old.ledger).books k) + count ≤ greatest_u64
  pub sets : outstanding_of old.value + count ≤ greatest_u64

-- how often the device refused a call, for whatever reason
abbrev pub refusals : Counters → ℕ
refusals n = n.device_memory + n.host_memory + n.fragmentation + n.pool_refused

-- the device refused a call in between
abbrev pub HasRefused : (before after : Ledger) → Type 0
HasRefused before after = refusals before.counters < refusals after.counters
