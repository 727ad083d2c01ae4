-- The descriptors of a marked key's pool are those that the device created it with.
use Rattle.gpu_descriptor.proofs.Common.{common_steps, ℕ, ◌≡◌, true, Some, length, arith, sum, Pool, IsAsBooked, State, Agree, Key, Entry, slice_get, pool_descriptors}
use Rattle.gpu_descriptor_types.proofs.PoolCounts.{pool_counts_sum}

pub booked_load : (k : Key) (pool : Pool) (e : Entry) → length k.counts ≡ 14 → k.marked ≡ true → IsAsBooked k pool e → sum pool.counts ≡ pool_descriptors k e.capacity
booked_load k pool e long marked booked = grind (arith, common_steps, pool_counts_sum)

pub pool_load_is : (s : State) (k : Key) (n : ℕ) (e : Entry) (pool : Pool) → Agree s → length k.counts ≡ 14 → k.marked ≡ true → slice_get (s.books k).pools n ≡ Some e → s.ledger e.pool ≡ Some pool → sum pool.counts ≡ pool_descriptors k e.capacity
pool_load_is s k n e pool agree long marked at live = grind (arith, common_steps, booked_load)
