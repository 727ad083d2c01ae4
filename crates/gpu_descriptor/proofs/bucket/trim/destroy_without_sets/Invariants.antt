use Rattle.gpu_descriptor.proofs.Common.{◌≡◌, ◌+◌, ◌≤◌, length, deque_capacity, Key, key_of, pools_load}
use Rattle.gpu_descriptor.proofs.cleanup.Rotation.{Turning}
use Rattle.gpu_descriptor.proofs.bucket.trim.destroy_without_sets.Given as goal

-- so many pools were taken from the front
abbrev pub invariant-loop : goal.invariant-loop
invariant-loop g l =
    let ledger = g.D.DescriptorDevice.ledger in
    let name = g.D.DescriptorDevice.meaning.pool_name in
    record {
      within : l.counter ≤ length l.fn.pools.items;
      turned : (k : Key) × Turning name k l.fn.pools.items l.pools.items l.counter (ledger l.fn.device) (ledger l.device);
      room : l.room + pools_load (key_of l.fn.key) l.pools.items ≡ l.fn.room + pools_load (key_of l.fn.key) l.fn.pools.items;
      capacity : deque_capacity l.pools ≡ deque_capacity l.fn.pools;
    }
