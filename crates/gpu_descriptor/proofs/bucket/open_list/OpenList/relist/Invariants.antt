-- The open ones of the pools up to a place are listed.
use Rattle.gpu_descriptor.proofs.Common.{◌≡◌, take, deque_capacity, free_in, open_ordinals}
use Rattle.gpu_descriptor.proofs.bucket.open_list.OpenList.relist.Given as goal

abbrev pub invariant-loop-place : goal.invariant-loop-place
invariant-loop-place g l = record {
  listed : l.self.ordinals.items ≡ open_ordinals l.first (free_in (take l.place l.pools.items));
  capacity : deque_capacity l.self.ordinals ≡ deque_capacity l.fn.self.ordinals;
}
