use Rattle.gpu_descriptor.proofs.Common.{◌≡◌, size}
use Rattle.gpu_descriptor.proofs.release.Freed.{Freed, weight}
use Rattle.gpu_descriptor.proofs.allocator.DescriptorAllocator.free_from.Given as goal

abbrev pub invariant-loop-ahead : goal.invariant-loop-ahead
invariant-loop-ahead g l = record {
  freed : Freed g.D.DescriptorDevice.meaning g.I.Iterator.next_gives g.I.Iterator.can_next g.I.Iterator.remaining l.fn.sets l.fn.self (g.D.DescriptorDevice.ledger l.fn.device) l.self (g.D.DescriptorDevice.ledger l.device) l.ahead l.sets;
  limit : l.self.limit ≡ l.fn.self.limit;
  bound : l.self.bound ≡ l.fn.self.bound;
  range : l.self.ids ≡ l.fn.self.ids;
  looks : l.self.looks ≡ l.fn.self.looks;
}

abbrev pub decreases-loop-ahead : goal.decreases-loop-ahead
decreases-loop-ahead g l = weight l.ahead (size (g.I.Iterator.remaining l.sets))
