use Rattle.gpu_descriptor.proofs.Common.{◌≡◌, ◌+◌, ◌<◌, length, Key, key_of, AreBookedIn, bucket_but_front, ledger_but_front, bucket_of, pools_load}
use Rattle.gpu_descriptor.proofs.bucket.DescriptorBucket.destroy_empty_front.Given as goal

-- what is left to drop is what there was to drop
abbrev pub invariant-loop-self : goal.invariant-loop-self
invariant-loop-self g l =
    let ledger = g.D.DescriptorDevice.ledger in
    let name = g.D.DescriptorDevice.meaning.pool_name in
    record {
      stored : (k : Key) × AreBookedIn k (ledger l.device).pools (bucket_of name l.self).pools;
      books : bucket_but_front l.fn.keep (bucket_of name l.self) ≡ bucket_but_front l.fn.keep (bucket_of name l.fn.self);
      ledger : ledger_but_front l.fn.keep (bucket_of name l.self) (ledger l.device) ≡ ledger_but_front l.fn.keep (bucket_of name l.fn.self) (ledger l.fn.device);
      flag : 0 < l.fn.keep → l.self.may_have_empty ≡ l.fn.self.may_have_empty;
      total : l.self.total ≡ l.fn.self.total;
      room : l.room + pools_load (key_of l.fn.key) l.self.pools.items ≡ l.fn.room + pools_load (key_of l.fn.key) l.fn.self.pools.items;
    }

abbrev pub decreases-loop-self : goal.decreases-loop-self
decreases-loop-self g l = length l.self.pools.items
