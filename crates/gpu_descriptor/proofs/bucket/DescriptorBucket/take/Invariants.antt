-- So many sets are still needed, and the new pools gave what the others lacked.
use Rattle.gpu_descriptor.proofs.Common.{◌≡◌, ◌+◌, ◌≤◌, length, map, Appends, key_of, items_of, CountsLooks, pools_load, entry_of, number_after, numbers_of}
use Rattle.gpu_descriptor.specs.Caller.SetLists.{appended}
use Rattle.gpu_descriptor.proofs.request.Growing.{Growing}
use Rattle.gpu_descriptor.proofs.bucket.DescriptorBucket.take.Given as goal

abbrev pub invariant-loop-sink : goal.invariant-loop-sink
invariant-loop-sink g l = record {
  appends : Appends g.D.DescriptorDevice.meaning l.fn.request.layout.now l.fn.request.count l.sink.left (g.K.SetPlaces.items l.fn.sink.sets) (g.K.SetPlaces.items l.sink.sets);
  total : l.self.total ≡ l.fn.self.total + length (appended (g.K.SetPlaces.items l.fn.sink.sets) (g.K.SetPlaces.items l.sink.sets));
  id_stays : l.self.id ≡ l.fn.self.id;
  flag_stays : l.self.may_have_empty ≡ l.fn.self.may_have_empty;
  numbers : number_after (numbers_of l.self.pools.items) + l.sink.left ≤ number_after (numbers_of l.fn.self.pools.items) + l.fn.request.count;
  growing : Growing l.fn.budget.bound (key_of l.fn.request.key) l.fn.budget.room l.fn.request.count l.fn.self.id l.budget.room l.self.total l.sink.left
      (items_of g.D.DescriptorDevice.meaning.set_name (appended (g.K.SetPlaces.items l.fn.sink.sets) (g.K.SetPlaces.items l.sink.sets)))
      (map (entry_of g.D.DescriptorDevice.meaning.pool_name) l.fn.self.pools.items) (map (entry_of g.D.DescriptorDevice.meaning.pool_name) l.self.pools.items) (g.D.DescriptorDevice.ledger l.fn.device) (g.D.DescriptorDevice.ledger l.device);
  load : l.budget.room + pools_load (key_of l.fn.request.key) l.self.pools.items ≡ l.fn.budget.room + pools_load (key_of l.fn.request.key) l.fn.self.pools.items;
  bound : l.budget.bound ≡ l.fn.budget.bound;
  looks : CountsLooks l.fn.budget.looks.count l.budget.looks.count (g.D.DescriptorDevice.ledger l.fn.device) (g.D.DescriptorDevice.ledger l.device);
}

abbrev pub decreases-loop-sink : goal.decreases-loop-sink
decreases-loop-sink g l = l.sink.left
