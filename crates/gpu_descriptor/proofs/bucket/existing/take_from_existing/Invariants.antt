-- What came stands behind what was there, and each pool that was asked was looked at once.
use Rattle.gpu_descriptor.proofs.Common.{◌≡◌, ◌+◌, length, map, sum_by, Appends, DescriptorPool, key_of, entry_of, CountsLooks, items_of, numbers_of, pools_load}
use Rattle.gpu_descriptor.specs.Caller.SetLists.{appended}
use Rattle.gpu_descriptor.proofs.request.OpenWalk.{OpenWalk}
use Rattle.gpu_descriptor.proofs.bucket.existing.take_from_existing.Given as goal

abbrev pub invariant-loop-sink : goal.invariant-loop-sink
invariant-loop-sink g l =
    let came = appended (g.K.SetPlaces.items l.fn.sink.sets) (g.K.SetPlaces.items l.sink.sets) in
    let old = l.fn.pools.bucket.now in
    let now = l.pools.bucket.now in
    record {
      appends : Appends g.D.DescriptorDevice.meaning l.fn.request.layout.now l.fn.request.count l.sink.left (g.K.SetPlaces.items l.fn.sink.sets) (g.K.SetPlaces.items l.sink.sets);
      id_stays : now.id ≡ old.id;
      flag_stays : now.may_have_empty ≡ old.may_have_empty;
      numbers_stay : numbers_of now.pools.items ≡ numbers_of old.pools.items;
      total : now.total ≡ old.total + length came;
      walk : OpenWalk g.D.DescriptorDevice.meaning.pool_name (key_of l.fn.request.key) l.fn.request.count l.sink.left (items_of g.D.DescriptorDevice.meaning.set_name came)
          (map (entry_of g.D.DescriptorDevice.meaning.pool_name) old.pools.items) now (g.D.DescriptorDevice.ledger l.fn.device) (g.D.DescriptorDevice.ledger l.device);
      load : pools_load (key_of l.fn.request.key) now.pools.items ≡ pools_load (key_of l.fn.request.key) old.pools.items;
      looks : CountsLooks l.fn.pools.looks.now.count l.pools.looks.now.count (g.D.DescriptorDevice.ledger l.fn.device) (g.D.DescriptorDevice.ledger l.device);
      same_bucket : l.pools.bucket.ghost_name ≡ l.fn.pools.bucket.ghost_name;
      same_looks : l.pools.looks.ghost_name ≡ l.fn.pools.looks.ghost_name;
    }

abbrev pub decreases-loop-sink : goal.decreases-loop-sink
decreases-loop-sink g l = sum_by (λ (p : DescriptorPool g.row.P.Denot). p.available) l.pools.bucket.now.pools.items
