use Rattle.gpu_descriptor.proofs.Common.{◌≡◌, length, take, IsConsistent}
use Rattle.gpu_descriptor.proofs.cleanup.RowsCleaned.{cleared, ledger_less}
use Rattle.gpu_descriptor.proofs.table.TableBooks.{rows_in}
use Rattle.gpu_descriptor.proofs.allocator.DescriptorAllocator.sweep.Given as goal

-- the first rows are cleared, and their empty fronts are gone
abbrev pub invariant-loop-place : goal.invariant-loop-place
invariant-loop-place g l =
    let name = g.D.DescriptorDevice.meaning.pool_name in
    let ledger = g.D.DescriptorDevice.ledger in
    let start = rows_in name l.initial.self-inside.table.buckets.entries in
    record {
      rows : rows_in name l.self-inside.table.buckets.entries ≡ cleared l.everywhere l.place start;
      ledger : ledger l.device ≡ ledger_less l.everywhere (take l.place start) (ledger l.fn.device);
      counted : IsConsistent l.self-inside.max_update_after_bind_descriptors_in_all_pools l.self-inside.update_after_bind_descriptors l.self-inside.budget.room l.self-inside.outstanding l.self-inside.table.buckets.entries;
      long : length l.self-inside.table.buckets.entries ≡ length l.initial.self-inside.table.buckets.entries;
      out : l.self-inside.outstanding ≡ l.initial.self-inside.outstanding;
      marked : l.self-inside.update_after_bind_descriptors ≡ l.initial.self-inside.update_after_bind_descriptors;
      limit : l.self-inside.max_update_after_bind_descriptors_in_all_pools ≡ l.initial.self-inside.max_update_after_bind_descriptors_in_all_pools;
      bound : l.self-inside.budget.bound ≡ l.initial.self-inside.budget.bound;
      first : l.self-inside.table.first_id ≡ l.initial.self-inside.table.first_id;
      end : l.self-inside.table.end_id ≡ l.initial.self-inside.table.end_id;
      looks : l.self-inside.budget.looks.count ≡ l.initial.self-inside.budget.looks.count;
      comparisons : l.self-inside.comparisons.count ≡ l.initial.self-inside.comparisons.count;
    }
