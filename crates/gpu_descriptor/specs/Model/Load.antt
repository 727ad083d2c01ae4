-- What is outstanding in all keys: sets, and descriptors of marked sets. What the pools of marked keys have.
use Rattle.std.specs.Option.{option_map_or}
use Rattle.gpu_descriptor_types.specs.Ledger.{Pool}
use Rattle.std.specs.Prelude.{ℕ, ◌*◌, max, if◌then◌else◌, List, Option, sum, sum_by}
use Rattle.gpu_descriptor.specs.declared.bucket.DescriptorPool.{DescriptorPool}
use Rattle.gpu_descriptor.specs.Model.Books.{Key, BucketOf, Bucket}

-- how many descriptors this many sets of a key have, if it is marked
abbrev pub set_descriptors : Key → ℕ → ℕ
set_descriptors k sets = if k.marked then sets * sum k.counts else 0

-- the descriptors of a pool of this many sets of a key, if it is marked. Without descriptors it has one
abbrev pub pool_descriptors : Key → ℕ → ℕ
pool_descriptors k sets = if k.marked then max 1 (sets * sum k.counts) else 0

module _ {X : Type 0} where
  -- how many sets are allocated from these pools
  abbrev pub allocated_in : List (DescriptorPool X) → ℕ
  allocated_in pools = sum_by (λ e. e.allocated) pools

  -- the descriptors of these pools of a key, if it is marked
  abbrev pub pools_load : Key → List (DescriptorPool X) → ℕ
  pools_load k pools = sum_by (λ e. pool_descriptors k e.capacity) pools

  -- what a key with its bucket adds to the three sums over all keys. To the outstanding sets: the number of sets that are allocated from its pools
  abbrev pub sets_out : Key → BucketOf X → ℕ
  sets_out k b = allocated_in b.pools

  -- to the marked load: the descriptors of these sets, if the key is marked
  abbrev pub descriptors_out : Key → BucketOf X → ℕ
  descriptors_out k b = set_descriptors k (allocated_in b.pools)

  -- to the pool load: the descriptors of all its pools, if it is marked
  abbrev pub bucket_load : Key → BucketOf X → ℕ
  bucket_load k b = pools_load k b.pools

-- the descriptors that the device created a marked key's pools with
abbrev pub descriptors_created : (ℕ → Option Pool) → Key → Bucket → ℕ
descriptors_created ledger k b = if k.marked then sum_by (λ e. option_map_or (λ p. sum p.counts) (ledger e.pool) 0) b.pools else 0
