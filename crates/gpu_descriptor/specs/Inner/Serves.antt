-- What a request took of one key, before any of it is freed: in the bucket, in the table, and of an allocator.
use Rattle.gpu_descriptor_types.specs.Bounds.{greatest_u64}
use Rattle.std.specs.Prelude.{◌≡◌, ℕ, ◌+◌, ◌-◌, ◌*◌, ◌<◌, ◌≤◌, ◌⊎◌, ◌++◌, true, if◌then◌else◌, List, length, map, sum, Option, Result, IfErr, IfOk, OnErr, OnOk}
use Rattle.gpu_descriptor_types.specs.Ledger.{Ledger}
use Rattle.gpu_descriptor_types.specs.Meaning.{Meaning}
use Rattle.gpu_descriptor_types.specs.Side.{Side}
use Rattle.gpu_descriptor.specs.Model.Load.{bucket_load, descriptors_out, set_descriptors, sets_out}
use Rattle.gpu_descriptor.specs.declared.bucket.DescriptorBucket.{DescriptorBucket}
use Rattle.gpu_descriptor.specs.declared.budget.Budget.{Budget}
use Rattle.gpu_descriptor.specs.declared.errors.AllocationError.{AllocationError}
use Rattle.gpu_descriptor.specs.declared.errors.AllocationError.TheVariants.{OutOfHostMemory, Fragmentation}
use Rattle.gpu_descriptor.specs.declared.key.BucketKey.{BucketKey}
use Rattle.gpu_descriptor.specs.declared.set.DescriptorSet.{DescriptorSet}
use Rattle.gpu_descriptor.specs.declared.bucket.stop.Stop.{Stop}
use Rattle.gpu_descriptor.specs.Model.Books.{Key, key_eq, Bucket, BucketOf, next_number, sum_over}
use Rattle.gpu_descriptor.specs.Caller.Keys.{with_key}
use Rattle.gpu_descriptor.specs.Caller.SetLists.{appended}
use Rattle.gpu_descriptor.specs.Caller.Sets.{AreOfLayout, items_of}
use Rattle.gpu_descriptor.specs.Caller.States.{outstanding_of, marked_load_of, pool_load_of}
use Rattle.gpu_descriptor.specs.Caller.Values.{Allocations}
use Rattle.gpu_descriptor.specs.Inner.Walk.{CountsLooks}
use Rattle.gpu_descriptor.specs.Inner.Stored.{books_in, row_of, stored_keys}
use Rattle.gpu_descriptor.specs.Inner.Grow.{IsTaken}

module _ {L P S : Type 0} (means : Meaning L P S) where
  -- sets of a layout were appended to a list, and `left` of them are still needed
  pub record Appends (layout : L) (count left : ℕ) (old new : List (DescriptorSet S)) : Type 0 where
    -- what was in the list stays, in front
    pub front : new ≡ old ++ appended old new
    -- those that were appended were made with the layout
    pub own : AreOfLayout means layout (appended old new)
    pub rest : length (appended old new) + left ≡ count

  module _ (bound : Option ℕ) (k : Key) (room count : ℕ) (sets : List (DescriptorSet S)) (ended : Result (Unit {0}) Stop) where
    -- a request took these sets of a key, in the table
    pub record ServesKey (old new : List (Key × BucketOf P)) (before after : Ledger) : Type 0 where
      -- with the numbers of count new pools, 64 bits are kept
      pub numbers : next_number (books_in means.pool_name old k) + count ≤ greatest_u64
      pub all : OnOk ended (length sets ≡ count)
      -- what the key's bucket gave, and what it is then
      pub bucket : Bucket
      pub taken : IsTaken ended bound k room count (items_of means.set_name sets) (books_in means.pool_name old k) bucket before after
      -- the key has another bucket, and all other keys have the same
      pub books : (l : Key) → books_in means.pool_name new l ≡ (if key_eq k l then bucket else books_in means.pool_name old l)
      -- the number of outstanding sets rises by the sets taken, and the marked load by their descriptors
      pub out : sum_over sets_out new ≡ sum_over sets_out old + length sets
      pub load : sum_over descriptors_out new ≡ sum_over descriptors_out old + set_descriptors k (length sets)

  -- a request within the limit and 64 bits took these sets of an allocator
  pub record Takes (k : Key) (count : ℕ) (sets : List (DescriptorSet S)) (ended : Result (Unit {0}) Stop) (old new : Side (Allocations P)) : Type 0 where
    -- if the key is marked, the marked load with all sets of the request is within the limit
    pub within : k.marked ≡ true → count * sum k.counts + marked_load_of old.value ≤ old.value.limit
    pub fits : outstanding_of old.value + count ≤ greatest_u64
    -- what the table gave, with the room that the limit left
    pub serves : ServesKey old.value.bound k (old.value.limit - pool_load_of old.value) count sets ended old.value.table new.value.table old.ledger new.ledger

-- nothing was taken: an allocation failed, or the numbers of the key's pools would exceed 64 bits
abbrev pub IsUnserved : (count next : ℕ) → AllocationError → Type 0
IsUnserved count next e = ((e ≡ OutOfHostMemory) × (next + count ≤ greatest_u64)) ⊎ ((e ≡ Fragmentation) × (greatest_u64 < next + count))

module _ {L P S : Type 0} (means : Meaning L P S) where
  -- a table was asked for sets of a key
  pub record ServesRequest
      (layout : L) (k : Key) (count left : ℕ) (result : Result (Result (Unit {0}) Stop) AllocationError) (old new : List (BucketKey × DescriptorBucket P))
      (was is : Budget) (had has : List (DescriptorSet S)) (before after : Ledger) : Type 0 where
    -- it gave sets of the key's bucket; the inner result says whether the request stopped
    pub served : IfOk result (λ ended. ServesKey means was.bound k was.room count (appended had has) ended (map row_of old) (map row_of new) before after)
    pub appends : OnOk result (Appends means layout count left had has)
    -- the key is in the table then, last if it is new
    pub keys : OnOk result (stored_keys new ≡ with_key k (stored_keys old))
    -- or nothing was taken
    pub refused : IfErr result (IsUnserved count (next_number (books_in means.pool_name (map row_of old) k)))
    -- an error changes nothing
    pub stays : OnErr result ((has ≡ had) × (new ≡ old) × (is ≡ was) × (after ≡ before))
    -- new pools of a marked key use up room for their descriptors
    pub room : is.room + sum_over bucket_load (map row_of new) ≡ was.room + sum_over bucket_load (map row_of old)
    -- the bound stays, and each call that asks a pool is a look
    pub bound : is.bound ≡ was.bound
    pub looks : CountsLooks was.looks.count is.looks.count before after
