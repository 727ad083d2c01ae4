-- The table of keys, as the code has it: how its buckets and rows are read from it, and its totals.
use Rattle.std.specs.Prelude.{◌≡◌, ℕ, ◌+◌, ◌≤◌, if◌then◌else◌, List, map, sum_by}
use Rattle.gpu_descriptor.specs.declared.key.BucketKey.{BucketKey}
use Rattle.gpu_descriptor.specs.declared.bucket.DescriptorBucket.{DescriptorBucket}
use Rattle.gpu_descriptor.specs.Model.Books.{Key, BucketOf, Bucket, books_of, sum_over}
use Rattle.gpu_descriptor.specs.Model.Load.{bucket_load, descriptors_out, sets_out}
use Rattle.gpu_descriptor.specs.Caller.States.{named_bucket, named_row}
use Rattle.gpu_descriptor.specs.Inner.KeyOf.{key_of}

module _ {P : Type 0} where
  -- what callers see of a stored bucket: the key's id and its pools
  abbrev pub kept_in : DescriptorBucket P → BucketOf P
  kept_in b = record { id = b.id; pools = b.pools.items }

  -- the row of the table that an entry of the map stands for: the allocator's value is read from the map by it
  abbrev pub row_of : BucketKey × DescriptorBucket P → Key × BucketOf P
  row_of r = (key_of r.0, kept_in r.1)

  -- the keys of a table, in its order
  abbrev pub stored_keys : List (BucketKey × DescriptorBucket P) → List Key
  stored_keys es = map (λ r. key_of r.0) es

  -- what an entry adds to the number of keys that may have a pool without sets, and that number
  abbrev pub flag_of : BucketKey × DescriptorBucket P → ℕ
  flag_of r = if r.1.may_have_empty then 1 else 0

  abbrev pub count_flagged : List (BucketKey × DescriptorBucket P) → ℕ
  count_flagged es = sum_by flag_of es

  -- the running totals are those of the table, the marked descriptors keep the limit, and room is
  -- what those of the pools leave of it
  pub record IsConsistent (limit marked room out : ℕ) (table : List (BucketKey × DescriptorBucket P)) : Type 0 where
    pub is_load : marked ≡ sum_over descriptors_out (map row_of table)
    pub within : marked ≤ limit
    pub is_room : room + sum_over bucket_load (map row_of table) ≡ limit
    pub is_out : out ≡ sum_over sets_out (map row_of table)

  -- a stored bucket in the books, with the device's names for its pools
  abbrev pub bucket_of : (P → ℕ) → DescriptorBucket P → Bucket
  bucket_of name b = named_bucket name (kept_in b)

-- the books of a table, under the names of its pools
abbrev pub books_in : {P : Type 0} → (P → ℕ) → List (Key × BucketOf P) → Key → Bucket
books_in name table = books_of (map (named_row name) table)
