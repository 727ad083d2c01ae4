-- The keys of a table and their ids.
use Rattle.std.specs.Prelude.{ℕ, Bool, ◌&&◌, not, nat_lt, List, map}
use Rattle.gpu_descriptor.specs.declared.key.BucketKey.{BucketKey}
use Rattle.gpu_descriptor.specs.Model.Books.{Key, key_eq}
use Rattle.gpu_descriptor.specs.Inner.KeyOf.{key_of}
use Rattle.gpu_descriptor.specs.declared.bucket.DescriptorBucket.{DescriptorBucket}

-- whether a key of the code is this one
abbrev pub is_of : Key → BucketKey → Bool
is_of k l = key_eq k (key_of l)

-- whether it is one of these ids
abbrev pub is_id_of : ℕ × ℕ → ℕ → Bool
is_id_of ids id = not (nat_lt id ids.0) && nat_lt id ids.1

-- in the table's order
abbrev pub stored_ids : {P : Type 0} → List (BucketKey × DescriptorBucket P) → List ℕ
stored_ids es = map (λ r. r.1.id) es
