-- The key of the code as the books have it.
use Rattle.gpu_descriptor_types.specs.Counts.{kinds}
use Rattle.gpu_descriptor.specs.declared.key.BucketKey.{BucketKey}
use Rattle.gpu_descriptor.specs.Model.Books.{Key}

-- the code's key: its counts as a list, and its mark
abbrev pub key_of : BucketKey → Key
key_of k = record { counts = kinds k.counts; marked = k.marked }
