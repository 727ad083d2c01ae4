use Rattle.gpu_descriptor.proofs.Common.{◌≡◌, ℕ, ◌≤◌, true, sum, Option, Some, None, IfSome, refl, BucketKey, IsPoolSize, IsNextSize, key_of, kinds, sets_in_room}
use Rattle.gpu_descriptor.proofs.bucket.growth.size_in_room.Goals as goal

cut_size :
    (key : BucketKey) (room total wanted whole : ℕ) (cut : Option ℕ)
    → key.marked ≡ true
    → IsPoolSize (kinds key.counts) total wanted whole
    → IfSome cut (λ n. n ≡ sets_in_room room (sum (kinds key.counts)) whole)
    → IfSome cut (λ n. 1 ≤ n)
    → IfSome cut (λ n. IsNextSize None (key_of key) room total wanted n)
cut_size key room total wanted whole None marked is_whole is some = tt
cut_size key room total wanted whole (Some n) marked is_whole is some = record { whole = whole; is_whole = is_whole; cut = rw marked is; some = some }

pub returns-then-key-clause-sets : goal.returns-then-key-clause-sets
returns-then-key-clause-sets c = cut_size c.args.key.now c.args.room c.args.total c.args.wanted c.pool_sets_for_greatest-sets.result c.cut_pool_sets.result c.if-key.true (c.pool_sets_for_greatest-sets.ensures.sets (kinds c.args.key.now.counts) c.requires) c.cut_pool_sets.ensures.sets c.cut_pool_sets.ensures.some

pub returns-else-key-clause-sets : goal.returns-else-key-clause-sets
returns-else-key-clause-sets c = record { whole = c.pool_sets_for_greatest-sets.result; is_whole = c.pool_sets_for_greatest-sets.ensures.sets (kinds c.args.key.now.counts) c.requires; cut = rw c.if-key.false refl; some = c.pool_sets_for_greatest-sets.ensures.some }
