use Rattle.gpu_descriptor.proofs.Common.{◌≡◌, ◌∷◌, [], rules, nat_lt, stored_ids}
use Rattle.gpu_descriptor.proofs.lists.Numbers.{rises_front}
use Rattle.std.proofs.lemmas.Fn.{always_returns_same}
use Rattle.gpu_descriptor.proofs.table.Rising.{parted, at_point}
use Rattle.gpu_descriptor.proofs.key_table.KeyTable.place_of_id.Goals as goal

pub returns : goal.returns
returns g c =
    let es = c.args.self.now.buckets.entries in
    let rising = rises_front (stored_ids es) (c.args.self.now.next_id ∷ []) c.args.self.now.rising in
    let id = c.args.id in
    let point = c.partition_point.ensures.partitioned (λ e. nat_lt e.1.id id) (always_returns_same _ (λ a r. r ≡ nat_lt a.1.0.now.id id) _ (λ a r f call. search rules)) (parted es rising id) in
    record { place = at_point es rising id c.partition_point.result point c.requires.there.0 c.requires.there.1 }
