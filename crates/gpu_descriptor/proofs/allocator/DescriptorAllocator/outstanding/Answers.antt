use Rattle.gpu_descriptor.proofs.Common.{list_all, stored_ids, subst, true}
use Rattle.gpu_descriptor.specs.Inner.Ids.{is_id_of}
use Rattle.gpu_descriptor.proofs.Common.{◌≡◌, ℕ, ◌+◌, ◌<◌, ◌^◌, List, [], ◌∷◌, Some, sym, ap, ◌∙◌, arith, none-some, BucketKey, DescriptorBucket, Entry, Bucket, Key, books_of, entry_at, numbers_of, Allocations, state_of}
use Rattle.gpu_descriptor.proofs.lists.Numbers.{below_next}
use Rattle.gpu_descriptor.proofs.lists.Numbers.{rises_front}
use Rattle.gpu_descriptor.proofs.release.Owned.{has_ids}
use Rattle.gpu_descriptor.proofs.release.Places.{outstanding_found}
use Rattle.gpu_descriptor.proofs.release.StoredNumbers.{stored_at}
use Rattle.gpu_descriptor.proofs.request.Requested.{books_at}
use Rattle.gpu_descriptor.proofs.table.TableBooks.{rows_in}
use Rattle.gpu_descriptor.proofs.allocator.DescriptorAllocator.outstanding.Goals as goal

-- a number of the books is that of a stored pool
numbered : {P : Type 0} (name : P → ℕ) (k : Key) (es : List (BucketKey × DescriptorBucket P)) (n : ℕ) (f : Entry) → entry_at (books_of (rows_in name es) k) n ≡ Some f → n + 1 < 2 ^ 64
numbered name k [] n f at = absurd (none-some f at)
numbered name k (e ∷ es) n f at = grind (arith, stored_at name e.1.id n e.1.pools.items f, below_next (numbers_of e.1.pools.items) e.1.rising, e.1.numbered, numbered name k es n f)

pub returns-clause-numbers : goal.returns-clause-numbers
returns-clause-numbers g c = λ name l t out.
    let a = c.args.self.now in
    let es = c.self.inside.table.buckets.entries in
    let f = outstanding_found (state_of name a l) t 0 out in
    numbered name t.key es t.number f.0 (ap (λ (b : Bucket). entry_at b t.number) (sym (books_at a es (ap (λ (b : Allocations _). b.table) (sym c.self.view_is)) name l t.key)) ∙ f.1)

pub returns-clause-ids : goal.returns-clause-ids
returns-clause-ids g c = λ name l.
    let a = c.args.self.now in
    let table = c.self.inside.table in
    let es = table.buckets.entries in
    let ranged = subst (λ (ids : ℕ × ℕ). list_all (is_id_of ids) (stored_ids es) ≡ true) (ap (λ (b : Allocations _). b.ids) c.self.view_is) table.ranged in
    has_ids name (λ (s : g.row.S.Denot). 0) a l es (ap (λ (b : Allocations _). b.table) (sym c.self.view_is)) table.distinct (rises_front (stored_ids es) (table.next_id ∷ []) table.rising) ranged
