use Rattle.gpu_descriptor.proofs.Common.{ℕ, List, lookup, BucketKey, DescriptorBucket, map-append, greatest_u64, ◌≡◌, ◌+◌, ◌<◌, ◌≤◌, ◌++◌, ◌∷◌, [], Bool, None, inl, refl, sym, ap, ◌∙◌, subst, arith, rules, map, Bucket, key_eq, no_pools, next_number, key_of, is_of, rises, stored_ids, books_in, entry_of}
use Rattle.gpu_descriptor.proofs.Common.{pools_load, numbers_of, row_of, count_flagged, IsUnserved, DescriptorPool, number_after}
use Rattle.gpu_descriptor.proofs.Common.{false, list_all, nat_lt, true}
use Rattle.gpu_descriptor.specs.Inner.Ids.{is_id_of}
use Rattle.std.proofs.lemmas.List.Folds.{list_all-append}
use Rattle.gpu_descriptor.proofs.lists.Numbers.{next_push, rises_push}
use Rattle.gpu_descriptor.proofs.table.RowAt.{lookup_same}
use Rattle.indexmap.specs.IndexMap.{IndexMap, insert_entry}
use Rattle.indexmap.proofs.CallerLemmas.{insert_entry-new}
use Rattle.gpu_descriptor.proofs.cleanup.KeyOrder.{keys_put}
use Rattle.gpu_descriptor.proofs.sums.Flags.{flags_push}
use Rattle.gpu_descriptor.proofs.sums.Loads.{pools_end}
use Rattle.gpu_descriptor.proofs.request.Passed.{passed}
use Rattle.gpu_descriptor.proofs.request.InTable.{missing, serves_new}
use Rattle.gpu_descriptor.proofs.request.Serving.{is_served, unserved}
use Rattle.gpu_descriptor.specs.declared.errors.AllocationError.TheVariants.{OutOfHostMemory}
use Rattle.gpu_descriptor.proofs.table.TableBooks.{distinct_stored}
use Rattle.gpu_descriptor.proofs.key_table.KeyTable.serve_absent.Goals.{Start, In-Ok}
use Rattle.gpu_descriptor.proofs.key_table.KeyTable.serve_absent.Goals as goal

put_new :
    {X S : Type 0} (eq : BucketKey → BucketKey → Bool) → ((k l : BucketKey) → eq k l ≡ key_eq (key_of k) (key_of l))
    → (m : IndexMap BucketKey (DescriptorBucket X) S) (k : BucketKey) (v : DescriptorBucket X)
    (es new : List (BucketKey × DescriptorBucket X))
    → new ≡ insert_entry eq es k v → es ≡ m.entries → lookup (is_of (key_of k)) m.entries ≡ None
    → new ≡ m.entries ++ (k, v) ∷ []
put_new eq same m k v es new put kept none = put ∙ ap (λ l. insert_entry eq l k v) kept ∙ insert_entry-new eq m k v (lookup_same (eq k) (is_of (key_of k)) (same k) m.entries ∙ none)

-- a key that the table lacks has no pools
absent : (g : _) (c : Start g) → books_in g.D.DescriptorDevice.meaning.pool_name (map row_of c.args.self.now.buckets.entries) (key_of c.args.request.now.key) ≡ no_pools
absent g c = missing g.D.DescriptorDevice.meaning.pool_name (key_of c.args.request.now.key) c.args.self.now.buckets.entries _ (λ k. search rules) (c.requires.absent)

-- and its pools may have as many more numbers
no_numbers : (g : _) (c : Start g) → IsUnserved c.args.request.now.count (next_number (books_in g.D.DescriptorDevice.meaning.pool_name (map row_of c.args.self.now.buckets.entries) (key_of c.args.request.now.key))) OutOfHostMemory
no_numbers g c = inl (refl, subst (λ (b : Bucket). next_number b + c.args.request.now.count ≤ greatest_u64) (sym (absent g c)) (let n = c.requires.bound in omega arith))

pub returns-then-is_err : goal.returns-then-is_err
returns-then-is_err g c = record { serves = unserved c.args.self.now.buckets.entries refl (no_numbers g (goal.at.returns-then-is_err g c).Start) refl c.reserve.ensures.entries; range = (refl, refl) }

pub returns-then-self : goal.returns-then-self
returns-then-self g c = record { serves = unserved c.args.self.now.buckets.entries refl (no_numbers g (goal.at.returns-then-self g c).Start) refl c.reserve.ensures.entries; range = (refl, refl) }

pub returns-in_err-prepare : goal.returns-in_err-prepare
returns-in_err-prepare g c =
    let is = absent g (goal.at.returns-in_err-prepare g c).Start in
    let first = ap (λ (ps : List (DescriptorPool g.row.P.Denot)). number_after (numbers_of ps)) c.new.ensures.items ∙ sym (ap next_number is) in
    record {
      serves = unserved c.args.self.now.buckets.entries (passed c.from_residual.result c.in_err-prepare.field-0.0 c.from_residual.ensures.1)
          (subst (λ (n : ℕ). IsUnserved c.args.request.now.count n c.in_err-prepare.field-0.0) first c.in_err-prepare.ensures.refused) c.prepare.ensures.sets c.reserve.ensures.entries;
      range = (refl, refl);
    }

-- an id before the end is one of the range
ranged_push : (ids : List ℕ) (next first end : ℕ) → list_all (is_id_of (first, end)) ids ≡ true → nat_lt next first ≡ false → next < end → list_all (is_id_of (first, end)) (ids ++ next ∷ []) ≡ true
ranged_push ids next first end all begun below = grind (arith, list_all-append)

-- the new key goes last
put : (g : _) (c : In-Ok g) → c.insert.new.self.entries ≡ c.args.self.now.buckets.entries ++ (c.args.request.now.key, c.take-ended.new.self) ∷ []
put g c =
    put_new _ (λ k l. search rules) c.args.self.now.buckets c.args.request.now.key c.take-ended.new.self c.reserve.new.self.entries c.insert.new.self.entries c.in-Ok.ensures.entries c.reserve.ensures.entries
    c.requires.absent

pub returns : goal.returns
returns g c =
    let es = c.args.self.now.buckets.entries in
    let key = key_of c.args.request.now.key in
    let added = put g (goal.at.returns g c).In-Ok in
    let empty : pools_load key c.new.result.items ≡ 0 = ap (pools_load key) c.new.ensures.items in
    let moved = c.take-ended.ensures.room in
    record {
      serves = is_served es c.args.self.now.next_id c.new.result.items 0 c.take-ended.new.self c.prepare.ensures.sets c.in_ok-prepare.ensures.numbers c.take-ended.ensures.appends c.take-ended.ensures.all c.take-ended.ensures.total c.take-ended.ensures.taken
          (λ numbers all taken total. serves_new c.args.request.now.key c.take-ended.new.self numbers all taken total es (is_of key) (λ k. search rules) c.requires.absent added (λ i. record { id = c.args.self.now.next_id; pools = map (entry_of g.D.DescriptorDevice.meaning.pool_name) (c.new.ensures.items i) }) refl)
          (keys_put key c.args.request.now.key es c.insert.new.self.entries c.take-ended.new.self refl c.requires.absent added)
          (rw added (pools_end c.args.request.now.key es c.take-ended.new.self c.take-ended.new.budget.room c.args.budget.now.room (omega arith)))
          c.take-ended.ensures.bound c.take-ended.ensures.looks;
      range = (refl, refl);
    }

pub invariant_of-self-in-Ok : goal.invariant_of-self-in-Ok
invariant_of-self-in-Ok g c =
    let next = c.args.self.now.next_id in
    let es = c.args.self.now.buckets.entries in
    let ids : stored_ids c.insert.new.self.entries ≡ stored_ids es ++ next ∷ [] =
    ap stored_ids (put g (goal.at.invariant_of-self-in-Ok g c).In-Ok) ∙ map-append _ es _ ∙ ap (λ (n : ℕ). stored_ids es ++ n ∷ []) c.take-ended.ensures.id_stays in
    record {
      rising = ap (λ (l : List ℕ). rises (l ++ (next + 1) ∷ [])) ids ∙ rises_push (stored_ids es ++ next ∷ []) (next + 1) c.args.self.now.rising (let last = next_push (stored_ids es) next in omega arith);
      begun = grind arith;
      ranged = ap (list_all (is_id_of (c.args.self.now.first_id, c.args.self.now.end_id))) ids ∙ ranged_push (stored_ids es) next _ _ c.args.self.now.ranged c.args.self.now.begun (let left = c.if-self.false in omega arith);
      distinct = distinct_stored _ (λ k l. search rules) c.insert.new.self.entries c.insert.ensures.unique;
      flagged = c.args.self.now.flagged ∙ sym (ap count_flagged (put g (goal.at.invariant_of-self-in-Ok g c).In-Ok) ∙ flags_push es c.args.request.now.key c.take-ended.new.self c.take-ended.ensures.flag_stays);
    }
