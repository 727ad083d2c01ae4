-- What a table leaves of a request for sets of one of its keys: the contract of `serve` and `serve_absent`.
use Rattle.gpu_descriptor.proofs.Common.{◌≡◌, ◌+◌, ◌<◌, ◌≤◌, greatest_u64, ◌^◌, ℕ, List, length, map, Result, Ok, Err, OnOk, sym, ap, arith, Meaning, Ledger, AllocationError, BucketKey, DescriptorBucket, DescriptorPool, DescriptorSet, Stop, entry_of, Key, next_number, number_after, sum_over, bucket_load, common_steps}
use Rattle.gpu_descriptor.proofs.Common.{items_of, bucket_of, books_in, row_of, numbers_of, stored_keys, with_key, CountsLooks, IsTaken, IsUnserved, ServesKey}
use Rattle.std.proofs.lemmas.Result.{on_ok_weaker}
use Rattle.gpu_descriptor.specs.declared.budget.Budget.{Budget}
use Rattle.gpu_descriptor.specs.Inner.Serves.{Appends, ServesRequest}
use Rattle.gpu_descriptor.specs.Caller.SetLists.{appended}
use Rattle.gpu_descriptor.proofs.table.Exact.{bucket}
use Rattle.gpu_descriptor.proofs.release.StoredNumbers.{numbers_stored}

-- the number of the next pool, as the books have it
pub next : {P : Type 0} (name : P → ℕ) (id : ℕ) (pools : List (DescriptorPool P)) → number_after (numbers_of pools) ≡ next_number (bucket id (map (entry_of name) pools))
next name id pools = sym (ap number_after (numbers_stored name pools))

module _ {L P S : Type 0} {means : Meaning L P S} {k : Key} {count left : ℕ} {layout : L} (es : List (BucketKey × DescriptorBucket P)) {fs : List (BucketKey × DescriptorBucket P)} {was : Budget} {had has : List (DescriptorSet S)} where
  -- an error changes nothing
  pub unserved : {r : Result (Result (Unit {0}) Stop) AllocationError} {e : AllocationError} {l : Ledger} → r ≡ Err e → IsUnserved count (next_number (books_in means.pool_name (map row_of es) k)) e → has ≡ had → fs ≡ es → ServesRequest means layout k count left r es fs was was had has l l
  unserved {l = l} is why sets entries = rw is (record {
    served = tt;
    appends = tt;
    keys = tt;
    refused = why;
    stays = (sets, entries, λ i. was, λ i. l);
    room = ap (λ (xs : List (BucketKey × DescriptorBucket P)). was.room + sum_over bucket_load (map row_of xs)) entries;
    bound = λ i. was.bound;
    looks = λ i. was.looks.count + l.counters.asked;
  })

  -- a bucket gave what it took, once room had been made for it
  module _
      {ended : Result (Unit {0}) Stop} {before after : Ledger} {roomy : List (DescriptorSet S)} (id : ℕ) (pools : List (DescriptorPool P)) (many : ℕ) (new : DescriptorBucket P) (made : roomy ≡ had) (fits : number_after (numbers_of pools) + count < 2 ^ 64)
      (appends : Appends means layout count left roomy has) (all : OnOk ended (left ≡ 0)) (total : new.total ≡ many + length (appended roomy has))
      (taken : IsTaken ended was.bound k was.room count (items_of means.set_name (appended roomy has)) (bucket id (map (entry_of means.pool_name) pools)) (bucket_of means.pool_name new) before after) where
    pub is_served : {is : Budget}
        → (next_number (bucket id (map (entry_of means.pool_name) pools)) + count ≤ greatest_u64 → OnOk ended (length (appended had has) ≡ count)
        → IsTaken ended was.bound k was.room count (items_of means.set_name (appended had has)) (bucket id (map (entry_of means.pool_name) pools)) (bucket_of means.pool_name new) before after → new.total ≡ many + length (appended had has)
        → ServesKey means was.bound k was.room count (appended had has) ended (map row_of es) (map row_of fs) before after)
        → stored_keys fs ≡ with_key k (stored_keys es) → is.room + sum_over bucket_load (map row_of fs) ≡ was.room + sum_over bucket_load (map row_of es) → is.bound ≡ was.bound → CountsLooks was.looks.count is.looks.count before after
        → ServesRequest means layout k count left (Ok ended) es fs was is had has before after
    is_served serves keys room bound looks = grind (arith, common_steps, on_ok_weaker, (next means.pool_name id pools))
