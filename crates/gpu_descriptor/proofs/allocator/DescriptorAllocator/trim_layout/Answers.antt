use Rattle.gpu_descriptor.proofs.Common.{Agree, side, ℕ, if◌then◌else◌, ◌≡◌, length-map, map, slice_get_within, refl, sym, ap, subst, ◌∙◌, arith, IsDistinct, Key, key_eq, key_of, layout_key, left_of, true, Bucket, Allocations, AreBookedIn, KeepsOutstanding, outstanding_of, marked_load_of, is_of, row_of, state_of, common_steps}
use Rattle.indexmap.specs.Layout.{set_value_at}
use Rattle.gpu_descriptor.specs.Caller.CleansUp.{TrimsKey}
use Rattle.gpu_descriptor.proofs.cleanup.Cleaning.{emptied_key}
use Rattle.gpu_descriptor.proofs.cleanup.Emptied.{Empties, emptied_agree, emptied_outstanding}
use Rattle.gpu_descriptor.proofs.cleanup.OneKey.{destroyed_row, key_there, nothing_trimmed, own_books, trimmed_row}
use Rattle.gpu_descriptor.proofs.cleanup.RowsCleaned.{counted_put}
use Rattle.gpu_descriptor.proofs.callers.Unchanged.{keeps_still}
use Rattle.gpu_descriptor.proofs.foreign.OthersStay.{emptied_others}
use Rattle.gpu_descriptor.proofs.request.InTable.{missing}
use Rattle.gpu_descriptor.proofs.request.Requested.{books_at, load_within, pool_load_within, rows_apart, table_is}
use Rattle.gpu_descriptor.proofs.request.StateAgrees.{booked_of}
use Rattle.gpu_descriptor.proofs.sums.Flags.{byte_of, flag_counted, flags_put, none_flagged}
use Rattle.gpu_descriptor.proofs.sums.Loads.{rows_pool_load, stored_load_in, sum_put}
use Rattle.gpu_descriptor.proofs.table.Rising.{ids_put}
use Rattle.gpu_descriptor.proofs.table.RowAt.{IsAt, keys_at, value_at}
use Rattle.gpu_descriptor.proofs.table.TableBooks.{keys_are}
use Rattle.gpu_descriptor.proofs.allocator.DescriptorAllocator.trim_layout.Goals.{After-key-key, After-pair_mut-bucket}
use Rattle.gpu_descriptor.proofs.allocator.DescriptorAllocator.trim_layout.Goals as goal

-- the key is that of the layout
own : (g : _) (c : After-key-key g) → key_of c.key-key.result ≡ layout_key g.D.DescriptorDevice.meaning c.args.layout.now.layout
own g c = c.key-key.ensures ∙ (λ i. record { counts = c.requires.meant.counted i; marked = c.requires.meant.marked i })

-- and its row is lent
there : (g : _) (c : After-pair_mut-bucket g) → IsAt (key_of c.key-key.result) c.self.inside.table.buckets.entries c.in-Some.place c.pair_mut-bucket.result.1.now
there g c = key_there (key_of c.key-key.result) c.self.inside.table.buckets.entries c.in-Some.place c.pair_mut-bucket.result.0.now c.pair_mut-bucket.result.1.now c.pair_mut-bucket.ensures.value c.in-Some.ensures.place

pub pair_mut-bucket-requires : goal.pair_mut-bucket-requires
pair_mut-bucket-requires g c = grind (arith, common_steps, length-map, slice_get_within)

pub destroy_empty-requires-clause-room : goal.destroy_empty-requires-clause-room
destroy_empty-requires-clause-room g c =
    let es = c.self.inside.table.buckets.entries in
    let below = (sum_put stored_load_in es c.in-Some.place c.pair_mut-bucket.result.0.now c.pair_mut-bucket.result.1.now c.pair_mut-bucket.result.1.now c.pair_mut-bucket.ensures.value).0 in
    let rows = rows_pool_load es in
    let all = c.self.invariant.is_room in
    omega arith

pub destroy_empty-requires-clause-stored : goal.destroy_empty-requires-clause-stored
destroy_empty-requires-clause-stored g c =
    let name = g.D.DescriptorDevice.meaning.pool_name in
    let before = g.D.DescriptorDevice.ledger c.args.device.now in
    let k = key_of c.key-key.result in
    let d = (goal.at.destroy_empty-requires-clause-stored g c).After-pair_mut-bucket in
    let is = own_books k c.self.inside.table.buckets.entries c.self.inside.table.distinct (there g d) name c.args.self.now before (table_is _ c.self.view_is) in
    (k, subst (λ (b : Bucket). AreBookedIn k before.pools b.pools) is (booked_of (state_of name c.args.self.now before) k c.requires.agree.books))

pub invariant_of-self-inside : goal.invariant_of-self-inside
invariant_of-self-inside g c = record {
  rising = grind (arith, common_steps, ids_put, value_at);
  begun = c.self.inside.table.begun;
  ranged = grind (arith, common_steps, ids_put, value_at);
  distinct = grind (arith, common_steps, keys_at);
  flagged = (
      let put = flags_put c.self.inside.table.buckets.entries c.in-Some.place _ _ c.pair_mut-bucket.ensures.value c.self.inside.table.flagged c.destroy_empty.new.self in
      let was = c.from.ensures ∙ byte_of c.pair_mut-bucket.result.1.now.may_have_empty in
      let none = ap {B = ℕ} (λ is. if is then 1 else 0) (c.destroy_empty.ensures.cleared refl) in
      omega arith);
}

pub overflow_sub-self : goal.overflow_sub-self
overflow_sub-self g c = (let was = c.from.ensures ∙ byte_of c.pair_mut-bucket.result.1.now.may_have_empty in let is = flag_counted c.self.inside.table.buckets.entries c.in-Some.place _ _ c.pair_mut-bucket.ensures.value c.self.inside.table.flagged in omega arith)

pub invariant_of-self : goal.invariant_of-self
invariant_of-self g c = counted_put _ _ _ _ _ c.self.inside.table.buckets.entries c.in-Some.place _ _ c.destroy_empty.new.self c.pair_mut-bucket.ensures.value c.destroy_empty.ensures.total c.destroy_empty.ensures.room c.self.invariant

pub returns : goal.returns
returns g c =
    let d = (goal.at.returns g c).After-pair_mut-bucket in
    let means = g.D.DescriptorDevice.meaning in
    let name = means.pool_name in
    let old = c.args.self.now in
    let before = g.D.DescriptorDevice.ledger c.args.device.now in
    let after = g.D.DescriptorDevice.ledger c.destroy_empty.new.device in
    let es = c.self.inside.table.buckets.entries in
    let w = c.destroy_empty.new.self in
    let fs = set_value_at es c.in-Some.place w in
    let k = key_of c.key-key.result in
    let was = table_is _ c.self.view_is in
    let distinct = subst (IsDistinct key_eq) (sym (keys_at es c.in-Some.place w)) c.self.inside.table.distinct in
    let counted = counted_put _ _ _ _ _ es c.in-Some.place _ _ w c.pair_mut-bucket.ensures.value c.destroy_empty.ensures.total c.destroy_empty.ensures.room c.self.invariant in
    let now : Allocations _ =
    record {
      limit = c.self.inside.max_update_after_bind_descriptors_in_all_pools;
      bound = c.self.inside.budget.bound;
      ids = (c.self.inside.table.first_id, c.self.inside.table.end_id);
      table = map row_of fs;
      looks = c.self.inside.budget.looks.count;
      comparisons = c.self.inside.comparisons.count;
    } in
    let s = state_of name old before in
    let less = emptied_key k s in
    let state = trimmed_row k es c.self.inside.table.distinct (there g d) name old before was w after c.destroy_empty.ensures.books c.destroy_empty.ensures.ledger now refl in
    record {
      trims = subst (λ (key : Key). TrimsKey means key (side old before) (side now after)) (own g (goal.at.returns g c).After-key-key) (record {
        trimmed = state;
        destroyed = destroyed_row k es c.self.inside.table.distinct (there g d) name old before was w after c.destroy_empty.ensures.books c.destroy_empty.ensures.ledger;
        keys = keys_are now fs refl ∙ keys_at es c.in-Some.place w ∙ sym (keys_are old es was);
        outstanding_stay = subst (KeepsOutstanding s) (sym state) (emptied_outstanding less c.requires.agree.books);
        totals_stay = (
          sym counted.is_out ∙ c.self.invariant.is_out ∙ ap outstanding_of c.self.view_is,
          sym counted.is_load ∙ c.self.invariant.is_load ∙ ap marked_load_of c.self.view_is,
        );
        counts_stay = (ap (λ (a : Allocations _). a.looks) c.self.view_is, ap (λ (a : Allocations _). a.comparisons) c.self.view_is);
      });
      keeps = record {
        agree = record { rows = rows_apart {a = now} fs refl name distinct; books = subst Agree (sym state) (emptied_agree less c.requires.agree.books) };
        limit = ap (λ (a : Allocations _). a.limit) c.self.view_is;
        bound = ap (λ (a : Allocations _). a.bound) c.self.view_is;
        range = ap (λ (a : Allocations _). a.ids) c.self.view_is;
        load = load_within {a = now} fs refl counted;
        pool_load = pool_load_within {a = now} fs refl counted;
        others = emptied_others name old now before after (subst (Empties s) (sym state) less);
      };
    }

-- a key that the table lacks has no pools
pub returns-in_default : goal.returns-in_default
returns-in_default g c =
    let means = g.D.DescriptorDevice.meaning in
    let old = c.args.self.now in
    let before = g.D.DescriptorDevice.ledger c.args.device.now in
    let es = c.self.inside.table.buckets.entries in
    let k = key_of c.key-key.result in
    let none = books_at old es (table_is _ c.self.view_is) means.pool_name before k ∙ missing means.pool_name k es (is_of k) (λ l. refl) c.in_default.ensures.place in
    record {
      trims = subst (λ (key : Key). TrimsKey means key (side old before) (side old before)) (own g (goal.at.returns-in_default g c).After-key-key) (nothing_trimmed means k old before (subst (λ (b : Bucket). b.pools ≡ left_of true b.pools) (sym none) refl));
      keeps = keeps_still refl refl c.requires.agree (load_within _ c.self.view_is c.self.invariant) (pool_load_within _ c.self.view_is c.self.invariant);
    }

-- while no key may have an empty pool, none has one
pub returns-then-self-eq0-clause-trims : goal.returns-then-self-eq0-clause-trims
returns-then-self-eq0-clause-trims g c =
    let means = g.D.DescriptorDevice.meaning in
    let before = g.D.DescriptorDevice.ledger c.args.device.now in
    let es = c.self.inside.table.buckets.entries in
    let k = layout_key means c.args.layout.now.layout in
    let full = none_flagged means.pool_name es k (let counted = c.self.inside.table.flagged in let none = c.if-self-eq0.true in omega arith) in
    nothing_trimmed means k c.args.self.now before (subst (λ (b : Bucket). b.pools ≡ left_of true b.pools) (sym (books_at c.args.self.now es (table_is _ c.self.view_is) means.pool_name before k)) full)
