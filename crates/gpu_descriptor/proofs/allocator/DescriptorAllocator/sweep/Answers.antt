use Rattle.gpu_descriptor.proofs.Common.{◌≡◌, ◌≤◌, ◌+◌, suc, rules, refl, sym, ap, subst, ◌∙◌, arith, length, map, length-map, take_all, Ledger, Bucket, key_of, Allocations, AreBookedIn, has_pools, rises, stored_ids, outstanding_of, marked_load_of, bucket_of, named_row, row_of}
use Rattle.gpu_descriptor.proofs.Common.{◌++◌, ◌∷◌, [], IsDistinct, key_eq}
use Rattle.gpu_descriptor.proofs.Common.{list_all}
use Rattle.gpu_descriptor.specs.Inner.Ids.{is_id_of}
use Rattle.indexmap.proofs.CallerLemmas.{filter-RetainsPairs}
use Rattle.indexmap.specs.Layout.{length-set_value_at}
use Rattle.gpu_descriptor.proofs.table.Rising.{ids_put}
use Rattle.gpu_descriptor.proofs.lists.Numbers.{all_left, rises_filter}
use Rattle.gpu_descriptor.proofs.table.RowAt.{keys_at, value_at}
use Rattle.gpu_descriptor.proofs.cleanup.Cleaning.{clean_agrees, takes_none}
use Rattle.gpu_descriptor.proofs.sums.Flags.{flag_counted, flags_fit, flags_put, flags_filter}
use Rattle.gpu_descriptor.proofs.sums.Loads.{rows_pool_load, stored_load_in, sum_put}
use Rattle.gpu_descriptor.proofs.cleanup.KeyOrder.{keys_cleaned}
use Rattle.gpu_descriptor.proofs.cleanup.RowsCleaned.{all_cleared, agree_is, cleared, counted_filter, counted_put, ledger_less, next, next_stored, step_less, step_rows, whole_clean, whole_count}
use Rattle.gpu_descriptor.proofs.foreign.OthersStay.{cleaned_others, emptied}
use Rattle.gpu_descriptor.proofs.request.Requested.{rows_distinct, same_range}
use Rattle.gpu_descriptor.proofs.table.TableBooks.{rows_in, distinct_rows, distinct_stored}
use Rattle.gpu_descriptor.proofs.allocator.DescriptorAllocator.sweep.Goals as goal

pub destroy_empty-requires-clause-stored : goal.destroy_empty-requires-clause-stored
destroy_empty-requires-clause-stored g c =
    let name = g.D.DescriptorDevice.meaning.pool_name in
    let ledger = g.D.DescriptorDevice.ledger in
    let h = c.loop-place.invariant in
    let es = c.self.inside.table.buckets.entries in
    let k = c.pair_mut-bucket.result.0.now in
    let at = next c.args.everywhere name c.loop-place.place c.loop-place.self-inside.table.buckets.entries (rows_in name es) k c.pair_mut-bucket.result.1.now h.rows c.pair_mut-bucket.ensures.value in
    let agree = agree_is c.args.everywhere name c.args.self.now (ledger c.args.device.now) es (ap (λ (a : Allocations _). a.table) (sym c.self.view_is)) c.requires.agree.books in
    let there = next_stored c.args.everywhere (rows_in name es) (ledger c.args.device.now).pools c.loop-place.place (key_of k, bucket_of name c.pair_mut-bucket.result.1.now) (distinct_rows name es c.self.inside.table.distinct) agree at in
    (key_of k, subst (λ (l : Ledger). AreBookedIn (key_of k) l.pools (bucket_of name c.pair_mut-bucket.result.1.now).pools) (sym h.ledger) there)

pub destroy_empty-requires-clause-room : goal.destroy_empty-requires-clause-room
destroy_empty-requires-clause-room g c =
    let below = (sum_put stored_load_in c.loop-place.self-inside.table.buckets.entries c.loop-place.place c.pair_mut-bucket.result.0.now c.pair_mut-bucket.result.1.now c.pair_mut-bucket.result.1.now c.pair_mut-bucket.ensures.value).0 in
    let rows = rows_pool_load c.loop-place.self-inside.table.buckets.entries in
    omega arith

pub invariant_of-self-inside : goal.invariant_of-self-inside
invariant_of-self-inside g c =
    let es = c.loop-place.self-inside.table.buckets.entries in
    let i = c.loop-place.place in
    let at = c.pair_mut-bucket.ensures.value in
    record {
      rising = ap (λ ids. rises (ids ++ c.loop-place.self-inside.table.next_id ∷ [])) (ids_put es i c.pair_mut-bucket.result.1.now c.destroy_empty.new.self (value_at es i _ _ at) (ap (λ (b : Bucket). b.id) c.destroy_empty.ensures.books)) ∙ c.loop-place.self-inside.table.rising;
      begun = c.loop-place.self-inside.table.begun;
      ranged = ap (list_all (is_id_of (c.loop-place.self-inside.table.first_id, c.loop-place.self-inside.table.end_id))) (ids_put es i c.pair_mut-bucket.result.1.now c.destroy_empty.new.self (value_at es i _ _ at) (ap (λ (b : Bucket). b.id) c.destroy_empty.ensures.books)) ∙ c.loop-place.self-inside.table.ranged;
      distinct = subst (IsDistinct key_eq) (sym (keys_at es i c.destroy_empty.new.self)) c.loop-place.self-inside.table.distinct;
      flagged = c.count_anew.ensures ∙ flags_put es i _ _ at c.loop-place.self-inside.table.flagged c.destroy_empty.new.self;
    }

pub count_anew-requires : goal.count_anew-requires
count_anew-requires g c =
    let es = c.loop-place.self-inside.table.buckets.entries in
    let counted = c.loop-place.self-inside.table.flagged in
    let few = flags_fit es c.loop-place.place _ _ c.pair_mut-bucket.ensures.value counted c.destroy_empty.new.self in
    let long = c.loop-place.invariant.long in
    let small = c.len-place-end.ensures.small in
    let is = c.len-place-end.ensures.len in
    record { was = flag_counted es c.loop-place.place _ _ c.pair_mut-bucket.ensures.value counted; fits = omega arith }

pub loop-place-preserved : goal.loop-place-preserved
loop-place-preserved g c =
    let name = g.D.DescriptorDevice.meaning.pool_name in
    let ledger = g.D.DescriptorDevice.ledger in
    let h = c.loop-place.invariant in
    let es = c.self.inside.table.buckets.entries in
    let now = c.loop-place.self-inside.table.buckets.entries in
    let i = c.loop-place.place in
    let k = c.pair_mut-bucket.result.0.now in
    let v = c.pair_mut-bucket.result.1.now in
    let at = c.pair_mut-bucket.ensures.value in
    let more : suc i ≡ i + 1 = omega arith in
    record {
      rows = step_rows c.args.everywhere name i now (rows_in name es) k v c.destroy_empty.new.self h.rows at c.destroy_empty.ensures.books ∙ ap (λ m. cleared c.args.everywhere m (rows_in name es)) more;
      ledger = step_less c.args.everywhere i (rows_in name es) (key_of k, bucket_of name v) (ledger c.args.device.now) (ledger c.loop-place.device) (ledger c.destroy_empty.new.device) (next c.args.everywhere name i now (rows_in name es) k v h.rows at) h.ledger c.destroy_empty.ensures.ledger;
      counted = counted_put _ _ _ _ _ now i k v c.destroy_empty.new.self at c.destroy_empty.ensures.total c.destroy_empty.ensures.room h.counted;
      long = length-set_value_at now i c.destroy_empty.new.self ∙ h.long;
      out = h.out;
      marked = h.marked;
      limit = h.limit;
      bound = h.bound;
      first = h.first;
      end = h.end;
      looks = h.looks;
      comparisons = h.comparisons;
    }

pub invariant_of-self-inside-2 : goal.invariant_of-self-inside-2
invariant_of-self-inside-2 g c =
    let kept = filter-RetainsPairs _ (λ e. has_pools e.1) _ (λ k v b w f call. search rules) _ _ c.retain.ensures.filtered in
    let left = rises_filter (λ e. e.1.id) (λ e. has_pools e.1) (c.loop-place.self-inside.table.next_id ∷ []) c.loop-place.self-inside.table.buckets.entries c.loop-place.self-inside.table.rising in
    record {
      rising = ap (λ es. rises (stored_ids es ++ c.loop-place.self-inside.table.next_id ∷ [])) kept ∙ left;
      begun = c.loop-place.self-inside.table.begun;
      ranged = ap (λ es. list_all (is_id_of (c.loop-place.self-inside.table.first_id, c.loop-place.self-inside.table.end_id)) (stored_ids es)) kept ∙ all_left (λ e. e.1.id) (λ e. has_pools e.1) (is_id_of (c.loop-place.self-inside.table.first_id, c.loop-place.self-inside.table.end_id)) c.loop-place.self-inside.table.buckets.entries c.loop-place.self-inside.table.ranged;
      distinct = distinct_stored _ (λ k l. search rules) _ c.retain.ensures.unique;
      flagged = c.loop-place.self-inside.table.flagged ∙ sym (flags_filter c.loop-place.self-inside.table.buckets.entries c.retain.new.self.entries kept);
    }

pub invariant_of-self : goal.invariant_of-self
invariant_of-self g c =
    let kept = filter-RetainsPairs _ (λ e. has_pools e.1) _ (λ k v b w f call. search rules) _ _ c.retain.ensures.filtered in
    counted_filter _ _ _ _ _ _ kept c.loop-place.invariant.counted

pub returns : goal.returns
returns g c =
    let name = g.D.DescriptorDevice.meaning.pool_name in
    let ledger = g.D.DescriptorDevice.ledger in
    let h = c.loop-place.invariant in
    let es = c.self.inside.table.buckets.entries in
    let was = ap (λ (a : Allocations _). a.table) (sym c.self.view_is) in
    let distinct = distinct_rows name es c.self.inside.table.distinct in
    let kept = filter-RetainsPairs _ (λ e. has_pools e.1) _ (λ k v b w f call. search rules) _ _ c.retain.ensures.filtered in
    let le : length (rows_in name es) ≤ c.loop-place.place = (let rows : length (rows_in name es) ≡ length es = length-map (map row_of es) (named_row name) ∙ length-map es row_of in omega arith) in
    let rows = h.rows ∙ all_cleared c.args.everywhere c.loop-place.place (rows_in name es) le in
    let less = h.ledger ∙ ap (λ l. ledger_less c.args.everywhere l (ledger c.args.device.now)) (take_all c.loop-place.place (rows_in name es) le) in
    let counted = counted_filter _ _ _ _ _ _ kept h.counted in
    let now : Allocations _ =
    record {
      limit = c.loop-place.self-inside.max_update_after_bind_descriptors_in_all_pools;
      bound = c.loop-place.self-inside.budget.bound;
      ids = (c.loop-place.self-inside.table.first_id, c.loop-place.self-inside.table.end_id);
      table = map row_of c.retain.new.self.entries;
      looks = c.loop-place.self-inside.budget.looks.count;
      comparisons = c.loop-place.self-inside.comparisons.count;
    } in
    let clean = whole_clean c.args.everywhere name c.args.self.now (ledger c.args.device.now) (ledger c.loop-place.device) es c.loop-place.self-inside.table.buckets.entries _ c.loop-place.self-inside.max_update_after_bind_descriptors_in_all_pools was distinct rows less kept in
    record {
      sweeps = record {
        cleaned = clean;
        destroyed = whole_count c.args.everywhere name c.args.self.now (ledger c.args.device.now) (ledger c.loop-place.device) es was distinct less;
        keys = keys_cleaned c.args.everywhere name c.args.self.now now (ledger c.args.device.now) (ledger c.loop-place.device) es c.loop-place.self-inside.table.buckets.entries c.retain.new.self.entries was refl distinct rows kept clean;
        outstanding_stay = takes_none c.args.everywhere _ _ c.requires.agree.books clean;
        totals_stay = (
          sym counted.is_out ∙ h.out ∙ c.self.invariant.is_out ∙ ap outstanding_of c.self.view_is,
          sym counted.is_load ∙ h.marked ∙ c.self.invariant.is_load ∙ ap marked_load_of c.self.view_is,
        );
        emptied = emptied name c.args.everywhere c.args.self.now now (ledger c.args.device.now) (ledger c.loop-place.device) c.requires.agree.rows c.requires.agree.books clean;
        counts_stay = (h.looks ∙ ap (λ (a : Allocations _). a.looks) c.self.view_is, h.comparisons ∙ ap (λ (a : Allocations _). a.comparisons) c.self.view_is);
      };
      keeps = record {
        agree = record { rows = rows_distinct name c.retain.new.self.entries (distinct_stored _ (λ k l. search rules) _ c.retain.ensures.unique); books = clean_agrees c.args.everywhere _ _ c.requires.agree.books clean };
        limit = h.limit ∙ ap (λ (a : Allocations _). a.limit) c.self.view_is;
        bound = h.bound ∙ ap (λ (a : Allocations _). a.bound) c.self.view_is;
        range = same_range h.first h.end ∙ ap (λ (a : Allocations _). a.ids) c.self.view_is;
        load = (omega arith);
        pool_load = (omega arith);
        others = cleaned_others name c.args.everywhere c.args.self.now now (ledger c.args.device.now) (ledger c.loop-place.device) clean;
      };
    }
