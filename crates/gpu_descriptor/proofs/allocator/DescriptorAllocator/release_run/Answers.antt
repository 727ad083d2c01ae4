use Rattle.gpu_descriptor.proofs.Common.{list_all}
use Rattle.gpu_descriptor.specs.Inner.Ids.{is_id_of}
use Rattle.gpu_descriptor.proofs.Common.{common_steps, length-map, slice_get_within}
use Rattle.gpu_descriptor.proofs.Common.{Bool, flag_of, if◌then◌else◌, length, bucket_but_front, ◌≡◌, ◌+◌, ◌-◌, ℕ, arith, refl, sym, ap, ◌∙◌, List, [], ◌∷◌, subst, IsDistinct, Bucket, Key, key_eq, key_of, Allocations, DescriptorSet, items_of, state_of, binary_digits, rises, stored_ids, ◌++◌, pools_load, set_descriptors}
use Rattle.indexmap.specs.Layout.{set_value_at}
use Rattle.gpu_descriptor.proofs.callers.HeldSets.{out_back, out_less}
use Rattle.gpu_descriptor.proofs.release.LentRow.{row_open, row_stored, row_taken, row_ran, row_counted}
use Rattle.gpu_descriptor.proofs.sums.Flags.{few_entries, flag_counted, flags_below, flags_put, flags_room}
use Rattle.gpu_descriptor.proofs.sums.Loads.{Taken, taken, load_fits, counted_after, out_after, load_after, run_load, pools_present, pools_set}
use Rattle.gpu_descriptor.proofs.release.Owned.{Owns, ends_at, first_owns, lie_at, own_id, own_key}
use Rattle.gpu_descriptor.proofs.request.Requested.{table_is}
use Rattle.gpu_descriptor.proofs.lists.Numbers.{rises_front}
use Rattle.gpu_descriptor.proofs.table.Rising.{ids_put}
use Rattle.gpu_descriptor.proofs.table.RowAt.{IsAt, keys_at, value_at}
use Rattle.gpu_descriptor.proofs.table.TableBooks.{row_keys, keys_are}
use Rattle.gpu_descriptor.proofs.release.WholeRun.{lies_own}
use Rattle.gpu_descriptor.proofs.allocator.DescriptorAllocator.release_run.Goals.{After-pair_mut-bucket, After-destroy_empty_front}
use Rattle.gpu_descriptor.proofs.allocator.DescriptorAllocator.release_run.Goals as goal

pub place_of_id-place-requires : goal.place_of_id-place-requires
place_of_id-place-requires g c =
    let es = c.self.inside.table.buckets.entries in
    let own = first_owns g.D.DescriptorDevice.meaning.pool_name g.D.DescriptorDevice.meaning.set_name c.args.self.now (g.D.DescriptorDevice.ledger c.args.device.now) es (table_is _ c.self.view_is) c.self.inside.table.distinct c.args.first [] (c.requires.outstanding [] c.args.sets.now refl) in
    record { there = (own.place, own_id es (rises_front (stored_ids es) (c.self.inside.table.next_id ∷ []) c.self.inside.table.rising) own) }

-- the key at the place is that of the set
owner : (g : _) (c : After-pair_mut-bucket g) → Owns c.args.first.key.is c.args.first.id c.self.inside.table.buckets.entries
owner g c = first_owns g.D.DescriptorDevice.meaning.pool_name g.D.DescriptorDevice.meaning.set_name c.args.self.now (g.D.DescriptorDevice.ledger c.args.device.now) c.self.inside.table.buckets.entries (table_is _ c.self.view_is) c.self.inside.table.distinct c.args.first [] (c.requires.outstanding [] c.args.sets.now refl)

own : (g : _) (c : After-pair_mut-bucket g) → key_of c.pair_mut-bucket.result.0.now ≡ c.args.first.key.is
own g c =
    let es = c.self.inside.table.buckets.entries in
    own_key es (rises_front (stored_ids es) (c.self.inside.table.next_id ∷ []) c.self.inside.table.rising) (owner g c) c.place_of_id-place.result _ c.pair_mut-bucket.ensures.value c.place_of_id-place.ensures.place

-- the row that the place lends
there : (g : _) (c : After-pair_mut-bucket g) → IsAt c.args.first.key.is c.self.inside.table.buckets.entries c.place_of_id-place.result c.pair_mut-bucket.result.1.now
there g c = record { key = c.pair_mut-bucket.result.0.now; at = c.pair_mut-bucket.ensures.value; is = own g c }

pub release_sets-ahead-requires-clause-stored : goal.release_sets-ahead-requires-clause-stored
release_sets-ahead-requires-clause-stored g c =
    let at = goal.at.release_sets-ahead-requires-clause-stored g c in
    row_stored g.D.DescriptorDevice.meaning.pool_name g.D.DescriptorDevice.meaning.set_name c.args.self.now (g.D.DescriptorDevice.ledger c.args.device.now) c.self.inside.table.buckets.entries (table_is _ c.self.view_is) c.self.inside.table.distinct c.requires.agree c.args.first (there g at.After-pair_mut-bucket)

pub release_sets-ahead-requires-clause-taken : goal.release_sets-ahead-requires-clause-taken
release_sets-ahead-requires-clause-taken g c = λ xs t gave have.
    let at = goal.at.release_sets-ahead-requires-clause-taken g c in
    let es = c.self.inside.table.buckets.entries in
    let was = table_is _ c.self.view_is in
    let name = g.D.DescriptorDevice.meaning.pool_name in
    let set_name = g.D.DescriptorDevice.meaning.set_name in
    let before = g.D.DescriptorDevice.ledger c.args.device.now in
    let out = c.requires.outstanding xs t gave in
    let lie =
    lie_at name set_name c.args.self.now before es was c.self.inside.table.distinct (rises_front (stored_ids es) (c.self.inside.table.next_id ∷ []) c.self.inside.table.rising)
    c.args.first.key.is c.args.first.id c.args.first.number (owner g at.After-pair_mut-bucket) xs
    (out_back set_name (c.args.first ∷ []) xs (c.args.first ∷ xs) (state_of name c.args.self.now before) refl out)
    have in
    row_taken name set_name c.args.self.now before es was c.self.inside.table.distinct c.requires.agree c.args.first (there g at.After-pair_mut-bucket) xs lie out

pub destroy_empty_front-requires-clause-room : goal.destroy_empty_front-requires-clause-room
destroy_empty_front-requires-clause-room g c =
    let at = (goal.at.destroy_empty_front-requires-clause-room g c).After-pair_mut-bucket in
    let below = pools_present (there g at) in
    let same = ap (λ (k : Key). pools_load k c.pair_mut-bucket.result.1.now.pools.items) (own g at) in
    let load = c.release_sets-ahead.ensures.load (key_of c.pair_mut-bucket.result.0.now) in
    let all = c.self.invariant.is_room in
    omega arith

-- how many sets the key has out then
went : (g : _) (c : After-destroy_empty_front g) → c.destroy_empty_front.new.self.total + length (c.args.first ∷ c.release_sets-ahead.ensures.ran.0) ≡ c.pair_mut-bucket.result.1.now.total
went g c = (let left = c.destroy_empty_front.ensures.total in let less = c.release_sets-ahead.ensures.ran.3 in omega arith)

-- what the run takes from the totals
run_taken : (g : _) (c : After-destroy_empty_front g) → IsAt c.args.first.key.is c.self.inside.table.buckets.entries c.place_of_id-place.result c.pair_mut-bucket.result.1.now
    → Taken c.args.first.key.is (c.pair_mut-bucket.result.1.now.total - c.destroy_empty_front.new.self.total) c.self.inside.table.buckets.entries (set_value_at c.self.inside.table.buckets.entries c.place_of_id-place.result c.destroy_empty_front.new.self)
run_taken g c at = taken at c.destroy_empty_front.new.self (let total = went g c in omega arith)

-- so the number of keys that may have a pool without sets stays right
pub prove-unreachable-requires : goal.prove-unreachable-requires
prove-unreachable-requires g c = (let below = flags_below c.self.inside.table.buckets.entries c.self.inside.table.next_id c.self.inside.table.rising in let is = c.self.inside.table.flagged in let above = c.if-prove.true in omega arith)

pub pair_mut-bucket-requires : goal.pair_mut-bucket-requires
pair_mut-bucket-requires g c = grind (arith, common_steps, length-map, slice_get_within)

pub release_sets-ahead-requires-clause-fits : goal.release_sets-ahead-requires-clause-fits
release_sets-ahead-requires-clause-fits g c =
    let es = c.self.inside.table.buckets.entries in
    let few = flags_room es c.place_of_id-place.result _ c.pair_mut-bucket.result.1.now c.pair_mut-bucket.ensures.value c.self.inside.table.flagged in
    let ids = few_entries es c.self.inside.table.next_id c.self.inside.table.rising in
    omega arith

pub overflow_sub-self : goal.overflow_sub-self
overflow_sub-self g c =
    let at = goal.at.overflow_sub-self g c in
    let out = (run_taken g at.After-destroy_empty_front (there g at.After-pair_mut-bucket)).out in
    let is = c.self.invariant.is_out in
    omega arith

pub marked_descriptors_of_sets-descriptors-requires : goal.marked_descriptors_of_sets-descriptors-requires
marked_descriptors_of_sets-descriptors-requires g c =
    let at = goal.at.marked_descriptors_of_sets-descriptors-requires g c in
    let fits = load_fits (run_taken g at.After-destroy_empty_front (there g at.After-pair_mut-bucket)) c.self.invariant in
    let same = ap (λ (k : Key). set_descriptors k (c.pair_mut-bucket.result.1.now.total - c.destroy_empty_front.new.self.total)) (own g at.After-pair_mut-bucket) in
    omega arith

pub overflow_cast-descriptors : goal.overflow_cast-descriptors
overflow_cast-descriptors g c =
    let at = goal.at.overflow_cast-descriptors g c in
    let fits = load_fits (run_taken g at.After-destroy_empty_front (there g at.After-pair_mut-bucket)) c.self.invariant in
    let same = ap (λ (k : Key). set_descriptors k (c.pair_mut-bucket.result.1.now.total - c.destroy_empty_front.new.self.total)) (own g at.After-pair_mut-bucket) in
    omega arith

pub overflow_sub-self-2 : goal.overflow_sub-self-2
overflow_sub-self-2 g c =
    let at = goal.at.overflow_sub-self-2 g c in
    let fits = load_fits (run_taken g at.After-destroy_empty_front (there g at.After-pair_mut-bucket)) c.self.invariant in
    let same = ap (λ (k : Key). set_descriptors k (c.pair_mut-bucket.result.1.now.total - c.destroy_empty_front.new.self.total)) (own g at.After-pair_mut-bucket) in
    omega arith

pub invariant_of-self-inside-2 : goal.invariant_of-self-inside-2
invariant_of-self-inside-2 g c =
    let es = c.self.inside.table.buckets.entries in
    let same =
    ids_put es c.place_of_id-place.result c.pair_mut-bucket.result.1.now c.destroy_empty_front.new.self
    (value_at es c.place_of_id-place.result _ _ c.pair_mut-bucket.ensures.value)
    (ap (λ (b : Bucket). b.id)
    (c.destroy_empty_front.ensures.books ∙ ap (bucket_but_front 1) c.release_sets-ahead.ensures.ran.2.books)) in
    record {
      rising = ap (λ (ids : List ℕ). rises (ids ++ c.self.inside.table.next_id ∷ [])) same ∙ c.self.inside.table.rising;
      begun = c.self.inside.table.begun;
      ranged = ap (list_all (is_id_of (c.self.inside.table.first_id, c.self.inside.table.end_id))) same ∙ c.self.inside.table.ranged;
      distinct = subst (IsDistinct key_eq) (sym (keys_at es c.place_of_id-place.result c.destroy_empty_front.new.self)) c.self.inside.table.distinct;
      flagged = (
          let put = flags_put es c.place_of_id-place.result _ c.pair_mut-bucket.result.1.now c.pair_mut-bucket.ensures.value c.self.inside.table.flagged c.destroy_empty_front.new.self in
          let was = flag_counted es c.place_of_id-place.result _ c.pair_mut-bucket.result.1.now c.pair_mut-bucket.ensures.value c.self.inside.table.flagged in
          let same : flag_of (c.pair_mut-bucket.result.0.now, c.destroy_empty_front.new.self) ≡ (if c.release_sets-ahead.new.self.may_have_empty then 1 else 0) = ap (λ (is : Bool). if is then 1 else 0) (c.destroy_empty_front.ensures.flag (omega arith)) in
          let counts = c.release_sets-ahead.ensures.counts in
          omega arith);
    }

pub invariant_of-self : goal.invariant_of-self
invariant_of-self g c =
    let at = goal.at.invariant_of-self g c in
    let here = there g at.After-pair_mut-bucket in
    let same = own g at.After-pair_mut-bucket in
    let key = key_of c.pair_mut-bucket.result.0.now in
    let moved : c.destroy_empty_front.new.room + pools_load key c.destroy_empty_front.new.self.pools.items ≡ c.self.inside.budget.room + pools_load key c.pair_mut-bucket.result.1.now.pools.items =
    c.destroy_empty_front.ensures.room ∙ ap (λ n. c.self.inside.budget.room + n) (c.release_sets-ahead.ensures.load key) in
    counted_after (run_taken g at.After-destroy_empty_front here) c.self.invariant (c.marked_descriptors_of_sets-descriptors.ensures ∙ ap (λ (k : Key). set_descriptors k (c.pair_mut-bucket.result.1.now.total - c.destroy_empty_front.new.self.total)) same)
    (pools_set here c.destroy_empty_front.new.self _ _ (subst (λ (k : Key). c.destroy_empty_front.new.room + pools_load k c.destroy_empty_front.new.self.pools.items ≡ c.self.inside.budget.room + pools_load k c.pair_mut-bucket.result.1.now.pools.items) same moved))

pub returns-clause-ran : goal.returns-clause-ran
returns-clause-ran g c =
    let at = goal.at.returns-clause-ran g c in
    let ran = c.release_sets-ahead.ensures.ran in
    let row = there g at.After-pair_mut-bucket in
    let t = taken row c.destroy_empty_front.new.self (went g at.After-destroy_empty_front) in
    let front = c.destroy_empty_front.ensures in
    let es = c.self.inside.table.buckets.entries in
    let was = table_is _ c.self.view_is in
    let name = g.D.DescriptorDevice.meaning.pool_name in
    let set_name = g.D.DescriptorDevice.meaning.set_name in
    let before = g.D.DescriptorDevice.ledger c.args.device.now in
    let after = g.D.DescriptorDevice.ledger c.destroy_empty_front.new.device in
    let distinct = c.self.inside.table.distinct in
    let rise = rises_front (stored_ids es) (c.self.inside.table.next_id ∷ []) c.self.inside.table.rising in
    let came = ends_at name set_name c.args.self.now before es was distinct rise c.args.first.key.is c.args.first.id c.args.first.number (owner g at.After-pair_mut-bucket) g.I.Iterator.next_gives c.args.first _ _ ran.0 _ c.requires.outstanding ran.1 in
    let state =
    row_ran name set_name c.args.self.now before es was distinct c.requires.agree c.args.first row ran.0 came.0 c.destroy_empty_front.new.self after _ _ ran.2 front.books
    front.ledger c.self.inside.max_update_after_bind_descriptors_in_all_pools in (
      ran.0,
      came,
      record {
        state = state;
        counters = row_counted name set_name c.args.self.now before es was distinct c.requires.agree c.args.first row ran.0 came.0 c.destroy_empty_front.new.self after _ _ ran.2 front.books front.ledger;
        outstanding = out_after t c.args.self.now was;
        marked = load_after t c.args.self.now was _ (run_load set_name c.args.first.key.is c.args.first.number (c.args.first ∷ ran.0) (lies_own c.args.first, came.0));
        returned = out_less (items_of set_name (c.args.first ∷ ran.0)) (state_of name c.args.self.now before) _ c.requires.agree (c.requires.outstanding ran.0 ran.1.1.0 ran.1.1.1) state;
        none = λ bad. absurd (let some : ◌≡◌ {A = List (DescriptorSet g.row.S.Denot)} (c.args.first ∷ ran.0) [] = bad in cc);
      },
    )

pub returns-clause-keys : goal.returns-clause-keys
returns-clause-keys g c = grind (arith, common_steps, keys_are, keys_at, row_keys, table_is)

pub returns-clause-compares : goal.returns-clause-compares
returns-clause-compares g c =
    let at = goal.at.returns-clause-compares g c in
    let open_ones = row_open g.D.DescriptorDevice.meaning.pool_name g.D.DescriptorDevice.meaning.set_name c.args.self.now (g.D.DescriptorDevice.ledger c.args.device.now) c.self.inside.table.buckets.entries (table_is _ c.self.view_is) c.self.inside.table.distinct c.requires.agree c.args.first (there g at.After-pair_mut-bucket) in
    let same = ap binary_digits open_ones in
    let count = ap (λ (a : Allocations _). a.comparisons) c.self.view_is in
    let bound = c.release_sets-ahead.ensures.compares in
    record { rises = omega arith; few = omega arith }
