-- A request that took sets is as the definitions say: kept whole, or freed.
-- For `fill`, by request.HandedOut. Between old, before and new, after it took sets (Takes); if it stopped they went back, which left
-- last and final. `taken_` is of what it took, `kept_` of a request that was met, `back_` of one whose sets went back.
use Rattle.gpu_descriptor.proofs.Common.{common_steps, fun_ext, ◌≡◌, ℕ, ◌+◌, ◌-◌, ◌<◌, Some, is_some, true, List, [], ◌∷◌, length, arith, Result, Ok, Err, OnOk, refl, sym, ap, ◌∙◌, subst, length-map, side, Meaning, Ledger, no_rise, AllocationError, DescriptorSet, Stop, State, Item, Agree}
use Rattle.gpu_descriptor.proofs.Common.{AreOutstanding, Option, Pool, count_of, outstanding, key_eq, if◌then◌else◌, Key, Bucket, HasDistinctKeys, Allocations, KeepsForeign, GivesBack, Adds, Grant, items_in, granted, IsTaken, IsRefused, set_descriptors, Allocates}
use Rattle.gpu_descriptor.proofs.Common.{Call, Proceeds, taken_by, risen, rollback_rise, StopsAt, stop_error, stop_rise, IsUntouched, KeepsOtherKeys, AreOfKey, AreOutBesides, KeepsOutstanding, released, pools_gone, call_of, Takes, runs, items_of, state_of, table_of, outstanding_of}
use Rattle.gpu_descriptor.proofs.Common.{marked_load_of, pool_load_of, HasTaken}
use Rattle.gpu_descriptor.specs.Caller.Others.{others_of}
use Rattle.gpu_descriptor.specs.Model.Outcomes.Allocates.{done, stopped}
use Rattle.gpu_descriptor.specs.Caller.States.{keys_of}
use Rattle.gpu_descriptor.proofs.request.KeyAgrees.{own_items}
use Rattle.gpu_descriptor.proofs.request.Added.{added_agree, added_foreign, added_loses_none, added_others, added_outstanding}
use Rattle.gpu_descriptor.proofs.release.ReleaseAgrees.{takes}
use Rattle.gpu_descriptor.proofs.foreign.OthersStay.{others_stay}
use Rattle.gpu_descriptor.proofs.release.OtherKeys.{release_others, untouched_twice}
use Rattle.gpu_descriptor.proofs.request.Rollback.{give_back_rise, only_key, keys_table, unnamed_key, load_of_items}

-- the state with another bucket of a key, and another ledger
abbrev with_bucket : Key → Bucket → (ℕ → Option Pool) → State → State
with_bucket k b ledger s = record { books = λ l. if key_eq k l then b else s.books l; ledger = ledger }

-- what a request added, wherever it stopped: sets of the key; and a key that had pools kept its id
record Had (k : Key) (items : List Item) (old new : Bucket) (l m : ℕ → Option Pool) : Type 0 where
  keeps : Adds k items old new l m
  own : (u : Item) → 0 < count_of u items → (u.key ≡ k) × (u.id ≡ new.id)
  owns : 0 < length old.pools → new.id ≡ old.id

had_so : {k : Key} {n : ℕ} {g : Grant} {items : List Item} {old new : Bucket} {l m : Ledger} {p : ℕ → Option Pool} → HasTaken k n g items old new l m → p ≡ m.pools → Had k items old new l.pools p
had_so {k} {g = g} {new = new} t is =
    let id : new.id ≡ g.id = ap (λ (b : Bucket). b.id) t.bucket in
    record {
      keeps = rw is t.keeps;
      own = λ u some. (let is = own_items k g.id g.parts u (subst (λ (xs : List Item). 0 < count_of u xs) (sym t.came) some) in (is.0, is.1 ∙ sym id));
      owns = λ some. id ∙ t.grant.id some;
    }

had_taken : (ended : Result (Unit {0}) Stop) (bound : Option ℕ) (k : Key) (room n : ℕ) (items : List Item) (old new : Bucket) (l m : Ledger) → IsTaken ended bound k room n items old new l m → Had k items old new l.pools m.pools
had_taken (Ok x) bound k room n items old new l m t = had_so t.1 refl
had_taken (Err why) bound k room n items old new l m t = had_so t.2 t.4.pools

module _ {L P S : Type 0} {means : Meaning L P S} {k : Key} {count : ℕ} {sets : List (DescriptorSet S)} {ended : Result (Unit {0}) Stop} {old new : Allocations P} {before after : Ledger}
    (t : Takes means k count sets ended (side old before) (side new after)) (agree : Agree (state_of means.pool_name old before)) where
  abbrev s : State
  s = state_of means.pool_name old before

  abbrev items : List Item
  items = items_of means.set_name sets

  -- what the limit leaves
  abbrev room : ℕ
  room = old.limit - pool_load_of old

  -- the state after has another bucket of the key and another ledger: it is `granted` of what the request had
  state : state_of means.pool_name new after ≡ with_bucket k t.serves.bucket after.pools s
  state = λ i. record { books = fun_ext t.serves.books i; ledger = after.pools }

  had : Had k items (s.books k) t.serves.bucket s.ledger after.pools
  had = had_taken ended old.bound k room count items (s.books k) t.serves.bucket before after t.serves.taken

  -- books and ledger agree after it
  pub taken_agree : Agree (state_of means.pool_name new after)
  taken_agree = subst Agree (sym state) (added_agree s agree had.keeps had.own had.owns)

  -- exactly these sets are outstanding besides
  pub taken_out : AreOutBesides items s (state_of means.pool_name new after)
  taken_out u = ap (λ (w : State). outstanding w u) state ∙ added_outstanding s agree had.keeps had.own had.owns u

  -- so they may be freed
  pub taken_given : AreOutstanding items (state_of means.pool_name new after)
  taken_given u = (let e = taken_out u in omega arith)

  -- they are of the key; other keys are untouched; and the pools of others are the same
  pub taken_own : AreOfKey k items
  taken_own u some = (had.own u some).0

  pub taken_others : KeepsOtherKeys k s (state_of means.pool_name new after)
  taken_others = subst (KeepsOtherKeys k s) (sym state) (added_others s agree had.keeps had.own had.owns)

  pub taken_others_of : others_of means.pool_name new after ≡ others_of means.pool_name old before
  taken_others_of =
      let keeps = subst (KeepsForeign s) (sym state) (added_foreign s agree had.keeps had.own had.owns) in
      let lost = subst (λ t. KeepsForeign t s) (sym state) (added_loses_none s agree had.keeps had.own had.owns) in
      others_stay means.pool_name old new before after keeps lost

  -- it passed the tests before the walk
  pub proceeds : 0 < count → (last : Allocations P) (final : Ledger) (answer : Result (List Item) AllocationError) → Proceeds (call_of means k count (side old before) (side last final) answer)
  proceeds some last final answer = record {
    some = some;
    limit = t.within;
    numbers = t.serves.numbers;
    sets = t.fits;
  }

  -- ---- the sets went back

  module _ (still : HasDistinctKeys (table_of means.pool_name new)) (some : 0 < count) {last : Allocations P} {final : Ledger} (back : GivesBack means sets (runs items) (side new after) (side last final)) where
    -- which of the new allocator's pools go
    gone : pools_gone (keys_of new) items (state_of means.pool_name new after) ≡ pools_gone (k ∷ []) items (state_of means.pool_name new after)
    gone = ap (λ (keys : List Key). pools_gone keys items (state_of means.pool_name new after)) (keys_table means.pool_name new.table) ∙ only_key k items (state_of means.pool_name new after) (table_of means.pool_name new) still (λ l. refl) taken_own

    -- how the counters rose when the sets went back
    went : (m : List Item) (u : State) → m ≡ items → u ≡ state_of means.pool_name new after → final.counters ≡ risen (rollback_rise m k u) after.counters
    went m u is same = back.counters ∙ give_back_rise _ (runs items) after.counters ∙ (λ i. risen (record no_rise { released = runs (sym is i); destroyed = (gone ∙ (λ j. pools_gone (k ∷ []) (sym is j) (sym same j))) i }) after.counters)

    abbrev call : AllocationError → Call
    call error = call_of means k count (side old before) (side last final) (Err error)

    -- the outcome, and what it took
    abbrev Rolls : Stop → Type 0
    Rolls why = (o : Allocates (call (stop_error why))) × (g : Grant) × (taken_by o ≡ Some g) × (items_in k g.id g.parts ≡ items) × (granted k count g s ≡ state_of means.pool_name new after)

    module _ (why : Stop) (g : Grant) (between : Ledger) (taken : HasTaken k count g items (s.books k) t.serves.bucket before between) (refused : IsRefused why between after) where
      now : state_of means.pool_name new after ≡ granted k count g s
      now = state ∙ (λ i. with_bucket k (taken.bucket i) ((refused.pools ∙ taken.pools) i) s)

      -- it is the outcome `stopped`, for this reason, and so for whatever reason (`went_back`)
      rolls : StopsAt why old.bound k room count g (s.books k).pools → Rolls why
      rolls at = (
        stopped (proceeds some last final _) (record {
          why = why;
          grant = g;
          at = at;
          back = record {
            taken = taken.grant;
            answer = refl;
            state = back.state ∙ (λ i. released (sym taken.came i) (now i));
            counters = went (items_in k g.id g.parts) (granted k count g s) taken.came (sym now) ∙ ap (risen (rollback_rise (items_in k g.id g.parts) k (granted k count g s))) (refused.counters ∙ ap (risen (stop_rise why)) taken.counters);
          };
        }),
        g,
        refl,
        taken.came,
        sym now,
      )

    pub went_back : {why : Stop} → ended ≡ Err why → Rolls why
    went_back {why} is = grind (arith, common_steps, rolls)

  module _ {last : Allocations P} {final : Ledger} {calls : ℕ} (back : GivesBack means sets calls (side new after) (side last final)) where
    -- the sets that went back are no longer outstanding
    pub back_out : KeepsOutstanding s (state_of means.pool_name last final)
    back_out u = grind (arith, common_steps, taken_agree, taken_given, taken_out, takes)

    pub back_others : KeepsOtherKeys k s (state_of means.pool_name last final)
    back_others l other =
        let left = release_others items (state_of means.pool_name new after) taken_agree l (unnamed_key k items taken_own l other) in
        subst (IsUntouched l s) (sym back.state) (untouched_twice l s (state_of means.pool_name new after) (released items (state_of means.pool_name new after)) (taken_others l other) left)

    -- the totals are as before
    pub back_totals : (outstanding_of last ≡ outstanding_of old) × (marked_load_of last ≡ marked_load_of old)
    back_totals = grind (arith, common_steps, length-map, (load_of_items k items taken_own))

  -- ---- the sets are kept

  -- a request that didn't stop took all: as many sets as it was for, and the totals rose by them
  all_of : {x : Unit {0}} → ended ≡ Ok x → IsTaken (Ok x) old.bound k room count items (s.books k) t.serves.bucket before after
  all_of is = subst (λ (r : Result (Unit {0}) Stop). IsTaken r old.bound k room count items (s.books k) t.serves.bucket before after) is t.serves.taken

  pub kept_many : {x : Unit {0}} → ended ≡ Ok x → length sets ≡ count
  kept_many is = subst (λ (r : Result (Unit {0}) Stop). OnOk r (length sets ≡ count)) is t.serves.all

  pub kept_totals : {x : Unit {0}} → ended ≡ Ok x → (outstanding_of new ≡ outstanding_of old + count) × (marked_load_of new ≡ marked_load_of old + set_descriptors k count)
  kept_totals is = grind (arith, common_steps, kept_many)

  -- it is the outcome `done`
  pub kept : 0 < count → {x : Unit {0}} → ended ≡ Ok x → (o : Allocates (call_of means k count (side old before) (side new after) (Ok items))) × (is_some (taken_by o) ≡ true)
  kept some is =
      let all = all_of is in (
        done (proceeds some new after _) (record {
          grant = all.0;
          taken = all.1.grant;
          all = all.2;
          fresh = all.3;
          answer = ap Ok (sym all.1.came);
          state = state ∙ (λ i. with_bucket k (all.1.bucket i) (all.1.pools i) s);
          counters = all.1.counters;
        }),
        refl,
      )
