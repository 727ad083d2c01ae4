-- All that is promised of a request, from what it took: kept, freed, declined, or for no sets.
-- For `fill`: each lemma makes a whole record of its contract, field by field.
use Rattle.gpu_descriptor.proofs.Common.{◌≡◌, ◌≤◌, is_some, ℕ, subst, ◌+◌, ◌<◌, List, Result, Ok, Err, sym, ap, ◌∙◌, arith, side, Meaning, Ledger, Counters, AllocationError, DescriptorSet, Stop, Agree, outstanding, HasDistinctKeys, Key, Allocations, run_digits, rules}
use Rattle.gpu_descriptor.proofs.Common.{granted, items_in, stop_error, call_of, Returns, with_key, items_of, Agrees, marked_load_of, outstanding_of, pool_load_of, state_of, table_of, Allocates, None, taken_by, Takes, none-some, true≢false}
use Rattle.gpu_descriptor.specs.Caller.HandsOut.{HandsOut}
use Rattle.gpu_descriptor.specs.Caller.Keeps.{Keeps}
use Rattle.gpu_descriptor.specs.Caller.States.{HasIds, keys_of}
use Rattle.gpu_descriptor.specs.Caller.Values.{IsIdOf}
use Rattle.gpu_descriptor.proofs.request.Outcomes.{taken_agree, taken_given, taken_out, taken_own, taken_others, taken_others_of, went_back, back_out, back_others, back_totals, kept, kept_many, kept_totals}
use Rattle.gpu_descriptor.proofs.request.Causes.{has_cause}
use Rattle.gpu_descriptor.proofs.request.Promises.{short}

module _ {L P S : Type 0} {means : Meaning L P S} {k : Key} {count : ℕ} {sets : List (DescriptorSet S)} {ended : Result (Unit {0}) Stop} {old new : Allocations P} {before after : Ledger}
    (t : Takes means k count sets ended (side old before) (side new after)) (agree : Agree (state_of means.pool_name old before)) where
  -- what every call keeps: once the sets came, and once they went back
  pub keeps_all : HasDistinctKeys (table_of means.pool_name new) → new.limit ≡ old.limit → new.bound ≡ old.bound → new.ids ≡ old.ids → marked_load_of new ≤ new.limit → pool_load_of new ≤ new.limit → Keeps means (side old before) (side new after)
  keeps_all rows limit bound range load pool_load = search (rules, taken_agree, taken_others_of)

module _ {L P S : Type 0} {means : Meaning L P S} {k : Key} {count : ℕ} (sets : List (DescriptorSet S)) {ended : Result (Unit {0}) Stop} {old new : Allocations P} {before after : Ledger}
    (t : Takes means k count sets ended (side old before) (side new after)) (agree : Agrees means.pool_name old before) (keys : keys_of new ≡ with_key k (keys_of old))
    (looks : new.looks + before.counters.asked ≡ old.looks + after.counters.asked) (comparisons : new.comparisons ≡ old.comparisons) (some : 0 < count) where
  -- the sets are kept
  pub hands_all : new.ids ≡ old.ids → HasIds means.pool_name new after → {x : Unit {0}} → ended ≡ Ok x → HandsOut means k count (Ok sets) (side old before) (side new after)
  hands_all range has is =
      let all = kept t agree.books some is in
      let outcome = all.0 in
      record {
        outcome = outcome;
        many = kept_many t agree.books is;
        given = taken_out t agree.books;
        of_key = taken_own t agree.books;
        ids = λ u some. subst (λ (ids : ℕ × ℕ). IsIdOf ids u.id) range (has.within u (let out = taken_given t agree.books u in omega arith));
        totals = kept_totals t agree.books is;
        totals_stay = tt;
        back = tt;
        cause = tt;
        creates = short _ outcome;
        other_keys = taken_others t agree.books;
        keys = rw all.1 keys;
        looks = looks;
        declined = λ none. absurd (true≢false (sym all.1 ∙ ap is_some none));
        searches = tt;
        comparisons_stay = comparisons;
        compared = omega arith;
      }

  -- the sets went back
  pub hands_back : {last : Allocations P} {final : Ledger} → HasDistinctKeys (table_of means.pool_name new) → Returns means sets (side new after) (side last final) → {why : Stop} → ended ≡ Err why → HandsOut means k count (Err (stop_error why)) (side old before) (side last final)
  hands_back still r is =
      let went = went_back t agree.books still some r.back is in
      let outcome = went.0 in
      let asked = ap (λ (c : Counters). c.asked) r.back.counters in
      let gone : run_digits (granted k count went.1 (state_of means.pool_name old before)) (items_in k went.1.id went.1.parts) ≡ run_digits (state_of means.pool_name new after) (items_of means.set_name sets) = λ i. run_digits (went.4 i) (went.3 i) in
      record {
        outcome = outcome;
        many = tt;
        given = tt;
        of_key = tt;
        ids = tt;
        totals = tt;
        totals_stay = back_totals t agree.books r.back;
        back = back_out t agree.books r.back;
        cause = has_cause means k count _ _ agree (Err _) outcome;
        creates = short _ outcome;
        other_keys = back_others t agree.books r.back;
        keys = rw went.2 (r.keys ∙ keys);
        looks = (let stay = r.looks_stay in omega arith);
        declined = λ none. absurd (none-some went.1 (sym none ∙ went.2));
        searches = rw went.2 (let few = r.comparisons in omega arith);
        comparisons_stay = tt;
        compared = (let more = r.compared in omega arith);
      }

-- the request was declined, and nothing changed
module _ {L P S : Type 0} {means : Meaning L P S} {k : Key} {count : ℕ} {old new : Allocations P} {before after : Ledger} (same : new ≡ old) (ledger : after ≡ before) where
  pub hands_none : Agrees means.pool_name old before → (error : AllocationError) → 0 < count → (outcome : Allocates (call_of means k count (side old before) (side new after) (Err error))) → taken_by outcome ≡ None → HandsOut means k count (Err error) (side old before) (side new after)
  hands_none agree error some outcome none = record {
    outcome = outcome;
    many = tt;
    given = tt;
    of_key = tt;
    ids = tt;
    totals = tt;
    totals_stay = (λ i. outstanding_of (same i), λ i. marked_load_of (same i));
    back = λ u i. outstanding (state_of means.pool_name (same i) (ledger i)) u;
    cause = has_cause means k count _ _ agree (Err _) outcome;
    creates = short _ outcome;
    other_keys = λ l other. record { books = λ i. (state_of means.pool_name (same i) (ledger i)).books l; pools = λ n e at i. (state_of means.pool_name (same i) (ledger i)).ledger e.pool };
    keys = rw none (ap keys_of same);
    looks = (let a = ap (λ (a : Allocations P). a.looks) same in let l = ap (λ (l : Ledger). l.counters.asked) ledger in omega arith);
    declined = λ is. (same, ledger);
    searches = rw none (ap (λ (a : Allocations P). a.comparisons) same);
    comparisons_stay = tt;
    compared = (let a = ap (λ (a : Allocations P). a.comparisons) same in omega arith);
  }
