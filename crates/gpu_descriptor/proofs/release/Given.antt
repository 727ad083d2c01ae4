-- What giving sets back leaves before any front goes (`given_back`); and that then only empty pools go.
-- For the laws of `released` in release.ReleaseAgrees and release.Parts. The items m go back to the state s.
use Rattle.gpu_descriptor.proofs.Common.{◌≡◌, ℕ, ◌+◌, ◌<◌, ◌≤◌, Bool, true, false, ◌&&◌, ◌==◌, List, drop, take, slice_get, slice_get-map, Some, None, option_map, inl, inr, refl, sym, ap, ◌∙◌, subst, arith, ne_eqb, if◌then◌else◌, list_any, prefix_len, cases_Bool, cases_eq, and_from, and_parts}
use Rattle.gpu_descriptor.proofs.Common.{false_from_ne_true, any_found, any_from, set_of, State, Item, count_of, live_in, outstanding, AreOutstanding, IsAsBooked, Agree, Key, key_eq, Entry, Bucket, entry_at, rises, Pool, common_steps, lies_in, entry_less, pool_less, given_back, fronts_gone, are_named, is_empty, spent_front, released}
use Rattle.gpu_descriptor.proofs.Common.{same_Some, true≢false}
use Rattle.gpu_descriptor.proofs.cleanup.Emptied.{Empties, still_there}
use Rattle.gpu_descriptor.proofs.cleanup.Splitting.{split_cut}
use Rattle.gpu_descriptor.proofs.lists.AtPlaces.{cases_option, if_none}
use Rattle.gpu_descriptor.proofs.lists.Numbers.{entry_at-from}
use Rattle.gpu_descriptor.proofs.release.Places.{back, back_named, back_named-is, entry_at-less, numbers_less, outstanding_at, outstanding_found, part_fits, size_less, size_pos, some_before}
use Rattle.gpu_descriptor.proofs.request.StateAgrees.{booked_at}
use Rattle.gpu_descriptor.proofs.table.Exact.{item_exact, key_exact}

-- ---- the keys of a list

-- whether a set of the list is of the key
abbrev pub names_key : List Item → Key → Bool
names_key m k = list_any (λ t. key_eq t.key k) m

-- a fact of some key that the list names
pub any_key : (test : Key → Bool) (m : List Item) → list_any (λ t. test t.key) m ≡ true → (k : Key) × ((names_key m k && test k) ≡ true)
any_key test m h =
    let found = any_found item_exact (λ t. test t.key) m h in
    let t = found.0 in
    (t.key, and_from (names_key m t.key) (test t.key) (any_from item_exact (λ u. key_eq u.key t.key) m t found.1 (key_exact.self t.key)) found.2)

pub key_any : (test : Key → Bool) (m : List Item) (k : Key) → (names_key m k && test k) ≡ true → list_any (λ t. test t.key) m ≡ true
key_any test m k h =
    let both = and_parts (names_key m k) (test k) h in
    let found = any_found item_exact (λ t. key_eq t.key k) m both.0 in
    let t = found.0 in
    any_from item_exact (λ u. test u.key) m t found.1 (ap test (key_exact.same t.key k found.2) ∙ both.1)

-- ---- the fronts

-- whether a pool is in the front that goes
abbrev pub goes : Bucket → ℕ → Bool
goes b pool = are_named (take (spent_front b) b.pools) pool

-- where fronts go empty pools go
pub emptied_front : (m : List Item) (s : State) → Empties s (fronts_gone m s)
emptied_front m s = record {
  left = λ k. drop (front k) (s.books k).pools;
  gone = λ k. take (front k) (s.books k).pools;
  split = λ k. split_cut (front k) (s.books k).pools (few k);
  pools = λ k. elim (cases_Bool (names_key m k)) [ inl on ↦ rw on refl | inr off ↦ rw off refl ];
  id = λ k i e at. elim (cases_Bool (names_key m k)) [ inl on ↦ rw on refl | inr off ↦ rw off refl ];
  lost = λ k pool named. elim (cases_Bool (names_key m k)) [
    | inl on ↦ (let any : list_any (λ t. goes (s.books t.key) pool) m ≡ true = key_any (λ l. goes (s.books l) pool) m k (and_from _ _ on (rw on at named)) in rw any refl)
    | inr off ↦ absurd (true≢false (sym (rw off at named)))
  ];
  kept = λ pool none.
      let stays : list_any (λ t. goes (s.books t.key) pool) m ≡ false = false_from_ne_true _ (λ any.
      let at = any_key (λ l. goes (s.books l) pool) m any in
      let both = and_parts (names_key m at.0) (goes (s.books at.0) pool) at.1 in
      true≢false (sym both.1 ∙ (rw both.0 at (none at.0)))) in
      rw stays refl;
}
  where
    front : Key → ℕ
    front k = if names_key m k then spent_front (s.books k) else 0

    few : (k : Key) → front k ≤ prefix_len is_empty (s.books k).pools
    few k = elim (cases_Bool (names_key m k)) [ inl on ↦ rw on (omega arith) | inr off ↦ rw off (omega arith) ]

-- ---- before they go

-- what stands at a place stood there before, with more sets
pub given_was : (m : List Item) (s : State) (k : Key) (i : ℕ) (e : Entry) → slice_get ((given_back m s).books k).pools i ≡ Some e → (d : Entry) × (slice_get (s.books k).pools i ≡ Some d) × (entry_less (back m s d.pool) d ≡ e)
given_was m s k i e at = some_before (λ (d : Entry). entry_less (back m s d.pool) d) (slice_get (s.books k).pools i) e (sym (slice_get-map (λ (d : Entry). entry_less (back m s d.pool) d) (s.books k).pools i) ∙ at)

-- a pool and its books still match once its sets went back
less_booked : (m : List Item) (s : State) → Agree s → AreOutstanding m s → (k : Key) (i : ℕ) (d : Entry) (pool : Pool) → slice_get (s.books k).pools i ≡ Some d → s.ledger d.pool ≡ Some pool → IsAsBooked k pool d → IsAsBooked k (pool_less (back_named m s d.pool) pool) (entry_less (back m s d.pool) d)
less_booked m s agree out k i d pool at live is =
    let left = size_less pool.live d.allocated (lies_in s.books d.pool) m is.allocated (part_fits m s agree out k d.number d pool (entry_at-from (s.books k) i d (agree.rising k) at) live) in
    grind (arith, common_steps, back)

pub given_agree : (m : List Item) (s : State) → Agree s → AreOutstanding m s → Agree (given_back m s)
given_agree m s agree out = record {
  distinct = λ k l i j d e at at' same.
      let was = given_was m s k i d at in
      let was' = given_was m s l j e at' in
      agree.distinct k l i j was.0 was'.0 was.1 was'.1 (ap (λ (x : Entry). x.pool) was.2 ∙ same ∙ sym (ap (λ (x : Entry). x.pool) was'.2));
  booked = λ k i e at.
      let was = given_was m s k i e at in
      let d = was.0 in
      let booked = agree.booked k i d was.1 in
      let P : Entry → Type 0 = λ x. (p : Pool) × ((given_back m s).ledger x.pool ≡ Some p) × IsAsBooked k p x in
      subst P was.2 (pool_less (back_named m s d.pool) booked.0, ap (option_map (pool_less (back_named m s d.pool))) booked.1, less_booked m s agree out k i d booked.0 was.1 booked.1 booked.2);
  rising = λ k. ap rises (numbers_less (back m s) (s.books k)) ∙ agree.rising k;
}

given_at : (m : List Item) (s : State) (k : Key) (n : ℕ) (e : Entry) → entry_at (s.books k) n ≡ Some e → entry_at ((given_back m s).books k) n ≡ Some (entry_less (back m s e.pool) e)
given_at m s k n e at = entry_at-less (back m s) (s.books k) n ∙ ap (option_map (λ (d : Entry). entry_less (back m s d.pool) d)) at

-- a set is outstanding as often less as it went back
pub given_out : (m : List Item) (s : State) → Agree s → AreOutstanding m s → (t : Item) → outstanding (given_back m s) t + count_of t m ≡ outstanding s t
given_out m s agree out t = elim (cases_option (entry_at (s.books t.key) t.number)) [
  | inl none ↦ (
      let gone : entry_at ((given_back m s).books t.key) t.number ≡ None = entry_at-less (back m s) (s.books t.key) t.number ∙ ap (option_map (λ (d : Entry). entry_less (back m s d.pool) d)) none in
      let before : outstanding s t ≡ 0 = rw none (if_none ((s.books t.key).id == t.id)) in
      let after : outstanding (given_back m s) t ≡ 0 = rw gone (if_none ((s.books t.key).id == t.id)) in
      let fits = out t in
      omega arith)
  | inr d ↦ (
      let e = d.0 in
      let booked = booked_at s agree t.key t.number e d.1 in
      elim (cases_eq (s.books t.key).id t.id) [
        | inl own ↦ (
            let before = outstanding_at s t e booked.0 own d.1 booked.1 in
            let after = outstanding_at (given_back m s) t (entry_less (back m s e.pool) e) (pool_less (back_named m s e.pool) booked.0) own (given_at m s t.key t.number e d.1) (ap (option_map (pool_less (back_named m s e.pool))) booked.1) in
            let named : back_named m s e.pool (set_of t) ≡ count_of t m = back_named-is m s agree out t.key t.number e d.1 t.name ∙ ap (λ (i : ℕ). let u : Item = record t { id = i } in count_of u m) own in
            let fits = out t in
            omega arith)
        | inr other ↦ (
            let off : ((s.books t.key).id == t.id) ≡ false = ne_eqb (s.books t.key).id t.id other in
            let before : outstanding s t ≡ 0 = rw off refl in
            let after : outstanding (given_back m s) t ≡ 0 = rw off refl in
            let fits = out t in
            omega arith)
      ])
]

-- THE CRUX: the place of a set that is still out keeps its pool and its number
pub kept : (m : List Item) (s : State) → Agree s → AreOutstanding m s → (t : Item) → count_of t m < outstanding s t → (e : Entry) × (entry_at (s.books t.key) t.number ≡ Some e) × (entry_at ((released m s).books t.key) t.number ≡ Some (entry_less (back m s e.pool) e))
kept m s agree out t more =
    let w : State = given_back m s in
    let after = given_agree m s agree out in
    let here = outstanding_found s t (count_of t m) more in
    let e = here.0 in
    let there = given_at m s t.key t.number e here.1 in
    let left = given_out m s agree out t in
    let found = outstanding_found w t 0 (omega arith) in
    let booked = booked_at w after t.key t.number found.0 found.1 in
    let same : found.0.allocated ≡ (entry_less (back m s e.pool) e).allocated = ap (λ (x : Entry). x.allocated) (same_Some found.0 (entry_less (back m s e.pool) e) (sym found.1 ∙ there)) in
    let live : live_in w.ledger found.0.pool (set_of t) ≡ booked.0.live (set_of t) = rw booked.1 refl in
    let above = found.2 in
    let some : 0 < found.0.allocated = size_pos booked.0.live found.0.allocated (set_of t) booked.2.allocated (omega arith) in
    let full : is_empty (entry_less (back m s e.pool) e) ≡ false = ne_eqb (entry_less (back m s e.pool) e).allocated 0 (λ none. omega arith) in
    (e, here.1, still_there (emptied_front m w) after t.key t.number (entry_less (back m s e.pool) e) there full)
