-- Giving one run back, over the books of all keys.
-- For `release_run`, by release.LentRow: a run leaves the state released of its sets. x is its first set, xs are the others, all of
-- one key and pool number; m are their items; e is the entry of their pool.
use Rattle.gpu_descriptor.proofs.Common.{◌≡◌, ℕ, suc, ◌<◌, ◌≤◌, Bool, true, false, ◌==◌, List, [], ◌∷◌, length, map, count_by, Option, Some, None, option_map, inl, inr, refl, sym, ap, ◌∙◌, arith, eq-eqb, ne_eqb, if◌then◌else◌, fun_ext, list_any, cases_Bool, cases_eq, and_parts}
use Rattle.gpu_descriptor.proofs.Common.{and_from, false_from_ne_true, length-map, Pool, live_sets, LiveSet, set_eq, times, bool_iff, any_found, any_from, count_by_yes, count_by_no, DescriptorSet, set_of, State, Item, item_eq, count_of, live_in, AreOutstanding, Agree, Key, key_eq}
use Rattle.gpu_descriptor.proofs.Common.{Entry, Bucket, entry_at, common_steps, IsTakenAt, names_of, bucket_less, bucket_but_front, entry_less, pool_less, given_back, fronts_gone, released, spent_front, pools_gone, item_of, items_of, AllByRecursion, true≢false}
use Rattle.gpu_descriptor.specs.Inner.RunSteps.{lies_at}
use Rattle.gpu_descriptor.proofs.table.Exact.{key_exact, item_exact}
use Rattle.gpu_descriptor.proofs.lists.Numbers.{entry_at-found}
use Rattle.gpu_descriptor.proofs.release.ReleaseAgrees.{has_place}
use Rattle.gpu_descriptor.proofs.foreign.LedgerPools.{taken_from, with_pool_same, with_pool_other}
use Rattle.gpu_descriptor.proofs.release.Given.{names_key, any_key, key_any, goes}
use Rattle.gpu_descriptor.proofs.release.Places.{back, back_named, part_fits}
use Rattle.gpu_descriptor.proofs.release.RunsOfOne.{IsRun, run_back, run_named, untouched_rest}
use Rattle.gpu_descriptor.proofs.table.TableBooks.{put_books}

-- the bucket once n sets of the pool of this entry are freed
abbrev pub run_less : ℕ → Entry → Bucket → Bucket
run_less n e b = bucket_less (λ pool. if e.pool == pool then n else 0) b

-- the pools without those of a bucket's spent front
abbrev pub trimmed_pools : Bucket → (ℕ → Option Pool) → ℕ → Option Pool
trimmed_pools b pools = (λ p. if goes b p then None else pools p)

-- whether a set is of a key and a pool number: from both, of the set's own, and to both
pub at_from : {S : Type 0} (k : Key) (n : ℕ) (x : DescriptorSet S) → x.key.is ≡ k → x.number ≡ n → lies_at k n x ≡ true
unfolding lies_at
at_from k n x e f = and_from _ _ (ap (λ (l : Key). key_eq l k) e ∙ key_exact.self k) (eq-eqb x.number n f)

pub lies_own : {S : Type 0} (x : DescriptorSet S) → lies_at x.key.is x.number x ≡ true
unfolding lies_at
lies_own x = and_from _ _ (key_exact.self x.key.is) (eq-eqb x.number x.number refl)

pub at_parts : {S : Type 0} (k : Key) (n : ℕ) (x : DescriptorSet S) → lies_at k n x ≡ true → (x.key.is ≡ k) × (x.number ≡ n)
unfolding lies_at
at_parts k n x h = grind (arith, key_exact)

module _ {S : Type 0} (name : S → ℕ) where
  -- the items of such sets are a run
  in_run : (k : Key) (n : ℕ) (xs : List (DescriptorSet S)) → AllByRecursion (λ y. lies_at k n y ≡ true) xs → (t : Item) → 0 < count_of t (items_of name xs) → (t.key ≡ k) × (t.number ≡ n)
  in_run k n [] have t h = absurd (omega arith)
  in_run k n (x ∷ xs) have t h =
      let one : Item = item_of name x in
      elim (cases_Bool (item_eq one t)) [
        | inl same ↦ (
            let is = item_exact.same one t same in
            grind (arith, common_steps, at_parts))
        | inr other ↦ (let skip : count_of t (one ∷ items_of name xs) ≡ count_of t (items_of name xs) = count_by_no (λ u. item_eq u t) one (items_of name xs) other in in_run k n xs have.1 t (omega arith))
      ]

  pub is_run : (k : Key) (n : ℕ) (xs : List (DescriptorSet S)) → AllByRecursion (λ y. lies_at k n y ≡ true) xs → IsRun k n (items_of name xs)
  is_run k n xs have t h = in_run k n xs have t h

  -- the sets of a run, counted
  pub named_times : (k : Key) (n : ℕ) (xs : List (DescriptorSet S)) → AllByRecursion (λ y. lies_at k n y ≡ true) xs → (x : LiveSet) → count_by (λ t. set_eq (set_of t) x) (items_of name xs) ≡ times (live_sets k.counts (names_of name xs)) x
  named_times k n [] have x = refl
  named_times k n (y ∷ ys) have x = grind (arith, common_steps, at_parts, (named_times k n ys have.1 x))

  first_of : (x : DescriptorSet S) (xs : List (DescriptorSet S)) → 0 < count_of (item_of name x) (items_of name (x ∷ xs))
  first_of x xs = (let own : count_of (item_of name x) (items_of name (x ∷ xs)) ≡ suc (count_of (item_of name x) (items_of name xs)) = count_by_yes (λ u. item_eq u (item_of name x)) (item_of name x) (items_of name xs) (item_exact.self (item_of name x)) in omega arith)

  same_length : (xs : List (DescriptorSet S)) → length (items_of name xs) ≡ length (names_of name xs)
  same_length xs = length-map xs (λ (x : DescriptorSet S). item_of name x) ∙ sym (length-map xs (λ (x : DescriptorSet S). name x.raw))

  all_have : (x : DescriptorSet S) (xs : List (DescriptorSet S)) → AllByRecursion (λ y. lies_at x.key.is x.number y ≡ true) xs → AllByRecursion (λ y. lies_at x.key.is x.number y ≡ true) (x ∷ xs)
  all_have x xs have = (lies_own x, have)

  -- a run that is outstanding is in one pool, which has so many sets, each of them live
  pub taken_of : (s : State) → Agree s → (x : DescriptorSet S) (xs : List (DescriptorSet S)) → AllByRecursion (λ y. lies_at x.key.is x.number y ≡ true) xs → AreOutstanding (items_of name (x ∷ xs)) s → IsTakenAt x.key.is x.number (names_of name (x ∷ xs)) (s.books x.key.is) s.ledger
  taken_of s agree x xs have out =
      let k = x.key.is in
      let n = x.number in
      let m = items_of name (x ∷ xs) in
      let run = is_run x.key.is n (x ∷ xs) (all_have x xs have) in
      let has = has_place m s agree out (item_of name x) (first_of x xs) in
      let e = has.0 in
      let at : entry_at (s.books k) n ≡ Some e = has.1 in
      let own : (e.pool == e.pool) ≡ true = eq-eqb e.pool e.pool refl in
      let all : back m s e.pool ≡ length m = run_back k n m s e run at e.pool ∙ (rw own refl) in
      let long = same_length (x ∷ xs) in
      let fits = has.5 in
      record {
        entry = e;
        at = at;
        fits = (let less : length (names_of name (x ∷ xs)) ≤ e.allocated = omega arith in less);
        live = λ y.
            let part = part_fits m s agree out k n e has.2 at has.3 y in
            let named : back_named m s e.pool y ≡ count_by (λ t. set_eq (set_of t) y) m = run_named k n m s e run at e.pool y ∙ (rw own refl) in
            let counted = named_times x.key.is n (x ∷ xs) (all_have x xs have) y in
            let live : live_in s.ledger e.pool y ≡ has.2.live y = rw has.3 refl in
            omega arith;
      }

  pool_none : (o : Option Pool) → option_map (pool_less (λ x. 0)) o ≡ o
  pool_none None = refl
  pool_none (Some p) = grind arith

  -- THE STATE AFTER ONE RUN, before the front goes
  pub given_run : (s : State) → Agree s → (x : DescriptorSet S) (xs : List (DescriptorSet S)) → AllByRecursion (λ y. lies_at x.key.is x.number y ≡ true) xs → (e : Entry) → entry_at (s.books x.key.is) x.number ≡ Some e
      → given_back (items_of name (x ∷ xs)) s ≡ record {
        books = put_books s.books x.key.is (run_less (length (names_of name (x ∷ xs))) e (s.books x.key.is));
        ledger = taken_from s.ledger e.pool (live_sets x.key.is.counts (names_of name (x ∷ xs)));
      }
  given_run s agree x xs have e at =
      let k = x.key.is in
      let n = x.number in
      let m = items_of name (x ∷ xs) in
      let b = s.books k in
      let ls = live_sets k.counts (names_of name (x ∷ xs)) in
      let run = is_run x.key.is n (x ∷ xs) (all_have x xs have) in
      let found = entry_at-found b n e at in
      let long : length m ≡ length (names_of name (x ∷ xs)) = same_length (x ∷ xs) in
      let c = run_less (length (names_of name (x ∷ xs))) e b in
      let one : (given_back m s).books k ≡ c = ap (λ (f : ℕ → ℕ). bucket_less f b) (fun_ext (run_back k n m s e run at)) ∙ ap (λ (l : ℕ). run_less l e b) long in
      let books : (given_back m s).books ≡ put_books s.books k c = fun_ext (λ l. elim (cases_Bool (key_eq k l)) [
        | inl is ↦ (let here : put_books s.books k c l ≡ c = rw is refl in ap (given_back m s).books (sym (key_exact.same k l is)) ∙ one ∙ sym here)
        | inr other ↦ (
            let here : put_books s.books k c l ≡ s.books l = rw other refl in
            let pools : map (λ d. entry_less (back m s d.pool) d) (s.books l).pools ≡ (s.books l).pools =
            ap (λ (f : ℕ → ℕ). map (λ (d : Entry). entry_less (f d.pool) d) (s.books l).pools) (fun_ext (run_back k n m s e run at))
            ∙ untouched_rest (length m) e.pool (s.books l).pools (λ j d got same.
            let keys = (agree.distinct k l found.0 j e d found.1 got same).0 in
            true≢false (sym (ap (key_eq k) (sym keys) ∙ key_exact.self k) ∙ other)) in
            let whole : (given_back m s).books l ≡ s.books l = λ z. record (s.books l) { pools = pools z } in
            whole ∙ sym here)
      ]) in
      let ledger : (given_back m s).ledger ≡ taken_from s.ledger e.pool ls = fun_ext (λ p. elim (cases_eq p e.pool) [
        | inl same ↦ rw same (
            let own : (e.pool == e.pool) ≡ true = eq-eqb e.pool e.pool refl in
            let named : back_named m s e.pool ≡ times ls = fun_ext (λ y. run_named k n m s e run at e.pool y ∙ (rw own (named_times x.key.is n (x ∷ xs) (all_have x xs have) y))) in
            ap (λ (f : LiveSet → ℕ). option_map (pool_less f) (s.ledger e.pool)) named ∙ sym (with_pool_same s.ledger e.pool (option_map (pool_less (times ls)) (s.ledger e.pool))))
        | inr other ↦ (
            let named : back_named m s p ≡ (λ y. 0) = fun_ext (λ y. run_named k n m s e run at p y ∙ (let apart : (e.pool == p) ≡ false = ne_eqb e.pool p (λ h. other (sym h)) in rw apart refl)) in
            ap (λ (f : LiveSet → ℕ). option_map (pool_less f) (s.ledger p)) named ∙ pool_none (s.ledger p) ∙ sym (with_pool_other s.ledger e.pool p (option_map (pool_less (times ls)) (s.ledger e.pool)) other))
      ]) in
      λ z. record { books = books z; ledger = ledger z }

  -- THE FRONT OF THE RUN'S KEY
  pub front_run : (x : DescriptorSet S) (xs : List (DescriptorSet S)) → AllByRecursion (λ y. lies_at x.key.is x.number y ≡ true) xs → (books : Key → Bucket) (b : Bucket) (pools : ℕ → Option Pool)
      → fronts_gone (items_of name (x ∷ xs)) (record { books = put_books books x.key.is b; ledger = pools }) ≡ record { books = put_books books x.key.is (bucket_but_front 1 b); ledger = trimmed_pools b pools }
  front_run x xs have books b pools =
      let k = x.key.is in
      let m = items_of name (x ∷ xs) in
      let run = is_run x.key.is x.number (x ∷ xs) (all_have x xs have) in
      let s : State = record { books = put_books books k b; ledger = pools } in
      let own : put_books books k b k ≡ b = rw (key_exact.self k) refl in
      let named : names_key m k ≡ true = any_from item_exact (λ u. key_eq u.key k) m (item_of name x) (first_of x xs) (key_exact.self k) in
      let only : (l : Key) → names_key m l ≡ true → k ≡ l = λ l h.
      let who = any_found item_exact (λ u. key_eq u.key l) m h in
      sym (run who.0 who.1).0 ∙ key_exact.same who.0.key l who.2 in
      let books_are : (fronts_gone m s).books ≡ put_books books k (bucket_but_front 1 b) = fun_ext (λ l. elim (cases_Bool (key_eq k l)) [
        | inl is ↦ (
            let same = key_exact.same k l is in
            let here : put_books books k (bucket_but_front 1 b) l ≡ bucket_but_front 1 b = rw is refl in
            let there : (fronts_gone m s).books k ≡ bucket_but_front 1 b = rw named (ap (bucket_but_front 1) own) in
            ap (fronts_gone m s).books (sym same) ∙ there ∙ sym here)
        | inr other ↦ (
            let unnamed : names_key m l ≡ false = false_from_ne_true (names_key m l) (λ h. true≢false (sym (ap (key_eq k) (sym (only l h)) ∙ key_exact.self k) ∙ other)) in
            rw (unnamed, other) refl)
      ]) in
      let ledger : (fronts_gone m s).ledger ≡ trimmed_pools b pools = fun_ext (λ p.
      let gone : list_any (λ t. goes (s.books t.key) p) m ≡ goes b p = bool_iff (list_any (λ t. goes (s.books t.key) p) m) (goes b p)
      (λ h.
      let at = any_key (λ l. goes (s.books l) p) m h in
      let both = and_parts (names_key m at.0) (goes (s.books at.0) p) at.1 in
      ap (λ (c : Bucket). goes c p) (sym own) ∙ ap (λ (l : Key). goes (s.books l) p) (only at.0 both.0) ∙ both.1)
      (λ h. key_any (λ l. goes (s.books l) p) m k (and_from (names_key m k) (goes (s.books k) p) named (ap (λ (c : Bucket). goes c p) own ∙ h))) in
      ap (λ (y : Bool). if y then None else pools p) gone) in
      λ z. record { books = books_are z; ledger = ledger z }

  -- THE STATE AFTER ONE RUN
  pub whole_run : (s : State) → Agree s → (x : DescriptorSet S) (xs : List (DescriptorSet S)) → AllByRecursion (λ y. lies_at x.key.is x.number y ≡ true) xs → (e : Entry) → entry_at (s.books x.key.is) x.number ≡ Some e
      → (c : Bucket) (pools : ℕ → Option Pool)
      → c ≡ bucket_but_front 1 (run_less (length (names_of name (x ∷ xs))) e (s.books x.key.is))
      → pools
      ≡ trimmed_pools (run_less (length (names_of name (x ∷ xs))) e (s.books x.key.is))
      (taken_from s.ledger e.pool (live_sets x.key.is.counts (names_of name (x ∷ xs))))
      → ◌≡◌ {A = State} (record { books = put_books s.books x.key.is c; ledger = pools }) (released (items_of name (x ∷ xs)) s)
  whole_run s agree x xs have e at c pools is are =
      let k = x.key.is in
      let b = run_less (length (names_of name (x ∷ xs))) e (s.books k) in
      let after = taken_from s.ledger e.pool (live_sets k.counts (names_of name (x ∷ xs))) in
      let left : ◌≡◌ {A = State} (record { books = put_books s.books k c; ledger = pools }) (record { books = put_books s.books k (bucket_but_front 1 b); ledger = trimmed_pools b after }) = λ z. record { books = put_books s.books k (is z); ledger = are z } in
      left ∙ sym (front_run x xs have s.books b after) ∙ ap (fronts_gone (items_of name (x ∷ xs))) (sym (given_run s agree x xs have e at))

  -- THE POOLS THAT GO from the run's key
  pub gone_run : (s : State) → Agree s → (x : DescriptorSet S) (xs : List (DescriptorSet S)) → AllByRecursion (λ y. lies_at x.key.is x.number y ≡ true) xs → (e : Entry) → entry_at (s.books x.key.is) x.number ≡ Some e
      → pools_gone (x.key.is ∷ []) (items_of name (x ∷ xs)) s ≡ spent_front (run_less (length (names_of name (x ∷ xs))) e (s.books x.key.is))
  gone_run s agree x xs have e at =
      let k = x.key.is in
      let m = items_of name (x ∷ xs) in
      let b = run_less (length (names_of name (x ∷ xs))) e (s.books k) in
      let named : names_key m k ≡ true = any_from item_exact (λ u. key_eq u.key k) m (item_of name x) (first_of x xs) (key_exact.self k) in
      let given : (given_back m s).books k ≡ b = ap (λ (t : State). t.books k) (given_run s agree x xs have e at) ∙ (let own : put_books s.books k b k ≡ b = rw (key_exact.self k) refl in own) in
      let here : pools_gone (k ∷ []) m s ≡ spent_front ((given_back m s).books k) = rw named (omega arith) in
      here ∙ ap spent_front given
