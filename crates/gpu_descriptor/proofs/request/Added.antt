-- Sets that come to a key's pools keep books and ledger in agreement, and exactly they are outstanding besides (`Adds`).
-- For request.Walking and request.Growing, which add one pool's sets after another (`added_both`): those of a pool that was asked
-- (`added_asked`), or of a new one (`added_grown`); and for request.Outcomes, which reads the whole off them (`added_agree` ..).
use Rattle.gpu_descriptor.proofs.Common.{common_steps, ◌≡◌, ◌≢◌, ℕ, zero, suc, ◌+◌, ◌<◌, inl, inr, List, [], ◌∷◌, ◌++◌, length, Bool, true, false, ◌==◌, ◌||◌, false_from_ne_true, or_cases, or_left, list_any-append, are_named, Option, Some, None, slice_get, slice_set, option_map, refl, sym, ap, ◌∙◌, subst, arith, cases_Bool, cases_eq, cases_lt, eqb-true}
use Rattle.gpu_descriptor.proofs.Common.{eqb-false, ne_eqb, if◌then◌else◌, map-set, slice_get_within, none-some, same_Some, update, update_apart, update_here, nat_eq, true≢false, Key, key_eq, Entry, Bucket, Pool, State, Item, Ledger, fresh, pool_counts, flags_of, live_sets, live_at, live_in, on_pool, times, set_of, count_of}
use Rattle.gpu_descriptor.proofs.Common.{outstanding, entry_at, numbers_of, number_after, rises, Agree, IsAsBooked, AreBookedIn, IsBookedIn, Fresh, fresh_entry, items_at, pool_with, Adds, IsAsked, IsGrown, KeepsForeign, KeepsOtherKeys}
use Rattle.std.specs.List.{find}
use Rattle.std.specs.Option.{option_or}
use Rattle.std.proofs.lemmas.List.Folds.{find-append}
use Rattle.gpu_descriptor.proofs.lists.AtPlaces.{cases_option, if_none, set_here, set_same, got_last, get_last}
use Rattle.gpu_descriptor.proofs.cleanup.Splitting.{is_named_at, named_at}
use Rattle.gpu_descriptor.proofs.lists.Numbers.{below_next, entry_at-found, entry_at-named, number_of, rises_push}
use Rattle.gpu_descriptor.proofs.table.Exact.{bucket, key_exact}
use Rattle.gpu_descriptor.proofs.request.KeyAgrees.{Became, pool_booked, count_of_items, count_elsewhere}
use Rattle.gpu_descriptor.proofs.request.NextSize.{next_small}
use Rattle.gpu_descriptor.proofs.request.StateAgrees.{changed_booked}
use Rattle.gpu_descriptor.proofs.callers.HeldSets.{count_of-append}

-- an entry that keeps its number is found under it, and leaves the others where they are
find_set : (n : ℕ) (es : List Entry) (i : ℕ) (e f : Entry) → slice_get es i ≡ Some e → f.number ≡ e.number → e.number ≢ n → find (λ d. d.number == n) (slice_set es i f) ≡ find (λ d. d.number == n) es
find_set n [] i e f at same other = refl
find_set n (x ∷ es) zero e f at same other = (let is : x ≡ e = same_Some x e at in rw (ne_eqb f.number n (λ a. other (sym same ∙ a)), ne_eqb x.number n (λ a. other (ap (λ (y : Entry). y.number) (sym is) ∙ a))) refl)
find_set n (x ∷ es) (suc i) e f at same other = elim (cases_Bool (x.number == n)) [ inl here ↦ rw here refl | inr miss ↦ rw miss (find_set n es i e f at same other) ]

named_set : (es : List Entry) (i : ℕ) (e f : Entry) (q : ℕ) → slice_get es i ≡ Some e → f.pool ≡ e.pool → are_named (slice_set es i f) q ≡ are_named es q
named_set [] i e f q at same = refl
named_set (x ∷ es) zero e f q at same = (let is : x ≡ e = same_Some x e at in ap (λ (p : ℕ). (p == q) || are_named es q) (same ∙ ap (λ (y : Entry). y.pool) (sym is)))
named_set (x ∷ es) (suc i) e f q at same = ap (λ (b : Bool). (x.pool == q) || b) (named_set es i e f q at same)

or_none : {A : Type 0} (o : Option A) → option_or o None ≡ o
or_none None = refl
or_none (Some x) = refl

pub added_none : {k : Key} {b : Bucket} {pools : ℕ → Option Pool} → AreBookedIn k pools b.pools → rises (numbers_of b.pools) ≡ true → Adds k [] b b pools pools
added_none {b = b} {pools = pools} booked rising = record {
  booked = booked;
  rising = rising;
  live = λ t key own. (let e : live_at pools b t ≡ live_at pools b t + 0 = omega arith in e);
  stays = λ q on. on;
  comes = λ q on. inl on;
  others = λ q off. refl;
}

pub added_both : {k : Key} {xs ys : List Item} {a b c : Bucket} {l m n : ℕ → Option Pool} → c.id ≡ b.id → Adds k xs a b l m → Adds k ys b c m n → Adds k (xs ++ ys) a c l n
added_both {xs = xs} {ys = ys} {b = b} id one two = record {
  booked = two.booked;
  rising = two.rising;
  live = λ t key own. (let sum = count_of-append t xs ys in let p = one.live t key (own ∙ id) in let q = two.live t key own in omega arith);
  stays = λ q on. two.stays q (one.stays q on);
  comes = λ q on. elim (two.comes q on) [
    | inl mid ↦ one.comes q mid
    | inr none ↦ elim (cases_Bool (are_named b.pools q)) [ inl mid ↦ one.comes q mid | inr off ↦ inr (sym (one.others q off) ∙ none) ]
  ];
  others = λ q off. two.others q off ∙ one.others q (false_from_ne_true _ (λ on. true≢false (sym (two.stays q on) ∙ off)));
}

-- ---- one pool was asked

module _ (k : Key) (id : ℕ) (es : List Entry) (pools : ℕ → Option Pool) (booked : AreBookedIn k pools es) (rising : rises (numbers_of es) ≡ true) where
  module _ (i : ℕ) (e f : Entry) (names : List ℕ) (r : Bool) (at : slice_get es i ≡ Some e) (became : Became (length names) r e f) where
    abbrev news : List Entry
    news = slice_set es i f

    abbrev with : Pool → Pool
    with = pool_with (live_sets k.counts names) r

    abbrev after : ℕ → Option Pool
    after = on_pool e.pool with pools

    had : IsBookedIn k pools e
    had = booked.each i e at

    here : after e.pool ≡ Some (with had.0)
    here = update_here pools e.pool (option_map with (pools e.pool)) ∙ ap (option_map with) had.1

    elsewhere : (q : ℕ) → q ≢ e.pool → after q ≡ pools q
    elsewhere q apart = update_apart pools e.pool (option_map with (pools e.pool)) q apart

    rising_now : rises (numbers_of news) ≡ true
    rising_now = ap rises (map-set (λ (d : Entry). d.number) es i f ∙ ap (slice_set (numbers_of es) i) became.number ∙ set_same (numbers_of es) i e.number (number_of es i e at)) ∙ rising

    live_now : (t : Item) → t.key ≡ k → t.id ≡ id → live_at after (bucket id news) t ≡ live_at pools (bucket id es) t + count_of t (items_at k id e.number names)
    live_now t key own = elim (cases_eq t.number e.number) [
      | inl same ↦ (
          let was = entry_at-named (bucket id es) i t.number e rising at (sym same) in
          let is = entry_at-named (bucket id news) i t.number f rising_now (set_here es i f e at) (became.number ∙ sym same) in
          let left : live_at after (bucket id news) t ≡ had.0.live (set_of t) + times (live_sets k.counts names) (set_of t) = rw (is, ap after became.pool ∙ here) refl in
          let right : live_at pools (bucket id es) t ≡ had.0.live (set_of t) = rw (was, had.1) refl in
          let came = count_of_items k id e.number names t key same own in
          omega arith)
      | inr other ↦ (
          let none = count_elsewhere k id e.number names t other in
          let found = find_set t.number es i e f at became.number (λ a. other (sym a)) in
          elim (cases_option (entry_at (bucket id es) t.number)) [
            | inl gone ↦ (let left : live_at after (bucket id news) t ≡ 0 = rw (found ∙ gone) refl in let right : live_at pools (bucket id es) t ≡ 0 = rw gone refl in omega arith)
            | inr d ↦ (
                let stands = entry_at-found (bucket id es) t.number d.0 d.1 in
                let apart : d.0.pool ≢ e.pool = λ alike. (let place = booked.distinct stands.0 i d.0 e stands.1 at alike in let one : d.0 ≡ e = same_Some d.0 e (sym stands.1 ∙ ap (slice_get es) place ∙ at) in other (sym stands.2 ∙ ap (λ (x : Entry). x.number) one)) in
                let left : live_at after (bucket id news) t ≡ live_in pools d.0.pool (set_of t) = rw (found ∙ d.1, elsewhere d.0.pool apart) refl in
                let right : live_at pools (bucket id es) t ≡ live_in pools d.0.pool (set_of t) = rw d.1 refl in
                omega arith)
          ])
    ]

    same_names : (q : ℕ) → are_named news q ≡ are_named es q
    same_names q = named_set es i e f q at became.pool

    added_at : Adds k (items_at k id e.number names) (bucket id es) (bucket id news) pools after
    added_at = record {
      booked = changed_booked k es pools after i e f (with had.0) booked at became.pool here elsewhere (pool_booked k had.0 e f names r had.2 became);
      rising = rising_now;
      live = live_now;
      stays = λ q on. same_names q ∙ on;
      comes = λ q on. inl (sym (same_names q) ∙ on);
      others = λ q off. elsewhere q (λ same. true≢false (sym (is_named_at es i e at) ∙ ap (are_named es) (sym same) ∙ sym (same_names q) ∙ off));
    }

  pub added_asked : (i wanted : ℕ) (e f : Entry) (names : List ℕ) (l m : Ledger) → slice_get es i ≡ Some e → l.pools ≡ pools → IsAsked k wanted names e f l m → Adds k (items_at k id e.number names) (bucket id es) (bucket id (slice_set es i f)) pools m.pools
  added_asked i wanted e f names l m at is a =
      let became : Became (length names) a.refused e f = rw a.entry (elim (cases_Bool a.refused) [
        | inl on ↦ (let many = a.many in let free : (if a.refused then 0 else e.available) ≡ 0 = rw on refl in record { number = refl; pool = refl; capacity = refl; allocated = refl; fits = omega arith; whole = λ off. absurd (true≢false (sym on ∙ off)) })
        | inr off ↦ (let many = a.many in let free : (if a.refused then 0 else e.available) ≡ e.available = rw off refl in record { number = refl; pool = refl; capacity = refl; allocated = refl; fits = omega arith; whole = λ off. omega arith })
      ]) in
      rw (a.pools ∙ ap (on_pool e.pool (pool_with (live_sets k.counts names) a.refused)) is) (added_at i e f names a.refused at became)

  -- ---- a new pool came

  module _ (x : Entry) (names : List ℕ) (made : Pool) (fresh_name : pools x.pool ≡ None) (number : x.number ≡ number_after (numbers_of es)) (is : IsAsBooked k (pool_with (live_sets k.counts names) false made) x) (no_sets : (y : _) → made.live y ≡ 0) where
    abbrev longer : List Entry
    longer = es ++ x ∷ []

    abbrev got : Pool
    got = pool_with (live_sets k.counts names) false made

    abbrev later : ℕ → Option Pool
    later = on_pool x.pool (pool_with (live_sets k.counts names) false) (update nat_eq pools x.pool (Some made))

    new_here : later x.pool ≡ Some got
    new_here = update_here (update nat_eq pools x.pool (Some made)) x.pool _ ∙ ap (option_map (pool_with (live_sets k.counts names) false)) (update_here pools x.pool (Some made))

    old_here : (q : ℕ) → q ≢ x.pool → later q ≡ pools q
    old_here q apart = update_apart (update nat_eq pools x.pool (Some made)) x.pool _ q apart ∙ update_apart pools x.pool (Some made) q apart

    other_name : (i : ℕ) (e : Entry) → slice_get es i ≡ Some e → e.pool ≢ x.pool
    other_name i e at same = (let had = booked.each i e at in none-some had.0 (sym fresh_name ∙ ap pools (sym same) ∙ had.1))

    rising_then : rises (numbers_of longer) ≡ true
    rising_then = grind (arith, common_steps, rises_push)

    none_there : entry_at (bucket id es) x.number ≡ None
    none_there = elim (cases_option (entry_at (bucket id es) x.number)) [
      | inl none ↦ none
      | inr e ↦ absurd (let found = entry_at-found (bucket id es) x.number e.0 e.1 in let below = below_next (numbers_of es) rising found.0 e.0.number (number_of es found.0 e.0 found.1) in let same = found.2 in omega arith)
    ]

    live_then : (t : Item) → t.key ≡ k → t.id ≡ id → live_at later (bucket id longer) t ≡ live_at pools (bucket id es) t + count_of t (items_at k id x.number names)
    live_then t key own = elim (cases_eq t.number x.number) [
      | inl same ↦ (
          let was : live_at pools (bucket id es) t ≡ 0 = rw (same, none_there) refl in
          let at = entry_at-named (bucket id longer) (length es) t.number x rising_then (get_last es x) (sym same) in
          let now : live_at later (bucket id longer) t ≡ made.live (set_of t) + times (live_sets k.counts names) (set_of t) = rw (at, new_here) refl in
          let came = count_of_items k id x.number names t key same own in
          let none = no_sets (set_of t) in
          omega arith)
      | inr other ↦ (
          let none = count_elsewhere k id x.number names t other in
          let past : find (λ (d : Entry). d.number == t.number) (x ∷ []) ≡ None = rw (ne_eqb x.number t.number (λ a. other (sym a))) refl in
          let found : entry_at (bucket id longer) t.number ≡ entry_at (bucket id es) t.number = find-append (λ (d : Entry). d.number == t.number) es (x ∷ []) ∙ ap (option_or (entry_at (bucket id es) t.number)) past ∙ or_none (entry_at (bucket id es) t.number) in
          elim (cases_option (entry_at (bucket id es) t.number)) [
            | inl gone ↦ (let left : live_at later (bucket id longer) t ≡ 0 = rw (found ∙ gone) refl in let right : live_at pools (bucket id es) t ≡ 0 = rw gone refl in omega arith)
            | inr d ↦ (
                let stands = entry_at-found (bucket id es) t.number d.0 d.1 in
                let left : live_at later (bucket id longer) t ≡ live_in pools d.0.pool (set_of t) = rw (found ∙ d.1, old_here d.0.pool (other_name stands.0 d.0 stands.1)) refl in
                let right : live_at pools (bucket id es) t ≡ live_in pools d.0.pool (set_of t) = rw d.1 refl in
                omega arith)
          ])
    ]

    longer_names : (q : ℕ) → are_named longer q ≡ (are_named es q || are_named (x ∷ []) q)
    longer_names q = list_any-append (λ e. e.pool == q) es (x ∷ [])

    added_new : Adds k (items_at k id x.number names) (bucket id es) (bucket id longer) pools later
    added_new = record {
      booked = record {
        distinct = λ i j d e at at' same. elim (got_last es x i d at) [
          | inl p ↦ elim (got_last es x j e at') [
            | inl q ↦ booked.distinct i j d e p q same
            | inr q ↦ absurd (other_name i d p (same ∙ ap (λ (y : Entry). y.pool) q.1))
          ]
          | inr p ↦ elim (got_last es x j e at') [
            | inl q ↦ absurd (other_name j e q (sym same ∙ ap (λ (y : Entry). y.pool) p.1))
            | inr q ↦ p.0 ∙ sym q.0
          ]
        ];
        each = λ i d at. elim (got_last es x i d at) [
          | inl p ↦ (let had = booked.each i d p in (had.0, old_here d.pool (other_name i d p) ∙ had.1, had.2))
          | inr p ↦ subst (IsBookedIn k later) (sym p.1) (got, new_here, is)
        ];
      };
      rising = rising_then;
      live = live_then;
      stays = λ q on. longer_names q ∙ or_left _ _ on;
      comes = λ q on. elim (or_cases (are_named es q) (are_named (x ∷ []) q) (sym (longer_names q) ∙ on)) [
        | inl old ↦ inl old
        | inr new ↦ (let last = named_at (x ∷ []) q new in inr (elim (got_last [] x last.0 last.1 last.2) [ inl none ↦ absurd (none-some last.1 none) | inr is ↦ ap pools (sym last.3 ∙ ap (λ (y : Entry). y.pool) is.1) ∙ fresh_name ]))
      ];
      others = λ q off. old_here q (λ same. true≢false (sym (is_named_at longer (length es) x (get_last es x)) ∙ ap (are_named longer) (sym same) ∙ off));
    }

  pub added_grown : (bound : Option ℕ) (room left total wanted : ℕ) (names : List ℕ) (new : List Entry) (l m : Ledger) → l.pools ≡ pools → IsGrown bound k room left total wanted names es new l m → Adds k (items_at k id (number_after (numbers_of es)) names) (bucket id es) (bucket id new) pools m.pools
  added_grown bound room left total wanted names new l m is g =
      let f : Fresh = g.pool in
      let x : Entry = fresh_entry (number_after (numbers_of es)) f in
      let made : Pool = fresh (pool_counts k.counts f.size) f.size (flags_of k) in
      let empty : Entry = record x { allocated = 0; available = f.size } in
      let given = g.given in
      let many = g.many in
      let booked_empty : IsAsBooked k made empty = record { flags = refl; at_least = g.size.some; small = next_small bound k _ _ _ f.size g.size; capacity = refl; counts = refl; sets = λ y some. absurd (omega arith); allocated = ∣ ([], refl, λ y. refl) ∣₁; fits = omega arith; full = λ never. (let e : 0 + f.size ≡ f.size = omega arith in e) } in
      let became : Became (length names) false empty x = record { number = refl; pool = refl; capacity = refl; allocated = omega arith; fits = omega arith; whole = λ off. omega arith } in
      rw (g.entries, g.pools ∙ ap (λ (p : ℕ → Option Pool). on_pool f.pool (pool_with (live_sets k.counts names) false) (update nat_eq p f.pool (Some made))) is)
      (added_new x names made (ap (λ (p : ℕ → Option Pool). p f.pool) (sym is) ∙ g.is_new) refl (pool_booked k made empty x names false booked_empty became) (λ y. refl))

-- ---- in all books

module _ {k : Key} {items : List Item} {new : Bucket} {after : ℕ → Option Pool} (s : State) (agree : Agree s) (a : Adds k items (s.books k) new s.ledger after) (own : (u : Item) → 0 < count_of u items → (u.key ≡ k) × (u.id ≡ new.id)) (owns : 0 < length (s.books k).pools → new.id ≡ (s.books k).id) where
  abbrev t : State
  t = record { books = λ l. if key_eq k l then new else s.books l; ledger = after }

  other_key : (l : Key) → key_eq k l ≡ false → k ≢ l
  other_key l apart same = true≢false (sym (key_exact.self k) ∙ ap (key_eq k) same ∙ apart)

  -- a live pool of no other name is none of the key's
  unnamed : (q : ℕ) (pool : Pool) → s.ledger q ≡ Some pool → ((i : ℕ) (e : Entry) → slice_get (s.books k).pools i ≡ Some e → e.pool ≢ q) → are_named new.pools q ≡ false
  unnamed q pool live other = false_from_ne_true (are_named new.pools q) (λ named. elim (a.comes q named) [
    | inl old ↦ (let f = named_at (s.books k).pools q old in other f.0 f.1 f.2 f.3)
    | inr none ↦ none-some pool (sym none ∙ live)
  ])

  other_pool : (l : Key) (i : ℕ) (e : Entry) → key_eq k l ≡ false → slice_get (s.books l).pools i ≡ Some e → are_named new.pools e.pool ≡ false
  other_pool l i e apart at = (let was = agree.booked l i e at in unnamed e.pool was.0 was.1 (λ j d there same. other_key l apart (agree.distinct k l j i d e there at same).0))

  others_left : (l : Key) (i : ℕ) (e : Entry) → key_eq k l ≡ false → slice_get (s.books l).pools i ≡ Some e → after e.pool ≡ s.ledger e.pool
  others_left l i e apart at = a.others e.pool (other_pool l i e apart at)

  -- two pools of different keys have different names
  not_both : (l : Key) (i j : ℕ) (d e : Entry) → key_eq k l ≡ false → slice_get new.pools i ≡ Some d → slice_get (s.books l).pools j ≡ Some e → d.pool ≢ e.pool
  not_both l i j d e apart at_d at_e same = true≢false (sym (is_named_at new.pools i d at_d) ∙ ap (are_named new.pools) same ∙ other_pool l j e apart at_e)

  pub added_agree : Agree t
  added_agree = record {
    distinct = λ b c i j d e at_d at_e same. elim (cases_Bool (key_eq k b)) [
      | inl p ↦ elim (cases_Bool (key_eq k c)) [
        | inl q ↦ (sym (key_exact.same k b p) ∙ key_exact.same k c q, a.booked.distinct i j d e (rw p at at_d) (rw q at at_e) same)
        | inr q ↦ absurd (not_both c i j d e q (rw p at at_d) (rw q at at_e) same)
      ]
      | inr p ↦ elim (cases_Bool (key_eq k c)) [
        | inl q ↦ absurd (not_both b j i e d p (rw q at at_e) (rw p at at_d) (sym same))
        | inr q ↦ agree.distinct b c i j d e (rw p at at_d) (rw q at at_e) same
      ]
    ];
    booked = λ l i e at. elim (cases_Bool (key_eq k l)) [
      | inl is ↦ (let x = a.booked.each i e (rw is at at) in subst (λ (q : Key). IsBookedIn q after e) (key_exact.same k l is) x)
      | inr apart ↦ (let there = rw apart at at in let was = agree.booked l i e there in (was.0, others_left l i e apart there ∙ was.1, was.2))
    ];
    rising = λ l. elim (cases_Bool (key_eq k l)) [ inl is ↦ rw is a.rising | inr apart ↦ rw apart (agree.rising l) ];
  }

  no_item : (u : Item) → ((0 < count_of u items) → ⊥) → count_of u items ≡ 0
  no_item u never = elim (cases_lt 0 (count_of u items)) [ inl some ↦ absurd (never some) | inr none ↦ (omega arith) ]

  -- where the key had pools it had the id
  live_before : (u : Item) → k ≡ u.key → outstanding s u ≡ (if new.id == u.id then live_at s.ledger (s.books k) u else 0)
  live_before u key = ap (λ (l : Key). if (s.books l).id == u.id then live_at s.ledger (s.books l) u else 0) (sym key) ∙ elim (cases_option (entry_at (s.books k) u.number)) [
    | inl none ↦ (let zero : live_at s.ledger (s.books k) u ≡ 0 = rw none refl in rw zero (if_none ((s.books k).id == u.id) ∙ sym (if_none (new.id == u.id))))
    | inr e ↦ ap (λ (i : ℕ). if i == u.id then live_at s.ledger (s.books k) u else 0) (sym (owns (let found = entry_at-found (s.books k) u.number e.0 e.1 in let some = slice_get_within (s.books k).pools found.0 e.0 found.1 in omega arith)))
  ]

  -- exactly these sets are outstanding besides
  pub added_outstanding : (u : Item) → outstanding t u ≡ outstanding s u + count_of u items
  added_outstanding u = elim (cases_Bool (key_eq k u.key)) [
    | inl is ↦ (
        let key = key_exact.same k u.key is in
        let now : outstanding t u ≡ (if new.id == u.id then live_at after new u else 0) = rw is refl in
        let was = live_before u key in
        elim (cases_Bool (new.id == u.id)) [
          | inl on ↦ (
              let left : outstanding t u ≡ live_at after new u = now ∙ rw on refl in
              let right : outstanding s u ≡ live_at s.ledger (s.books k) u = was ∙ rw on refl in
              let more = a.live u (sym key) (sym (eqb-true new.id u.id on)) in
              omega arith)
          | inr off ↦ (
              let left : outstanding t u ≡ 0 = now ∙ rw off refl in
              let right : outstanding s u ≡ 0 = was ∙ rw off refl in
              let none = no_item u (λ some. eqb-false new.id u.id off (sym (own u some).1)) in
              omega arith)
        ])
    | inr apart ↦ (
        let none = no_item u (λ some. other_key u.key apart (sym (own u some).0)) in
        let now : outstanding t u ≡ (if (s.books u.key).id == u.id then live_at after (s.books u.key) u else 0) = rw apart refl in
        let live : live_at after (s.books u.key) u ≡ live_at s.ledger (s.books u.key) u = elim (cases_option (entry_at (s.books u.key) u.number)) [
          | inl gone ↦ rw gone refl
          | inr e ↦ (let found = entry_at-found (s.books u.key) u.number e.0 e.1 in rw (e.1, others_left u.key found.0 e.0 apart found.1) refl)
        ] in
        let same = ap (λ (i : ℕ). if (s.books u.key).id == u.id then i else 0) live in
        omega arith)
  ]

  pub added_others : KeepsOtherKeys k s t
  added_others l apart = record { books = rw apart refl; pools = λ i e at. others_left l i e apart at }

  -- the live pools of others stay, and don't come into the books; and a live pool that isn't in the books afterwards was none of theirs
  pub added_foreign : KeepsForeign s t
  added_foreign name pool foreign live = (
    a.others name (unnamed name pool live (foreign k)) ∙ live,
    λ l i f at same. elim (cases_Bool (key_eq k l)) [
      | inl is ↦ true≢false (sym (is_named_at new.pools i f (rw is at at)) ∙ ap (are_named new.pools) same ∙ unnamed name pool live (foreign k))
      | inr apart ↦ foreign l i f (rw apart at at) same
    ],
  )

  pub added_loses_none : KeepsForeign t s
  added_loses_none name pool foreign live =
      let new_ones : (i : ℕ) (d : Entry) → slice_get new.pools i ≡ Some d → d.pool ≢ name = λ i d at. foreign k i d (rw (key_exact.self k) at) in
      let off : are_named new.pools name ≡ false = false_from_ne_true _ (λ named. (let f = named_at new.pools name named in new_ones f.0 f.1 f.2 f.3)) in (
        sym (a.others name off) ∙ live,
        λ l i e at same. elim (cases_Bool (key_eq k l)) [
          | inl is ↦ (let here = subst (λ (x : Key). slice_get (s.books x).pools i ≡ Some e) (sym (key_exact.same k l is)) at in true≢false (sym (a.stays name (ap (are_named (s.books k).pools) (sym same) ∙ is_named_at (s.books k).pools i e here)) ∙ off))
          | inr apart ↦ foreign l i e (rw apart at) same
        ],
      )
