-- One step of the walk over a key's pools.
-- For request.Walking. The pool at place i is asked: its entry e becomes f, and the sets names came. newer are the pools after it,
-- refused says which of them refused, and parts what they gave; `_now` is what the grant says after the step.
use Rattle.gpu_descriptor.proofs.Common.{common_steps, ◌≡◌, ℕ, suc, ◌+◌, inl, inr, List, [], ◌∷◌, ◌++◌, length, map, take, drop, slice_set, Bool, true, false, cond, ◌&&◌, ◌==◌, nat_eq, nat_lt, Option, Some, None, refl, sym, ap, ◌∙◌, subst, arith, eqb-true, eq-eqb, or_cases, and_parts, and_from}
use Rattle.gpu_descriptor.proofs.Common.{or_left, or_right, eqb-false, fun_ext, map-append, append-nil, sum_by-cons, if◌then◌else◌, option_map, times-append, Key, Entry, Bucket, Item, Pool, Ledger, Counters, live_sets, on_pool, flat_map-append, Grant, Part, fresh_or, items_at, items_in}
use Rattle.gpu_descriptor.proofs.Common.{portion_of, came, pool_with, ledger_with, Fresh, risen, grant_rise, offer, rest, is_asked, share, all_shared, asked_count, refused_count, OnlyAskedRefuse, portions_of, Adds, IsAsked, HasTaken}
use Rattle.std.proofs.Math.Seq.{set-append_seam}
use Rattle.gpu_descriptor.proofs.request.Asks.{same_counters}
use Rattle.gpu_descriptor.proofs.table.Exact.{bucket}
use Rattle.gpu_descriptor.proofs.request.Shares.{IsApart, or_at, or_at_apart, or_at_here, AreSame, all_same}

-- parts and grants by their fields, and a grant without new pools
abbrev pub part : ℕ → ℕ → List ℕ → Part
part number pool names = record { number = number; pool = pool; names = names }

abbrev pub grant_of : ℕ → ℕ → (ℕ → Bool) → List Fresh → List Part → Grant
grant_of id left refused fresh parts = record { id = id; skipped = left; refused = refused; fresh = fresh; parts = parts }

abbrev pub so_far : ℕ → ℕ → (ℕ → Bool) → List Part → Grant
so_far id left refused parts = grant_of id left refused [] parts

-- the sets that came from a pool
pub came_more : (parts : List Part) (p : Part) (q : ℕ) → came (parts ++ p ∷ []) q ≡ came parts q ++ (if p.pool == q then p.names else [])
came_more parts p q = flat_map-append (λ (p : Part). if p.pool == q then p.names else []) parts (p ∷ []) ∙ ap (λ x. came parts q ++ x) (append-nil (if p.pool == q then p.names else []))

-- a pool that got sets twice
pool_twice : (counts a b : List ℕ) (r : Bool) (p : Pool) → pool_with (live_sets counts b) r (pool_with (live_sets counts a) false p) ≡ pool_with (live_sets counts (a ++ b)) r p
pool_twice counts a b r p = grind (arith, common_steps, fun_ext, map-append, times-append)

-- the items of one part more
pub items_more : (k : Key) (id number pool : ℕ) (names : List ℕ) (parts : List Part) → items_in k id (parts ++ part number pool names ∷ []) ≡ items_in k id parts ++ items_at k id number names
items_more k id number pool names parts = flat_map-append (λ (p : Part). items_at k id p.number p.names) parts (part number pool names ∷ []) ∙ ap (λ x. items_in k id parts ++ x) (append-nil (items_at k id number names))

-- the ledger after one pool gave more
pub ledger_more : (k : Key) (refused : ℕ → Bool) (fs : List Fresh) (parts : List Part) (r : Bool) (number name : ℕ) (names : List ℕ) (pools : ℕ → Option Pool) (id left left' : ℕ) → refused name ≡ false
    → on_pool name (pool_with (live_sets k.counts names) r) (ledger_with k (grant_of id left refused fs parts) pools)
    ≡ ledger_with k (grant_of id left' (or_at r name refused) fs (parts ++ part number name names ∷ [])) pools
ledger_more k refused fs parts r number name names pools id left left' not_yet = fun_ext (λ q. at (nat_eq name q) q refl)
  where
    here : (o : Option Pool) → option_map (pool_with (live_sets k.counts names) r) (option_map (pool_with (live_sets k.counts (came parts name)) false) o) ≡ option_map (pool_with (live_sets k.counts (came parts name ++ names)) r) o
    here None = refl
    here (Some p) = ap (λ (x : Pool). Some x) (pool_twice k.counts (came parts name) names r p)

    at :
        (b : Bool) (q : ℕ) → nat_eq name q ≡ b
        → cond b
        (option_map (pool_with (live_sets k.counts names) r)
        (option_map (pool_with (live_sets k.counts (came parts name)) (refused name))
        (fresh_or k fs name (pools name))))
        (option_map (pool_with (live_sets k.counts (came parts q)) (refused q)) (fresh_or k fs q (pools q)))
        ≡ option_map (pool_with (live_sets k.counts (came (parts ++ part number name names ∷ []) q)) (or_at r name refused q)) (fresh_or k fs q (pools q))
    at true q h = rw (← eqb-true name q h, or_at_here r name refused not_yet, came_more parts (part number name names) name, eq-eqb name name refl, not_yet) (here (fresh_or k fs name (pools name)))
    at false q h = rw (or_at_apart r name refused q (λ e. eqb-false name q h (sym e)), came_more parts (part number name names) q, h, append-nil (came parts q)) refl

module _ (id n i : ℕ) (refused : ℕ → Bool) (parts : List Part) (old : List Entry) (e f : Entry) (names : List ℕ) (k : Key) (l m : Ledger)
    (apart : IsApart e.pool (drop (suc i) old))
    (tail : drop i old ≡ e ∷ drop (suc i) old)
    (not_yet : refused e.pool ≡ false)
    (a : IsAsked k (rest refused n (drop (suc i) old)) names e f l m) where
  abbrev newer : List Entry
  newer = drop (suc i) old

  abbrev now : ℕ → Bool
  now = or_at a.refused e.pool refused

  abbrev part_now : Part
  part_now = part e.number e.pool names

  -- of the newer pools nothing changes; this one is asked, offers and gives as the device had it
  same : AreSame now refused n newer
  same = all_same a.refused e.pool refused n newer apart

  asked_now : is_asked now n newer e ≡ is_asked refused n newer e
  asked_now = ap (λ m. nat_lt 0 e.available && nat_lt 0 m) same.rest

  offer_now : offer now e ≡ (if a.refused then 0 else e.available)
  offer_now = ap (λ (b : Bool). if b then 0 else e.available) (or_at_here a.refused e.pool refused not_yet)

  share_now : share now n newer e ≡ length names
  share_now = (let o = offer_now in let r = same.rest in let many = a.many in omega arith)

  refusing_now : OnlyAskedRefuse refused n newer → OnlyAskedRefuse now n (e ∷ newer)
  refusing_now was name h = elim (or_cases (a.refused && (name == e.pool)) (refused name) h) [
    | inl here ↦ (
        let both = and_parts a.refused (name == e.pool) here in
        let same : name ≡ e.pool = eqb-true name e.pool both.1 in
        let yes_now : is_asked now n newer e ≡ true = asked_now ∙ a.refusing both.0 in
        or_left _ _ (and_from _ _ (eq-eqb e.pool name (sym same)) yes_now))
    | inr before ↦ or_right _ _ (same.asks name ∙ was name before)
  ]

  -- so the grant after the step: its portions, entries, counts, counters, parts and ledger
  rows_now : portions_of now n (e ∷ newer) ≡ portions_of refused n newer ++ record { number = e.number; pool = e.pool; given = length names } ∷ []
  rows_now = (let r = same.rows in let s = share_now in cc)

  shared_now : all_shared now n (e ∷ newer) ≡ f ∷ all_shared refused n newer
  shared_now = grind (arith, common_steps, newer, now, offer_now, same, share_now)

  count_now : asked_count now n (e ∷ newer) ≡ (if nat_lt 0 e.available && nat_lt 0 (rest refused n newer) then 1 else 0) + asked_count refused n newer
  count_now = λ j. (if asked_now j then 1 else 0) + same.asked j

  refused_now : refused_count now (e ∷ newer) ≡ (if a.refused then 1 else 0) + refused_count refused newer
  refused_now = sum_by-cons (λ (e : Entry). if now e.pool then 1 else 0) e newer ∙ (λ j. (if or_at_here a.refused e.pool refused not_yet j then 1 else 0) + same.count j)

  counters_now : (c : Counters) → l.counters ≡ risen (grant_rise n (so_far id (suc i) refused parts) old) c → m.counters ≡ risen (grant_rise n (so_far id i now (parts ++ part_now ∷ [])) old) c
  counters_now c was = grind (arith, common_steps, count_now, now, refused_now, same_counters)

  parts_now : map portion_of parts ≡ portions_of refused n newer ++ [] → map portion_of (parts ++ part_now ∷ []) ≡ portions_of now n (drop i old) ++ []
  parts_now was = grind (arith, common_steps, append-nil, map-append, newer, now, rows_now)

  entries_now : length (take i old) ≡ i → take (suc i) old ≡ take i old ++ e ∷ [] → slice_set (take (suc i) old ++ all_shared refused n newer ++ []) i f ≡ take i old ++ all_shared now n (drop i old) ++ []
  entries_now long more = grind (arith, common_steps, append-nil, newer, now, set-append_seam, shared_now)

  pools_now : (before : Ledger) → l.pools ≡ ledger_with k (so_far id (suc i) refused parts) before.pools → m.pools ≡ ledger_with k (so_far id i now (parts ++ part_now ∷ [])) before.pools
  pools_now before was = a.pools ∙ ap (on_pool e.pool (pool_with (live_sets k.counts names) a.refused)) was ∙ ledger_more k refused [] parts a.refused e.number e.pool names before.pools id (suc i) i not_yet

  pub taken_more : (before : Ledger) (entries : List Entry) (items given : List Item) → length (take i old) ≡ i → take (suc i) old ≡ take i old ++ e ∷ [] → HasTaken k n (so_far id (suc i) refused parts) items (bucket id old) (bucket id entries) before l
      → items_in k id (parts ++ part_now ∷ []) ≡ given → Adds k given (bucket id old) (bucket id (slice_set entries i f)) before.pools m.pools → HasTaken k n (so_far id i now (parts ++ part_now ∷ [])) given (bucket id old) (bucket id (slice_set entries i f)) before m
  taken_more before entries items given long more was came keeps = record {
    grant = record { id = λ some. refl; refusing = subst (λ (es : List Entry). OnlyAskedRefuse now n es) (sym tail) (refusing_now was.grant.refusing); parts = parts_now was.grant.parts; new = tt };
    came = came;
    bucket = ap (bucket id) (ap (λ (b : Bucket). slice_set b.pools i f) was.bucket ∙ entries_now long more);
    pools = pools_now before was.pools;
    counters = counters_now before.counters was.counters;
    keeps = keeps;
  }

  -- what is still needed falls by what was given
  pub rest_now : rest now n (drop i old) + length names ≡ rest refused n newer
  rest_now = grind (arith, common_steps, newer, now, offer_now, same, sum_by-cons)
