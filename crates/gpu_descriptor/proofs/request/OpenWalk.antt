-- The walk over the open pools: the pools between them have nothing to give.
-- For `ask_newest`: front is the list of open pools without its last, ordinal, and place is where that one's pool is; p is the pool
-- before it is asked, and q after. For `take_from_existing`: OpenWalk is the invariant of its loop.
use Rattle.gpu_descriptor.proofs.Common.{common_steps, ◌≡◌, ℕ, suc, ◌+◌, ◌-◌, ◌<◌, ◌≤◌, List, [], ◌∷◌, ◌++◌, length, min, slice_set, None, Some, Err, refl, sym, ap, ◌∙◌, arith, inl, inr, map, length-map, map-set, length-set, slice_get-map, slice_get_within, lt-ltb, cases_lt, slice_get, option_map, pool_refusals, and_from}
use Rattle.gpu_descriptor.proofs.Common.{Ledger, Counters, DescriptorPool, DescriptorBucket, Item, Key, Entry, DeviceAllocationError, AreBookedIn, AsksNewest, bucket_of, first_ordinal, free_in, open_ordinals, entry_of, IsAsked, IsRefused, IsTaken, items_at, rises, numbers_of}
use Rattle.gpu_descriptor.specs.declared.bucket.stop.Stop.TheVariants.{ExistingPoolWithoutMemory}
use Rattle.gpu_descriptor.proofs.table.Exact.{bucket}
use Rattle.gpu_descriptor.proofs.lists.OpenList.{listed_asked}
use Rattle.gpu_descriptor.proofs.lists.OpenOrdinals.{IsNewestOpen, newest_open, open_all_none}
use Rattle.gpu_descriptor.proofs.lists.Ordinals.{first_stays}
use Rattle.gpu_descriptor.proofs.request.Walking.{Walking, walk_gap, walk_start, walk_more, walk_stop, next_was}
use Rattle.gpu_descriptor.proofs.lists.AtPlaces.{set_got}
use Rattle.gpu_descriptor.proofs.release.StoredNumbers.{numbers_set, numbers_stored}
use Rattle.std.proofs.lemmas.Simd.{map-map}

-- the pool of the last ordinal is the newest open one
module _ {P : Type 0} (b : DescriptorBucket P) (front : List ℕ) (ordinal place : ℕ) (last : b.listed.ordinals.items ≡ front ++ ordinal ∷ []) (is : place ≡ ordinal - first_ordinal b.pools.items) where
  abbrev items : List (DescriptorPool P)
  items = b.pools.items

  abbrev first : ℕ
  first = first_ordinal b.pools.items

  newest : IsNewestOpen first (free_in items) front ordinal
  newest = newest_open first (free_in items) front ordinal (sym b.«open» ∙ last)

  pub from_first : first ≤ ordinal
  from_first = (let e = newest.is in omega arith)

  place_is : newest.place ≡ place
  place_is = (let e = newest.is in omega arith)

  pub inside : place < length items
  inside = (let a = slice_get_within (free_in items) newest.place newest.free newest.at in let c = length-map items (λ p. p.available) in let d = place_is in omega arith)

  pub newer : (i n : ℕ) → place < i → slice_get (free_in items) i ≡ Some n → n ≡ 0
  newer i n lt there = newest.newer i n (let same = place_is in omega arith) there

  module _ (p : DescriptorPool P) (at : slice_get b.pools.items place ≡ Some p) where
    pub has_free : 0 < p.available
    has_free = (let a = slice_get-map (λ p. p.available) items place ∙ ap (option_map (λ p. p.available)) at in grind (arith, common_steps, newest, place_is))

    module _ (q : DescriptorPool P) (number : q.number ≡ p.number) where
      pub numbers_now : numbers_of (slice_set items place q) ≡ numbers_of items
      numbers_now = numbers_set items place p q at number

      pub first_now : first_ordinal (slice_set items place q) ≡ first
      first_now = first_stays items (slice_set items place q) numbers_now

      -- the list lacks the pool's ordinal if it has no known free place left, and else is as it was
      pub listed_now : (numbers : List ℕ) → (q.available ≡ 0 → numbers ≡ front) → (0 < q.available → numbers ≡ b.listed.ordinals.items) → numbers ≡ open_ordinals (first_ordinal (slice_set items place q)) (free_in (slice_set items place q))
      listed_now numbers closed stays = rw first_now (listed_asked first items b.listed.ordinals.items b.«open» front ordinal newest p q (ap (slice_get items) place_is ∙ at) numbers closed stays ∙ ap (λ (i : ℕ). open_ordinals first (free_in (slice_set items i q))) place_is)

      abbrev pub asks_newest : {new : DescriptorBucket P} → new.pools.items ≡ slice_set items place q → q.capacity ≡ p.capacity → new.id ≡ b.id → new.may_have_empty ≡ b.may_have_empty → AsksNewest b new
      asks_newest pools capacity id flag = record { place = place; was = p; is = q; at = at; has_free = has_free; newer = newer; pools = pools; number = number; capacity = capacity; id = id; flag = flag }

-- so far the pools from a place on were asked as far as they had something
pub record OpenWalk {P : Type 0} (name : P → ℕ) (k : Key) (n needed : ℕ) (out : List Item) (old : List Entry) (b : DescriptorBucket P) (l m : Ledger) : Type 0 where
  pub long : length b.pools.items ≡ length old
  pub left : ℕ
  pub within : left ≤ length old
  -- the pools from there on have nothing, or nothing is needed
  pub closed : (j : ℕ) (e : Entry) → left ≤ j → slice_get (map (entry_of name) b.pools.items) j ≡ Some e → min needed e.available ≡ 0
  pub walking : Walking k n b.id left needed out old (map (entry_of name) b.pools.items) l m

module _ {P : Type 0} {name : P → ℕ} {k : Key} {n needed : ℕ} {out : List Item} {old : List Entry} {b : DescriptorBucket P} {l m : Ledger} (booked : AreBookedIn k l.pools old) (s : OpenWalk name k n needed out old b l m) where
  abbrev entries : List Entry
  entries = map (entry_of name) b.pools.items

  free_get : (j : ℕ) (e : Entry) → slice_get entries j ≡ Some e → slice_get (free_in b.pools.items) j ≡ Some e.available
  free_get j e at = ap (λ (free : List ℕ). slice_get free j) (sym (map-map (λ (d : Entry). d.available) (entry_of name) b.pools.items)) ∙ slice_get-map (λ (d : Entry). d.available) entries j ∙ ap (option_map (λ (d : Entry). d.available)) at

  -- where nothing is needed the older pools are left
  pub walk_sated : needed ≡ 0 → Walking k n b.id 0 needed out old entries l m
  walk_sated none = walk_gap k n b.id needed out old entries l m booked s.left 0 s.left (omega arith) s.within (λ j e le lt at. omega arith) s.walking

  -- where no pool is open they have nothing
  pub walk_empty : b.listed.ordinals.items ≡ [] → Walking k n b.id 0 needed out old entries l m
  walk_empty none = walk_gap k n b.id needed out old entries l m booked s.left 0 s.left (omega arith) s.within (λ j e le lt at. (let z = open_all_none (first_ordinal b.pools.items) (free_in b.pools.items) (sym b.«open» ∙ none) j e.available (free_get j e at) in omega arith)) s.walking

  -- the newest open pool is asked
  module _ (some : 0 < needed) {new : DescriptorBucket P} (a : AsksNewest b new) where
    entry_at_place : slice_get entries a.place ≡ Some (entry_of name a.was)
    entry_at_place = slice_get-map (entry_of name) b.pools.items a.place ∙ ap (option_map (entry_of name)) a.at

    -- the walk passes the pools after it, which have nothing, and comes to it
    walk_reaches : Walking k n b.id (suc a.place) needed out old entries l m
    walk_reaches =
        let to : suc a.place ≤ s.left = elim (cases_lt a.place s.left) [ inl lt ↦ omega arith | inr le ↦ (let none = s.closed a.place (entry_of name a.was) le entry_at_place in let free = a.has_free in absurd (omega arith)) ] in
        walk_gap k n b.id needed out old entries l m booked (s.left - suc a.place) (suc a.place) s.left (omega arith) s.within (λ j e le lt there. (let z = a.newer j e.available (omega arith) (free_get j e there) in omega arith)) s.walking

    within_old : a.place < length old
    within_old = (let here = slice_get_within b.pools.items a.place a.was a.at in let long = s.long in omega arith)

    was : slice_get old a.place ≡ Some (entry_of name a.was)
    was = sym (next_was k n b.id a.place needed out old entries l m booked walk_reaches within_old) ∙ entry_at_place

    -- one look for one pool that was asked
    pub one_asked : {names : List ℕ} {m' : Ledger} → IsAsked k needed names (entry_of name a.was) (entry_of name a.is) m m' → m'.counters.asked ≡ m.counters.asked + 1
    one_asked asked = ap (λ (x : Counters). x.asked) asked.counters ∙ rw (lt-ltb 0 a.was.available a.has_free, lt-ltb 0 needed some) refl

    -- one turn of the loop: the pool gave, or refused as fragmented or full. On an error of memory the walk stops
    pub open_walk_more : {put : List Item} {needed' : ℕ} {names : List ℕ} {m' : Ledger} → put ≡ out ++ items_at k b.id a.was.number names
        → IsAsked k needed names (entry_of name a.was) (entry_of name a.is) m m' → needed' + length names ≡ needed → OpenWalk name k n needed' put old new l m'
    open_walk_more {put} {needed'} {names} {m'} put_is asked less = record {
      long = ap length a.pools ∙ length-set b.pools.items a.place a.is ∙ s.long;
      left = a.place;
      within = (let here = within_old in omega arith);
      closed = rw a.pools (λ j e le there. grind (arith, common_steps, free_get, map-set, a.newer, set_got));
      walking = rw (put_is, a.id, a.pools, map-set (entry_of name) b.pools.items a.place a.is) (walk_more k n b.id a.place needed out old entries l m booked walk_reaches (entry_of name a.was) (entry_of name a.is) names m' needed' was asked less);
    }

    pub open_walk_stop : {own : ℕ} {error : DeviceAllocationError} {m' : Ledger} → b.id ≡ own → entry_of name a.is ≡ entry_of name a.was → pool_refusals error ≡ 0 → IsRefused (ExistingPoolWithoutMemory error) m m' → IsTaken (Err (ExistingPoolWithoutMemory error)) None k 0 n out (bucket own old) (bucket_of name new) l m'
    open_walk_stop {own} {error} {m'} ids same memory refused = rw (sym ids, a.id, a.pools, map-set (entry_of name) b.pools.items a.place a.is) (walk_stop k 0 n b.id a.place needed out old entries l m m' (entry_of name a.was) (entry_of name a.is) error walk_reaches was entry_at_place same (and_from _ _ (lt-ltb 0 a.was.available a.has_free) (lt-ltb 0 needed some)) memory refused)

pub open_walk_start : {P : Type 0} (name : P → ℕ) (k : Key) (n : ℕ) (b : DescriptorBucket P) (l : Ledger) → AreBookedIn k l.pools (map (entry_of name) b.pools.items) → OpenWalk name k n n [] (map (entry_of name) b.pools.items) b l l
open_walk_start name k n b l booked = record {
  long = sym (length-map b.pools.items (entry_of name));
  left = length (map (entry_of name) b.pools.items);
  within = omega arith;
  closed = λ j e le at. (let a = slice_get_within (map (entry_of name) b.pools.items) j e at in absurd (omega arith));
  walking = walk_start k n b.id (map (entry_of name) b.pools.items) l booked (ap rises (numbers_stored name b.pools.items) ∙ b.rising);
}
