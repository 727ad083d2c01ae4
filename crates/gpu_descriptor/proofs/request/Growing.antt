-- The new pools of a request, as far as it has come.
-- For `take`: Growing is the invariant of its loop, from after the walk (`grow_start`) to the end or a stop.
-- `_more`: with one new pool more at the end. `_now`: with the new pool f, named q, which gave the sets more; m' is the ledger then.
use Rattle.gpu_descriptor.proofs.Common.{common_steps, ◌≡◌, ℕ, take, drop, ◌+◌, ◌-◌, ◌<◌, List, [], ◌∷◌, ◌++◌, length, map, Bool, true, false, cond, ◌==◌, nat_eq, Option, Some, None, Ok, Err, refl, sym, ap, ◌∙◌, subst, arith, eqb-true, eq-eqb, fun_ext, nil_from_length, eqb-false, pools_load}
use Rattle.gpu_descriptor.proofs.Common.{map-append, sum_by-cons, sum_by-append, list_any, update, if◌then◌else◌, option_map, Item, flags_of, Key, Entry, Bucket, Pool, Ledger, live_sets, on_pool, or_from, or_parts, pool_counts, Stop, list_any-append, Fresh, fresh_portions}
use Rattle.gpu_descriptor.proofs.Common.{fresh_entries, fresh_entry, number_after, numbers_of, given_by, IsNextSize, room_after, AreSized, AllByRecursion, AreNew, IsFreshPrefix, IsFreshList, Grant, Part, items_at, portion_of, came, pool_with, ledger_with, fresh_or, IsGrown, IsTaken, IsRefused}
use Rattle.gpu_descriptor.proofs.Common.{allocated_in, pool_descriptors, risen, grant_rise, StopsAtNew, StopsAt, rest, all_shared, portions_of, Adds, AreBookedIn, HasTaken, IsWalked}
use Rattle.gpu_descriptor.specs.declared.bucket.stop.Stop.TheVariants as stop
use Rattle.gpu_descriptor_types.specs.Ledger as ledgers
use Rattle.gpu_descriptor.specs.Model.FreshPools as grants
use Rattle.gpu_descriptor.proofs.request.FreshNumbers.{fresh_entries_more, next_taken}
use Rattle.gpu_descriptor.proofs.request.NextSize.{room_more}
use Rattle.gpu_descriptor.proofs.table.Exact.{bucket}
use Rattle.gpu_descriptor.proofs.request.Added.{added_both, added_grown}
use Rattle.gpu_descriptor.proofs.request.Asks.{none_with, same_counters}
use Rattle.gpu_descriptor.proofs.request.Shares.{IsApart, apart_from, not_refused}
use Rattle.gpu_descriptor.proofs.request.WalkStep.{grant_of, items_more, ledger_more, part}
use Rattle.gpu_descriptor.proofs.request.TakenPlaces.{came_long, fresh_or_past, given_at, no_fresh, no_share}

-- what was taken of all existing pools and of these new ones
abbrev pub all_so_far : ℕ → (ℕ → Bool) → List Fresh → List Part → Grant
all_so_far id refused fresh parts = grant_of id 0 refused fresh parts

-- old and l are the key's entries and the ledger at first, new and m those now; of the room start, room is left
pub record Growing (bound : Option ℕ) (k : Key) (start n id room total needed : ℕ) (items : List Item) (old new : List Entry) (l m : Ledger) : Type 0 where
  pub refused : ℕ → Bool
  pub parts : List Part
  pub fresh : List Fresh
  pub totals : total ≡ allocated_in (all_shared refused n old) + given_by fresh
  pub wants : needed + given_by fresh ≡ rest refused n old
  pub sized : AreSized bound k start (allocated_in (all_shared refused n old)) (rest refused n old) fresh
  pub room_now : room ≡ room_after k start fresh
  -- as long as sets are needed each new pool gave all that it has, and once none is they are a whole fresh list
  pub full : 0 < needed → AllByRecursion (λ (f : Fresh). f.given ≡ f.size) fresh
  pub list : needed ≡ 0 → IsFreshList bound k start (allocated_in (all_shared refused n old)) (rest refused n old) fresh
  pub taken : HasTaken k n (all_so_far id refused fresh parts) items (bucket id old) (bucket id new) l m

-- the number of live sets rises by what was given
pub allocated_shared : (refused : ℕ → Bool) (n : ℕ) (es : List Entry) → allocated_in (all_shared refused n es) + rest refused n es ≡ allocated_in es + n
allocated_shared refused n [] = omega arith
allocated_shared refused n (e ∷ newer) = grind (arith, common_steps, sum_by-cons, (allocated_shared refused n newer))

-- no pool of the name among the new ones, and none in the ledger
fresh_or_none : (f : Pool → Pool) (k : Key) (q : ℕ) (fs : List Fresh) (o : Option Pool) → option_map f (fresh_or k fs q o) ≡ None → (list_any (λ h. h.pool == q) fs ≡ false) × (o ≡ None)
fresh_or_none f k q [] None e = (refl, refl)
fresh_or_none f k q [] (Some p) e = absurd (cc)
fresh_or_none f k q (h ∷ fs) o e = grind (arith, common_steps, or_from, (fresh_or_none f k q fs o))

-- one new pool more: in the ledger, in the portions, among the new names, in the sum, in the sizes, and all full
fresh_or_more : (k : Key) (q : ℕ) (fs : List Fresh) (f : Fresh) (o : Option Pool) → fresh_or k (fs ++ f ∷ []) q o ≡ fresh_or k fs q (fresh_or k (f ∷ []) q o)
fresh_or_more k q [] f o = refl
fresh_or_more k q (h ∷ fs) f o = ap (λ (x : Option Pool). if h.pool == q then Some (ledgers.fresh (pool_counts k.counts h.size) h.size (flags_of k)) else x) (fresh_or_more k q fs f o)

fresh_rows_more : (number : ℕ) (fs : List Fresh) (f : Fresh) → fresh_portions number (fs ++ f ∷ []) ≡ fresh_portions number fs ++ record { number = number + length fs; pool = f.pool; given = f.given } ∷ []
fresh_rows_more number [] f = (let e : number ≡ number + 0 = omega arith in λ i. record { number = e i; pool = f.pool; given = f.given } ∷ [])
fresh_rows_more number (h ∷ fs) f = grind (arith, common_steps, (fresh_rows_more (number + 1) fs f))

new_more : (pools : ℕ → Option Pool) (fs : List Fresh) (f : Fresh) → AreNew pools fs → list_any (λ h. h.pool == f.pool) fs ≡ false → pools f.pool ≡ None → AreNew pools (fs ++ f ∷ [])
new_more pools [] f new none at = (at, refl, tt)
new_more pools (h ∷ fs) f new none at = grind (arith, common_steps, eqb-false, list_any-append, or_parts, (new_more pools fs f new.2))

given_more : (fs : List Fresh) (f : Fresh) → given_by (fs ++ f ∷ []) ≡ given_by fs + f.given
given_more fs f = sum_by-append (λ (f : Fresh). f.given) fs (f ∷ []) ∙ (let one : given_by (f ∷ []) ≡ f.given = omega arith in omega arith)

sized_more :
    (bound : Option ℕ) (k : Key) (room t w : ℕ) (fs : List Fresh) (f : Fresh) (left total wanted : ℕ)
    → AreSized bound k room t w fs → left ≡ room_after k room fs → total ≡ t + given_by fs → wanted ≡ w - given_by fs
    → IsNextSize bound k left total wanted f.size → AreSized bound k room t w (fs ++ f ∷ [])
sized_more bound k room t w [] f left total wanted all room_is total_is wanted_is one =
    let a : total ≡ t = omega arith in
    let b : wanted ≡ w = omega arith in
    (rw (room_is, a, b) at one, tt)
sized_more bound k room t w (h ∷ fs) f left total wanted all room_is total_is wanted_is one = grind (arith, common_steps, (sized_more bound k (room - pool_descriptors k h.size) (t + h.given) (w - h.given) fs f left total wanted all.1))

full_more : (fs : List Fresh) (f : Fresh) → AllByRecursion (λ (f : Fresh). f.given ≡ f.size) fs → f.given ≡ f.size → AllByRecursion (λ (f : Fresh). f.given ≡ f.size) (fs ++ f ∷ [])
full_more [] f all one = (one, tt)
full_more (h ∷ fs) f all one = (all.0, full_more fs f all.1 one)

module _ {bound : Option ℕ} {k : Key} {start n id room left total needed : ℕ} {items : List Item} {old new new' : List Entry} {l m m' : Ledger} {more : List ℕ}
    (booked : AreBookedIn k l.pools old) (s : Growing bound k start n id room total needed items old new l m) (a : IsGrown bound k room left total needed more new new' m m') where
  -- the pool and its name, the new pools with it, the number of the first, the part that came, and all parts
  abbrev f : Fresh
  f = a.pool

  abbrev q : ℕ
  q = a.pool.pool

  abbrev fresh_now : List Fresh
  fresh_now = s.fresh ++ f ∷ []

  abbrev next : ℕ
  next = number_after (numbers_of old)

  abbrev part_now : Part
  part_now = part (next + length s.fresh) q more

  abbrev parts_now : List Part
  parts_now = s.parts ++ part_now ∷ []

  -- no new pool before had the name, nor a pool that was live, nor one of the key's: so none refused or gave under it
  none_before : (list_any (λ h. h.pool == q) s.fresh ≡ false) × (l.pools q ≡ None)
  none_before = fresh_or_none (pool_with (live_sets k.counts (came s.parts q)) (s.refused q)) k q s.fresh (l.pools q) (ap (λ (x : ℕ → Option Pool). x q) (sym s.taken.pools) ∙ a.is_new)

  apart : IsApart q old
  apart = apart_from q old (λ j e at same. (let b = booked.each j e at in let none = none_before.1 in let is : l.pools q ≡ Some b.0 = ap l.pools (sym same) ∙ b.1 in let bad : ◌≡◌ {A = Option Pool} None (Some b.0) = sym none ∙ is in absurd (cc)))

  not_yet : s.refused q ≡ false
  not_yet = not_refused s.refused n q old apart s.taken.grant.refusing

  none_came : came s.parts q ≡ []
  none_came =
      let many = came_long q s.parts ∙ ap (given_at q) s.taken.grant.parts ∙ sum_by-append _ (portions_of s.refused n old) (fresh_portions (next) s.fresh) in
      let old_none = no_share s.refused n q old apart in
      let fresh_none = no_fresh q (next) s.fresh none_before.0 in
      nil_from_length (came s.parts q) (omega arith)

  many : length more ≡ f.given
  many = a.many

  abbrev made : Pool
  made = ledgers.fresh (pool_counts k.counts f.size) f.size (flags_of k)

  -- what the grant says with this pool: the ledger, portions, numbers, entries, counters and sizes
  pools_now : m'.pools ≡ ledger_with k (all_so_far id s.refused fresh_now parts_now) l.pools
  pools_now = a.pools ∙ ap (on_pool q (pool_with (live_sets k.counts more) false)) (ap (λ x. update nat_eq x q (Some made)) s.taken.pools ∙ fun_ext (λ r. at (nat_eq q r) r refl)) ∙ ledger_more k s.refused fresh_now s.parts false (next + length s.fresh) q more l.pools id 0 0 not_yet
    where
      at : (b : Bool) (r : ℕ) → nat_eq q r ≡ b → cond b (Some made) (ledger_with k (all_so_far id s.refused s.fresh s.parts) l.pools r) ≡ ledger_with k (all_so_far id s.refused fresh_now s.parts) l.pools r
      at true r h = rw (← eqb-true q r h, none_came, not_yet, fresh_or_more k q s.fresh f (l.pools q), fresh_or_past k q s.fresh (fresh_or k (f ∷ []) q (l.pools q)) none_before.0, eq-eqb q q refl) (sym (none_with (Some made)))
      at false r h = rw (fresh_or_more k r s.fresh f (l.pools r), h) refl

  rows_now : map portion_of parts_now ≡ portions_of s.refused n old ++ fresh_portions (next) fresh_now
  rows_now = grind (arith, common_steps, fresh_rows_more, many, map-append)

  number_is : number_after (numbers_of new) ≡ next + length s.fresh
  number_is = next_taken k n _ _ _ _ _ _ s.taken

  entries_now : new' ≡ take (all_so_far id s.refused fresh_now parts_now).skipped old ++ all_shared (all_so_far id s.refused fresh_now parts_now).refused n (drop (all_so_far id s.refused fresh_now parts_now).skipped old) ++ fresh_entries next (all_so_far id s.refused fresh_now parts_now).fresh
  entries_now = grind (arith, common_steps, fresh_entries_more, number_is)

  counters_now : m'.counters ≡ risen (grant_rise n (all_so_far id s.refused fresh_now parts_now) old) l.counters
  counters_now = grind (arith, common_steps, same_counters)

  sized_now : AreSized bound k start (allocated_in (all_shared s.refused n old)) (rest s.refused n old) fresh_now
  sized_now = (let w = s.wants in sized_more bound k start _ _ s.fresh f room total needed s.sized s.room_now s.totals (omega arith) a.size)

  -- one turn of the loop: the new pool gave all that was needed, or all that it has
  pub grow_more : {total' needed' number : ℕ} {put : List Item} → 0 < needed → total' ≡ total + length more → needed' + length more ≡ needed → number ≡ number_after (numbers_of new) → put ≡ items ++ items_at k id number more → Growing bound k start n id left total' needed' put old new' l m'
  grow_more some totals' less named put_is =
      let all = given_more s.fresh f in
      let g = a.given in
      let place : next + length s.fresh ≡ _ = sym (named ∙ number_is) in
      record {
        refused = s.refused;
        parts = parts_now;
        fresh = fresh_now;
        totals = (let t = s.totals in let y = many in omega arith);
        wants = (let w = s.wants in let y = many in omega arith);
        sized = sized_now;
        room_now = (let r = s.room_now in let more = room_more k start s.fresh f in let less = a.less in omega arith);
        full = λ still. full_more s.fresh f (s.full some) (let y = many in omega arith);
        list = λ none. grants.some s.fresh f refl (record { sized = s.sized; full = s.full some; short = (let w = s.wants in omega arith) }) sized_now (omega arith) (let w = s.wants in let y = many in omega arith);
        taken = record {
          grant = record { id = λ some. refl; refusing = s.taken.grant.refusing; parts = rows_now; new = new_more l.pools s.fresh f s.taken.grant.new none_before.0 none_before.1 };
          came = items_more k id (next + length s.fresh) q more s.parts ∙ (λ j. s.taken.came j ++ items_at k id (place j) more) ∙ sym put_is;
          bucket = ap (bucket id) entries_now;
          pools = pools_now;
          counters = counters_now;
          keeps = subst (λ (xs : List Item). Adds k xs (bucket id old) (bucket id new') l.pools m'.pools) (sym (put_is ∙ ap (λ (i : ℕ). items ++ items_at k id i more) named)) (added_both refl s.taken.keeps (added_grown k id new m.pools s.taken.keeps.booked s.taken.keeps.rising bound room left total needed more new' m m' refl a));
        };
      }

-- after the walk, before the first new pool
pub grow_start : {bound : Option ℕ} {k : Key} {start n id own total needed : ℕ} {items : List Item} {old new : List Entry} {l m : Ledger}
    → IsWalked k n needed items (bucket id old) (bucket own new) l m → own ≡ id → total + needed ≡ allocated_in old + n → Growing bound k start n id start total needed items old new l m
grow_start {bound} {k} {n = n} {id = id} {items = items} {old = old} {new = new} {l = l} {m = m} walked ids totals =
    let w : IsWalked k n _ items (bucket id old) (bucket id new) l m = rw (ids) at walked in
    let g = w.grant in
    let wants = w.wants in
    let named : id ≡ g.id = ap (λ (b : Bucket). b.id) w.taken.bucket in
    let grant : g ≡ all_so_far id g.refused [] g.parts = (λ i. record { id = sym named i; skipped = w.all i; refused = g.refused; fresh = w.no_fresh i; parts = g.parts }) in
    let none : given_by [] ≡ 0 = omega arith in
    record {
      refused = g.refused;
      parts = g.parts;
      fresh = [];
      totals = (let h = allocated_shared g.refused n old in omega arith);
      wants = omega arith;
      sized = tt;
      room_now = refl;
      full = λ some. tt;
      list = λ over. grants.none (omega arith) refl;
      taken = subst (λ (g : Grant). HasTaken k n g items (bucket id old) (bucket id new) l m) grant w.taken;
    }

-- the loop ends with no set needed, and all was taken; or it stops before (`grow_stop`), and so much was
pub grow_end : {bound : Option ℕ} {k : Key} {start n id own room total needed : ℕ} {items : List Item} {old new : List Entry} {l m : Ledger}
    → Growing bound k start n id room total needed items old new l m → needed ≡ 0 → own ≡ id → (done : Unit {0}) → IsTaken (Ok done) bound k start n items (bucket id old) (bucket own new) l m
grow_end s end ids done = rw (ids) (all_so_far _ s.refused s.fresh s.parts, s.taken, refl, s.list end)

pub grow_stop : (why : Stop) {bound : Option ℕ} {k : Key} {start n id own room total needed : ℕ} {items put : List Item} {old new newer : List Entry} {l m m' : Ledger}
    → 0 < needed → Growing bound k start n id room total needed items old new l m → put ≡ items → newer ≡ new → own ≡ id → IsRefused why m m' → StopsAtNew why k room → IsTaken (Err why) bound k start n put (bucket id old) (bucket own newer) l m'
grow_stop why {bound} {k} {start} {n} {id} {old = old} {m = m} some s same_sets same_pools ids refused in_room = rw (same_sets, same_pools, ids) (
  all_so_far _ s.refused s.fresh s.parts,
  m,
  s.taken,
  stops_at why (record { sized = s.sized; full = s.full some; short = (let w = s.wants in omega arith) }) (subst (StopsAtNew why k) s.room_now in_room),
  refused,
)
  where
    stops_at : (why : Stop) → IsFreshPrefix bound k start (allocated_in (all_shared s.refused n old)) (rest s.refused n old) s.fresh → StopsAtNew why k (room_after k start s.fresh) → StopsAt why bound k start n (all_so_far id s.refused s.fresh s.parts) old
    stops_at (stop.ExistingPoolWithoutMemory e) front none = absurd none
    stops_at why front none = (refl, front, none)

-- a new pool adds its descriptors to those of the key's pools
pub load_more : (k : Key) (number : ℕ) (es : List Entry) (f : Fresh) → pools_load k (es ++ fresh_entry number f ∷ []) ≡ pools_load k es + pool_descriptors k f.size
load_more k number es f = sum_by-append (λ (e : Entry). pool_descriptors k e.capacity) es (fresh_entry number f ∷ []) ∙ (let one : pools_load k (fresh_entry number f ∷ []) ≡ pool_descriptors k f.size = omega arith in omega arith)
