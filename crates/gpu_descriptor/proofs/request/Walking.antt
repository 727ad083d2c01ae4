-- The walk over a key's pools, as far as it has come.
-- For `walk`, by request.OpenWalk. Of n sets, `needed` are still needed; left is how many of the oldest pools weren't asked yet.
-- old and l are the key's entries and the ledger before the walk, new and m those now; items are the sets that came.
use Rattle.gpu_descriptor.proofs.Common.{common_steps, ◌≡◌, ℕ, zero, suc, ◌+◌, ◌<◌, ◌≤◌, List, [], ◌∷◌, ◌++◌, length, map, min, take, drop, slice_set, Bool, false, nat_lt, ◌&&◌, true, Option, None, Some, Err, refl, sym, ap, ◌∙◌, subst, arith, append-nil, drop_all, fun_ext, slice_get, Key, Entry, pool_refusals}
use Rattle.gpu_descriptor.proofs.Common.{Item, Pool, Ledger, DeviceAllocationError, set_at, items_of, Part, items_at, ledger_with, rest, all_shared, IsBookedIn, AreBookedIn, IsAsked, IsRefused, HasTaken, IsWalked, IsTaken, numbers_of, rises, slice_get_within}
use Rattle.gpu_descriptor.specs.declared.bucket.stop.Stop.TheVariants.{ExistingPoolWithoutMemory}
use Rattle.std.proofs.Math.Seq.{take-length}
use Rattle.gpu_descriptor.proofs.table.Exact.{bucket}
use Rattle.gpu_descriptor.proofs.request.Added.{added_asked, added_both, added_none}
use Rattle.gpu_descriptor.proofs.request.Asks.{none_with, same_counters, skipped}
use Rattle.gpu_descriptor.proofs.request.Shares.{IsApart, apart_from, not_refused, or_at}
use Rattle.gpu_descriptor.proofs.request.WalkStep.{items_more, part, so_far, taken_more, rest_now}
use Rattle.gpu_descriptor.proofs.lists.AtPlaces.{drop_at, get_drop, get_some, long_take, set_same, split_at, take_get}

pub record Walking (k : Key) (n id left needed : ℕ) (items : List Item) (old new : List Entry) (l m : Ledger) : Type 0 where
  pub refused : ℕ → Bool
  pub parts : List Part
  pub wants : needed ≡ rest refused n (drop left old)
  pub taken : HasTaken k n (so_far id left refused parts) items (bucket id old) (bucket id new) l m

get_take : {A : Type 0} (xs ys : List A) (i : ℕ) → i < length xs → slice_get (take (suc i) xs ++ ys) i ≡ slice_get xs i
get_take [] ys i h = absurd (omega arith)
get_take (x ∷ xs) ys zero h = refl
get_take (x ∷ xs) ys (suc i) h = get_take xs ys i (omega arith)

module _ (k : Key) (n id i needed : ℕ) (items : List Item) (old new : List Entry) (l m : Ledger) (booked : AreBookedIn k l.pools old) (s : Walking k n id (suc i) needed items old new l m) where
  -- the next pool is as it was in the books, and in the ledger as they say
  pub next_was : i < length old → slice_get new i ≡ slice_get old i
  next_was here = grind (arith, common_steps, append-nil, get_take)

  next_is : (e : Entry) → slice_get old i ≡ Some e → slice_get new i ≡ Some e
  next_is e at = next_was (slice_get_within old i e at) ∙ at

  pub next_booked : (e : Entry) → slice_get old i ≡ Some e → IsBookedIn k m.pools e
  next_booked e at = s.taken.keeps.booked.each i e (next_is e at)

  apart : (e : Entry) → slice_get old i ≡ Some e → IsApart e.pool (drop (suc i) old)
  apart e at = apart_from e.pool (drop (suc i) old) (λ j d there same. (let place = booked.distinct (suc i + j) i d e (sym (get_drop old (suc i) j) ∙ there) at same in absurd (omega arith)))

  -- one step: the next pool was asked
  pub walk_more : (e f : Entry) (more : List ℕ) (m' : Ledger) (needed' : ℕ) → slice_get old i ≡ Some e → IsAsked k needed more e f m m' → needed' + length more ≡ needed → Walking k n id i needed' (items ++ items_at k id e.number more) old (slice_set new i f) l m'
  walk_more e f more m' needed' at asked less =
      let a : IsAsked k (rest s.refused n (drop (suc i) old)) more e f m m' = subst (λ (w : ℕ). IsAsked k w more e f m m') s.wants asked in
      let not_yet = not_refused s.refused n e.pool (drop (suc i) old) (apart e at) s.taken.grant.refusing in
      let tail = drop_at old i e at in
      record {
        refused = or_at a.refused e.pool s.refused;
        parts = s.parts ++ part e.number e.pool more ∷ [];
        wants = (let r = rest_now id n i s.refused s.parts old e f more k m m' (apart e at) tail not_yet a in let w = s.wants in omega arith);
        taken = taken_more id n i s.refused s.parts old e f more k m m' (apart e at) tail not_yet a l new items (items ++ items_at k id e.number more)
            (long_take old i e at) (take_get old i e at) s.taken (items_more k id e.number e.pool more s.parts ∙ ap (λ x. x ++ items_at k id e.number more) s.taken.came)
            (added_both refl s.taken.keeps (added_asked k id new m.pools s.taken.keeps.booked s.taken.keeps.rising i needed e f more m m' (next_is e at) refl asked));
      }

ledger_none : (k : Key) (id left : ℕ) (pools : ℕ → Option Pool) → pools ≡ ledger_with k (so_far id left (λ _. false) []) pools
ledger_none k id left pools = fun_ext (λ q. sym (none_with (pools q)))

-- before the first step, after the last one (`walk_end`), and at a pool that returned a memory error (`walk_stop`)
pub walk_start : (k : Key) (n id : ℕ) (old : List Entry) (l : Ledger) → AreBookedIn k l.pools old → rises (numbers_of old) ≡ true → Walking k n id (length old) n [] old old l l
walk_start k n id old l booked rising =
    let none : drop (length old) old ≡ [] = drop_all (length old) old (omega arith) in
    let none_refuse : ℕ → Bool = λ _. false in
    record {
      refused = none_refuse;
      parts = [];
      wants = rw none (let e : n ≡ rest none_refuse n [] = omega arith in e);
      taken = record {
        grant = record { id = λ some. refl; refusing = λ name h. absurd (cc); parts = rw none refl; new = tt };
        came = refl;
        bucket = ap (bucket id) (sym (ap (λ es. take (length old) old ++ all_shared none_refuse n es ++ []) none ∙ append-nil (take (length old) old ++ []) ∙ append-nil (take (length old) old) ∙ take-length old));
        pools = ledger_none k id (length old) l.pools;
        counters = rw none (same_counters _ _ (omega arith) (omega arith) (omega arith) (omega arith) (omega arith) (omega arith) (omega arith) (omega arith));
        keeps = added_none booked rising;
      };
    }

pub walk_end : {k : Key} {n id own needed : ℕ} {items : List Item} {old new : List Entry} {l m : Ledger} → id ≡ own → Walking k n id 0 needed items old new l m → IsWalked k n needed items (bucket own old) (bucket id new) l m
walk_end ids s = rw (sym ids) (record { grant = so_far _ 0 s.refused s.parts; all = refl; no_fresh = refl; wants = s.wants; taken = s.taken })

pub walk_stop : (k : Key) (room n id i needed : ℕ) (items : List Item) (old new : List Entry) (l m m' : Ledger) (e f : Entry) (error : DeviceAllocationError)
    → Walking k n id (suc i) needed items old new l m → slice_get old i ≡ Some e → slice_get new i ≡ Some e → f ≡ e → nat_lt 0 e.available && nat_lt 0 needed ≡ true → pool_refusals error ≡ 0 → IsRefused (ExistingPoolWithoutMemory error) m m'
    → IsTaken (Err (ExistingPoolWithoutMemory error)) None k room n items (bucket id old) (bucket id (slice_set new i f)) l m'
walk_stop k room n id i needed items old new l m m' e f error s was is same asked memory refused = (
  so_far id (suc i) s.refused s.parts,
  m,
  subst (λ (es : List Entry). HasTaken k n (so_far id (suc i) s.refused s.parts) items (bucket id old) (bucket id es) l m) (sym (ap (slice_set new i) same ∙ set_same new i e is)) s.taken,
  record {
    older = take i old;
    pool = e;
    newer = drop (suc i) old;
    here = split_at old i e was;
    skipped = (let long = long_take old i e was in omega arith);
    no_fresh = refl;
    asked = ap (λ w. nat_lt 0 e.available && nat_lt 0 w) (sym s.wants) ∙ asked;
    memory = memory;
  },
  refused,
)

-- older pools that have nothing, or of which nothing is wanted, are left as they are
pub walk_gap : (k : Key) (n id needed : ℕ) (items : List Item) (old new : List Entry) (l m : Ledger) → AreBookedIn k l.pools old
    → (gap i left : ℕ) → left ≡ gap + i → left ≤ length old → ((j : ℕ) (e : Entry) → i ≤ j → j < left → slice_get new j ≡ Some e → min needed e.available ≡ 0) → Walking k n id left needed items old new l m → Walking k n id i needed items old new l m
walk_gap k n id needed items old new l m booked zero i left is here none s = subst (λ (j : ℕ). Walking k n id j needed items old new l m) (let e : left ≡ i = omega arith in e) s
walk_gap k n id needed items old new l m booked (suc gap) i left is here none s =
    let one : left ≡ suc (gap + i) = omega arith in
    let at = get_some old (gap + i) (omega arith) in
    let e : Entry = at.0 in
    let from : Walking k n id (suc (gap + i)) needed items old new l m = subst (λ (j : ℕ). Walking k n id j needed items old new l m) one s in
    let there : slice_get new (gap + i) ≡ Some e = next_was k n id (gap + i) needed items old new l m booked from (omega arith) ∙ at.1 in
    let nothing = none (gap + i) e (omega arith) (omega arith) there in
    let next : Walking k n id (gap + i) needed (items ++ []) old (slice_set new (gap + i) e) l m = walk_more k n id (gap + i) needed items old new l m booked from e e [] m needed at.1 (skipped k needed e m nothing) (omega arith) in
    walk_gap k n id needed items old new l m booked gap i (gap + i) refl (omega arith) (λ j d le lt there. none j d le (omega arith) there)
    (rw (append-nil items, set_same new (gap + i) e there) at next)

-- sets of one pool, as the books see them
pub items_of-sets_at : {S : Type 0} (name : S → ℕ) (k : Key) (id number : ℕ) (raws : List S) → items_of name (map (set_at k id number) raws) ≡ items_at k id number (map name raws)
items_of-sets_at name k id number [] = refl
items_of-sets_at name k id number (raw ∷ raws) = ap (λ rest. record { key = k; id = id; number = number; name = name raw } ∷ rest) (items_of-sets_at name k id number raws)
