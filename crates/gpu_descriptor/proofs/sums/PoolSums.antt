-- Over all pools of marked keys: the pool load is what the device created them with, and the marked load is no more.
use Rattle.gpu_descriptor.proofs.Common.{◌≡◌, ℕ, suc, ◌<◌, ◌≤◌, true, false, List, [], ◌∷◌, length, slice_get, sum, sum_by, Option, Some, inl, inr, refl, ap, ◌∙◌, arith, ◌↔◌, option_map_or, cases_Bool, sum_by-cons, Pool, State, Agree, Key, Entry, Bucket, books_of, HasDistinctKeys, sum_over, pools_load}
use Rattle.gpu_descriptor.proofs.Common.{AddsUp, common_steps, IsBookedIn, allocated_in, set_descriptors, pool_descriptors, bucket_load, descriptors_out, descriptors_created}
use Rattle.gpu_descriptor.proofs.request.StateAgrees.{booked_of}
use Rattle.gpu_descriptor.proofs.sums.Loads.{set_descriptors-none, set_descriptors-add, set_descriptors-le}
use Rattle.gpu_descriptor.proofs.sums.PoolCounts.{booked_load}
use Rattle.std.specs.Prelude.{◌+◌, if◌then◌else◌}
use Rattle.gpu_descriptor.proofs.Common.{key_eq, no_pools}
use Rattle.gpu_descriptor.proofs.table.Exact.{key_exact}
use Rattle.gpu_descriptor.specs.Caller.Certain.{free_places}
use Rattle.gpu_descriptor.proofs.table.Tables.{sum_more, sum_over_below, sum_by_books}

-- each of these entries is in the ledger as the books say
abbrev AllBooked : Key → (ℕ → Option Pool) → List Entry → Type 0
AllBooked k ledger es = (i : ℕ) (e : Entry) → slice_get es i ≡ Some e → IsBookedIn k ledger e

-- ---- a marked key's pools

created_entry : (k : Key) (ledger : ℕ → Option Pool) (e : Entry) → length k.counts ≡ 14 → k.marked ≡ true → IsBookedIn k ledger e → option_map_or (λ p. sum p.counts) (ledger e.pool) 0 ≡ pool_descriptors k e.capacity
created_entry k ledger e long marked own = ap (λ (o : Option Pool). option_map_or (λ (p : Pool). sum p.counts) o 0) own.1 ∙ booked_load k own.0 e long marked own.2

created_entries : (k : Key) (ledger : ℕ → Option Pool) (es : List Entry) → length k.counts ≡ 14 → k.marked ≡ true → AllBooked k ledger es → sum_by (λ e. option_map_or (λ p. sum p.counts) (ledger e.pool) 0) es ≡ pools_load k es
created_entries k ledger [] long marked booked = refl
created_entries k ledger (e ∷ es) long marked booked =
    let first = created_entry k ledger e long marked (booked 0 e refl) in
    let rest = created_entries k ledger es long marked (λ i. booked (suc i)) in
    grind (arith, common_steps, sum_by-cons)

-- a plain key's pools count nothing
plain_entries : (k : Key) (es : List Entry) → k.marked ≡ false → pools_load k es ≡ 0
plain_entries k [] plain = refl
plain_entries k (e ∷ es) plain = grind (arith, (plain_entries k es plain))

-- ---- the live sets of a key's pools

-- so many sets have no more descriptors than a pool of them
out_of_entry : (k : Key) (n : ℕ) → set_descriptors k n ≤ pool_descriptors k n
out_of_entry k n = elim (cases_Bool k.marked) [ inl on ↦ rw on (omega arith) | inr off ↦ rw off (omega arith) ]

-- and neither have those that are live with those that known free places have room for
places_of_entries : (k : Key) (ledger : ℕ → Option Pool) (es : List Entry) → AllBooked k ledger es → set_descriptors k (allocated_in es) + set_descriptors k (sum_by (λ e. e.available) es) ≤ pools_load k es
places_of_entries k ledger [] booked = (let none = set_descriptors-none k in omega arith)
places_of_entries k ledger (e ∷ es) booked =
    let own = (booked 0 e refl).2 in
    let first = set_descriptors-le k (e.allocated + e.available) e.capacity (let fits = own.fits in let capacity = own.capacity in omega arith) in
    let rest = places_of_entries k ledger es (λ i. booked (suc i)) in
    grind (arith, common_steps, set_descriptors-add, out_of_entry, sum_by-cons)

-- ---- all keys

module _ (s : State) (agree : Agree s) where
  booked : (k : Key) → AllBooked k s.ledger (s.books k).pools
  booked k = (booked_of s k agree).each

  created_at : (k : Key) → (0 < length (s.books k).pools → length k.counts ≡ 14) → descriptors_created s.ledger k (s.books k) ≡ bucket_load k (s.books k)
  created_at k long = grind (arith, common_steps, booked, created_entries, plain_entries)

  out_at : (k : Key) → descriptors_out k (s.books k) ≤ bucket_load k (s.books k)
  out_at k = (let all = places_of_entries k s.ledger (s.books k).pools (booked k) in omega arith)

  module _ (table : List (Key × Bucket)) (distinct : HasDistinctKeys table) (keeps : (k : Key) → books_of table k ≡ s.books k) where
    created_over : ((k : Key) → 0 < length (s.books k).pools → length k.counts ≡ 14) → sum_over (descriptors_created s.ledger) table ≡ sum_over bucket_load table
    created_over long = grind (arith, created_at, sum_over_below)

    out_over : sum_over descriptors_out table ≤ sum_over bucket_load table
    out_over = grind (arith, out_at, sum_over_below)

-- the live sets of all keys, and those that the known free places of one key have room for
module _ (s : State) (agree : Agree s) (k : Key) where
  -- what a key adds
  abbrev added : Key → Bucket → ℕ
  added l b = descriptors_out l b + (if key_eq l k then set_descriptors l (free_places b) else 0)

  added_at : (l : Key) → added l (s.books l) ≤ bucket_load l (s.books l)
  added_at l = (let all = places_of_entries l s.ledger (s.books l).pools (booked s agree l) in elim (cases_Bool (key_eq l k)) [ inl is ↦ rw is all | inr other ↦ rw other (omega arith) ])

  added_none : (l : Key) → added l no_pools ≡ 0
  added_none l = grind (arith, set_descriptors-none)

  no_less : (table : List (Key × Bucket)) → sum_over descriptors_out table ≤ sum_over added table
  no_less [] = omega arith
  no_less (row ∷ table) =
      let out = sum_more descriptors_out row table in
      let all = sum_more added row table in
      let rest = no_less table in
      grind arith

  more_added : (table : List (Key × Bucket)) → sum_over descriptors_out table + set_descriptors k (free_places (books_of table k)) ≤ sum_over added table
  more_added [] = (let none = set_descriptors-none k in omega arith)
  more_added (row ∷ table) =
      let out = sum_more descriptors_out row table in
      let all = sum_more added row table in
      let here = no_less table in
      let rest = more_added table in
      grind (arith, common_steps, key_exact)

  pub free_within : (marked pools : ℕ) → AddsUp descriptors_out s.books marked → AddsUp bucket_load s.books pools → set_descriptors k (free_places (s.books k)) + marked ≤ pools
  free_within marked pools out load =
      let more = more_added out.table in
      let below = sum_over_below added bucket_load out.table added_none out.distinct (λ l. grind (arith, added_at)) in
      grind (arith, sum_by_books)

pub pool_load_is_created : (s : State) (n : ℕ) → Agree s → ((k : Key) → 0 < length (s.books k).pools → length k.counts ≡ 14) → AddsUp bucket_load s.books n ↔ AddsUp (descriptors_created s.ledger) s.books n
pool_load_is_created s n agree long = grind (arith, created_over)

pub marked_within_pools : (s : State) (marked pools : ℕ) → Agree s → AddsUp descriptors_out s.books marked → AddsUp bucket_load s.books pools → marked ≤ pools
marked_within_pools s marked pools agree out load = grind (arith, out_over, sum_by_books)
