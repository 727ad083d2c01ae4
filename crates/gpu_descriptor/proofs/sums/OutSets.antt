-- As many sets are live as are outstanding.
-- For `laws::out_is_outstanding`. A list is made, pool by pool and row by row, that has each item as often as it is outstanding. It is
-- in ∥ ∥₁, as the agreement says of a pool's live sets only that they have a list.
use Rattle.std.specs.List.{find}
use Rattle.gpu_descriptor.proofs.Common.{list_all, nat_lt, and_parts, ltb-true, eqb-true, eqb-false, rises, numbers_of, ◌≡◌, ℕ, suc, ◌+◌, ◌<◌, ◌≤◌, ◌==◌, true, List, [], ◌∷◌, ◌++◌, length, map, sum_by, slice_get, Option, Some, None, inl, inr, refl, sym, ap, ◌∙◌, arith, length-append}
use Rattle.gpu_descriptor.proofs.Common.{if◌then◌else◌, cases_Bool, cases_lt, length-map, sum_by-append, sum_by-cons, Pool, live_sets, LiveSet, set_eq, times, count_by_yes, count_by_no, counts_alike, set_exact, State, Agree, Item, item_eq, set_of, count_of, live_at, outstanding, Key, key_eq}
use Rattle.gpu_descriptor.proofs.Common.{Entry, Bucket, no_pools, books_of, HasDistinctKeys, sum_over, AddsUp, ∥∥₁_elim, ∥∥₁_map, ∥∥₁_prop, props, common_steps, items_at, marked_descriptors, set_descriptors, descriptors_out, allocated_in, sets_out, IsBookedIn, true≢false}
use Rattle.gpu_descriptor.proofs.table.Exact.{bucket, item_exact, key_exact}
use Rattle.gpu_descriptor.proofs.callers.HeldSets.{count_of-append}
use Rattle.gpu_descriptor.proofs.request.KeyAgrees.{place_of_items, count_of_items, count_elsewhere}
use Rattle.gpu_descriptor.proofs.request.StateAgrees.{booked_of}
use Rattle.gpu_descriptor.proofs.request.Rollback.{load_of_items}
use Rattle.gpu_descriptor.proofs.table.Tables.{first_books, none_behind}
use Rattle.gpu_descriptor.proofs.release.RunsOfOne.{count_all}

names_in : List LiveSet → List ℕ
names_in sets = map (λ (x : LiveSet). x.name) sets

-- sets that all have these counts are known by their names
by_name : (counts : List ℕ) (sets : List LiveSet) → ((x : LiveSet) → 0 < times sets x → x.counts ≡ counts) → live_sets counts (names_in sets) ≡ sets
unfolding names_in
by_name counts [] all = refl
by_name counts (x ∷ sets) all =
    let own : times (x ∷ sets) x ≡ suc (times sets x) = count_by_yes (λ y. set_eq y x) x sets (set_exact.self x) in
    let rest = by_name counts sets (λ y some. all y (let m = more y in omega arith)) in
    grind (arith, common_steps)
  where
    more : (y : LiveSet) → times sets y ≤ times (x ∷ sets) y
    more y = grind (arith, common_steps, count_by_no, count_by_yes)

-- the live sets of a key's pools
record OutOf (k : Key) (b : Bucket) (ledger : ℕ → Option Pool) : Type 0 where
  items : List Item
  many : length items ≡ allocated_in b.pools
  of_key : (t : Item) → 0 < count_of t items → (t.key ≡ k) × (t.id ≡ b.id)
  each : (t : Item) → t.key ≡ k → t.id ≡ b.id → count_of t items ≡ live_at ledger b t

none_out : (ledger : ℕ → Option Pool) (id : ℕ) (t : Item) → live_at ledger (bucket id []) t ≡ 0
none_out ledger id t = refl

-- a number below all others is at no later place
absent_behind : (es : List Entry) (n : ℕ) → list_all (nat_lt n) (numbers_of es) ≡ true → find (λ e. e.number == n) es ≡ None
absent_behind [] n h = refl
absent_behind (e ∷ es) n h = grind (arith, common_steps, and_parts, ltb-true, (absent_behind es n))

-- by induction over the key's pools: the sets of the first pool, and those out of the later ones
key_out : (k : Key) (id : ℕ) (es : List Entry) (ledger : ℕ → Option Pool) → rises (numbers_of es) ≡ true → ((i : ℕ) (e : Entry) → slice_get es i ≡ Some e → IsBookedIn k ledger e) → ∥ OutOf k (bucket id es) ledger ∥₁
unfolding names_in
key_out k id [] ledger rising booked = ∣ record { items = []; many = refl; of_key = λ t some. absurd (omega arith); each = λ t key own_id. sym (none_out ledger id t) } ∣₁
key_out k id (e ∷ es) ledger rising booked =
    let own = booked 0 e refl in
    let rise = and_parts (list_all (nat_lt e.number) (numbers_of es)) (rises (numbers_of es)) rising in
    let first : ℕ = e.number in
    ∥∥₁_elim own.2.allocated ∥∥₁_prop (λ size. ∥∥₁_map (key_out k id es ledger rise.1 (λ i. booked (suc i))) (λ rest.
    let names = names_in size.0 in
    let same = by_name k.counts size.0 (λ x some. own.2.sets x (let is = size.2 x in omega arith)) in
    record {
      items = items_at k id first names ++ rest.items;
      many = (
          let both = length-append (items_at k id first names) rest.items in
          let named : length (items_at k id first names) ≡ length names = length-map names (λ n. let t : Item = record { key = k; id = id; number = first; name = n } in t) in
          let all : length names ≡ length size.0 = length-map size.0 (λ (x : LiveSet). x.name) in
          let whole = sum_by-cons (λ (d : Entry). d.allocated) e es in
          omega arith);
      of_key = λ t some. elim (cases_lt 0 (count_of t (items_at k id first names))) [
        | inl here ↦ (let p = place_of_items k id first names t here in (p.0, p.2))
        | inr none ↦ (let sum = count_of-append t (items_at k id first names) rest.items in rest.of_key t (omega arith))
      ];
      each = λ t key own_id.
          let sum = count_of-append t (items_at k id first names) rest.items in
          let later = rest.each t key own_id in
          elim (cases_Bool (first == t.number)) [
            | inl hit ↦ (
                let here : t.number ≡ first = sym (eqb-true first t.number hit) in
                let counted = count_of_items k id first names t key here own_id in
                let spelled : times (live_sets k.counts names) (set_of t) ≡ own.0.live (set_of t) = ap (λ (l : List LiveSet). times l (set_of t)) same ∙ size.2 (set_of t) in
                let left : live_at ledger (bucket id es) t ≡ 0 = rw (ap (λ (n : ℕ). find (λ e. e.number == n) es) here ∙ absent_behind es first rise.0) refl in
                let right : live_at ledger (bucket id (e ∷ es)) t ≡ own.0.live (set_of t) = rw (hit, own.1) refl in
                omega arith)
            | inr miss ↦ (
                let none = count_elsewhere k id first names t (λ same. eqb-false first t.number miss (sym same)) in
                let right : live_at ledger (bucket id (e ∷ es)) t ≡ live_at ledger (bucket id es) t = rw miss refl in
                omega arith)
          ];
    }))

-- how often a set is live in a bucket, if its id is the bucket's
abbrev out_at : (ℕ → Option Pool) → Bucket → Item → ℕ
out_at ledger b t = if b.id == t.id then live_at ledger b t else 0

out_of_none : (ledger : ℕ → Option Pool) (t : Item) → out_at ledger no_pools t ≡ 0
out_of_none ledger t = elim (cases_Bool (0 == t.id)) [ inl same ↦ rw same (none_out ledger 0 t) | inr other ↦ rw other refl ]

each_out : (k : Key) (b : Bucket) (ledger : ℕ → Option Pool) (out : OutOf k b ledger) (t : Item) → t.key ≡ k → count_of t out.items ≡ out_at ledger b t
each_out k b ledger out t key = grind arith

-- the live sets of all keys of a table
abbrev OutOfAll : (ℕ → Option Pool) → List (Key × Bucket) → Type 0
OutOfAll ledger table = (items : List Item) × (length items ≡ sum_over sets_out table) × ((t : Item) → count_of t items ≡ out_at ledger (books_of table t.key) t) × (marked_descriptors items ≡ sum_over descriptors_out table)

-- by induction over the rows: the sets out of the first row's pools, and those of the others
table_out : (ledger : ℕ → Option Pool) (table : List (Key × Bucket)) → HasDistinctKeys table → ((k : Key) → rises (numbers_of (books_of table k).pools) ≡ true) → ((k : Key) (i : ℕ) (e : Entry) → slice_get (books_of table k).pools i ≡ Some e → IsBookedIn k ledger e) → ∥ OutOfAll ledger table ∥₁
table_out ledger [] distinct rising booked = ∣ ([], refl, (λ t. sym (out_of_none ledger t)), refl) ∣₁
table_out ledger (row ∷ table) distinct rising booked =
    ∥∥₁_elim (key_out row.0 row.1.id row.1.pools ledger (ap (λ (b : Bucket). rises (numbers_of b.pools)) (sym (first_books row table)) ∙ rising row.0) (λ i e at. booked row.0 i e (ap (λ (b : Bucket). slice_get b.pools i) (first_books row table) ∙ at))) ∥∥₁_prop (λ here.
    ∥∥₁_map (table_out ledger table distinct.1 rise (λ k i e at. booked k i e (appended k i e at))) (λ rest. (
      here.items ++ rest.0,
      (let both = length-append here.items rest.0 in let whole = sum_by-cons (λ (r : Key × Bucket). sets_out r.0 r.1) row table in omega arith),
      (λ t.
          let sum = count_of-append t here.items rest.0 in
          let later = rest.2 t in
          elim (cases_Bool (key_eq row.0 t.key)) [
            | inl at ↦ (
                let first = each_out row.0 row.1 ledger here t (sym (key_exact.same row.0 t.key at)) in
                let none : out_at ledger (books_of table t.key) t ≡ 0 = ap (λ (b : Bucket). out_at ledger b t) (none_behind row table distinct t.key at) ∙ out_of_none ledger t in
                let is : out_at ledger (books_of (row ∷ table) t.key) t ≡ out_at ledger row.1 t = rw at refl in
                omega arith)
            | inr other ↦ (
                let is : out_at ledger (books_of (row ∷ table) t.key) t ≡ out_at ledger (books_of table t.key) t = rw other refl in
                elim (cases_lt 0 (count_of t here.items)) [
                  | inl some ↦ absurd (true≢false (sym (key_exact.self row.0) ∙ ap (key_eq row.0) (sym (here.of_key t some).0) ∙ other))
                  | inr none ↦ omega arith
                ])
          ]),
      (let both = sum_by-append (λ (t : Item). set_descriptors t.key 1) here.items rest.0 in
          let first : marked_descriptors here.items ≡ descriptors_out row.0 row.1 = load_of_items row.0 here.items (λ t some. (here.of_key t some).0) ∙ ap (set_descriptors row.0) here.many in
          let whole = sum_by-cons (λ (r : Key × Bucket). descriptors_out r.0 r.1) row table in
          omega arith),
    )))
  where
    rise : (k : Key) → rises (numbers_of (books_of table k).pools) ≡ true
    rise k = grind (arith, common_steps, none_behind, rises)

    appended : (k : Key) (i : ℕ) (e : Entry) → slice_get (books_of table k).pools i ≡ Some e → slice_get (books_of (row ∷ table) k).pools i ≡ Some e
    appended k i e at = grind (arith, common_steps, none_behind)

-- the live sets of a table which keeps the books
all_out : (s : State) (f : Key → Bucket → ℕ) (n : ℕ) → Agree s → (out : AddsUp f s.books n) → ∥ OutOfAll s.ledger out.table ∥₁
all_out s f n agree out = table_out s.ledger out.table out.distinct (λ k. ap (λ (b : Bucket). rises (numbers_of b.pools)) (out.keeps k) ∙ agree.rising k) (λ k i e at. (booked_of s k agree).each i e (ap (λ (b : Bucket). slice_get b.pools i) (sym (out.keeps k)) ∙ at))

-- the sum over the books is how many sets are outstanding: some list has them, and each that does is so long
pub out_is_size : (s : State) (n : ℕ) → Agree s → AddsUp sets_out s.books n → ∥ ((items : List Item) × (length items ≡ n) × ((t : Item) → count_of t items ≡ outstanding s t)) ∥₁
out_is_size s n agree out = ∥∥₁_map (all_out s sets_out n agree out) (λ all. (all.0, all.1 ∙ out.total, λ t. all.2 t ∙ ap (λ (b : Bucket). out_at s.ledger b t) (out.keeps t.key)))

pub out_is_length : (s : State) (n : ℕ) → Agree s → AddsUp sets_out s.books n → (items : List Item) → ((t : Item) → count_of t items ≡ outstanding s t) → length items ≡ n
out_is_length s n agree out items alike = ∥∥₁_elim (out_is_size s n agree out) (search props) (λ all.
    sym (count_all items) ∙ counts_alike item_exact items all.0 (λ t. alike t ∙ sym (all.2 t)) (λ u. true) ∙ count_all all.0 ∙ all.1)

-- ---- sums over a list hang only on how often each item stands in it

cons_count : (u t : Item) (m : List Item) → count_of u (t ∷ m) ≡ count_of u (t ∷ []) + count_of u m
cons_count u t m = count_of-append u (t ∷ []) m

-- an item taken out of a list
removed : (f : Item → ℕ) (t : Item) (m : List Item) → 0 < count_of t m → (rest : List Item) × ((u : Item) → count_of u m ≡ count_of u (t ∷ rest)) × (sum_by f m ≡ f t + sum_by f rest)
removed f t [] some = absurd (omega arith)
removed f t (u ∷ m) some = elim (cases_Bool (item_eq u t)) [
  | inl here ↦ (
      let is : u ≡ t = item_exact.same u t here in
      (m, (λ v. ap (λ (w : Item). count_of v (w ∷ m)) is), sum_by-cons f u m ∙ ap (λ (w : Item). f w + sum_by f m) is))
  | inr other ↦ (
      let skip : count_of t (u ∷ m) ≡ count_of t m = count_by_no (λ v. item_eq v t) u m other in
      let found = removed f t m (omega arith) in (
        u ∷ found.0,
        (λ v.
            grind (arith, common_steps, cons_count)),
        (let a = sum_by-cons f u m in let b = sum_by-cons f u found.0 in omega arith),
      ))
]

-- lists that have each item equally often have equal sums
sums_alike : (f : Item → ℕ) (m n : List Item) → ((u : Item) → count_of u m ≡ count_of u n) → sum_by f m ≡ sum_by f n
sums_alike f [] [] alike = refl
sums_alike f [] (t ∷ n) alike =
    let own : count_of t (t ∷ n) ≡ suc (count_of t n) = count_by_yes (λ v. item_eq v t) t n (item_exact.self t) in
    grind (arith, common_steps)
sums_alike f (t ∷ m) n alike =
    let own : count_of t (t ∷ m) ≡ suc (count_of t m) = count_by_yes (λ v. item_eq v t) t m (item_exact.self t) in
    let same = alike t in
    let out = removed f t n (omega arith) in
    let rest = sums_alike f m out.0 (λ u. let a = alike u in let b = out.1 u in let c = cons_count u t m in let d = cons_count u t out.0 in omega arith) in
    grind (arith, common_steps, sum_by-cons)

-- so the marked load is the descriptors of the outstanding marked sets
pub load_is_descriptors : (s : State) (n : ℕ) → Agree s → AddsUp descriptors_out s.books n → (items : List Item) → ((t : Item) → count_of t items ≡ outstanding s t) → marked_descriptors items ≡ n
load_is_descriptors s n agree load items alike = ∥∥₁_elim (all_out s descriptors_out n agree load) (search props) (λ all.
    sums_alike (λ (t : Item). set_descriptors t.key 1) items all.0 (λ t. alike t ∙ sym (all.2 t ∙ ap (λ (b : Bucket). out_at s.ledger b t) (load.keeps t.key))) ∙ all.3 ∙ load.total)
