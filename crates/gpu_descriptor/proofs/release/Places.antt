-- How many sets go back to a pool, and that the pool has them.
-- For the laws of `released` in release.Given, ReleaseAgrees and Parts. The items m go back to pools of the state s; back m s counts those of a pool,
-- `back_named` those of a live set in it.
use Rattle.gpu_descriptor.proofs.Common.{◌≡◌, ℕ, ◌-◌, ◌<◌, ◌≤◌, Bool, true, false, ◌&&◌, ◌==◌, List, [], ◌∷◌, length, map, filter, count_by, Option, Some, None, option_map, inl, inr, refl, sym, ap, ◌∙◌, arith, eqb-true, eq-eqb, option_map_or, cases_Bool}
use Rattle.gpu_descriptor.proofs.Common.{false_from_ne_true, and_parts, and_from, length-map, length-filter, count_by-le-length, numbers_of, set_of, State, Item, item_eq, count_of, live_in, outstanding, AreOutstanding, HasSize, Agree, live_at, Key, Entry}
use Rattle.gpu_descriptor.proofs.Common.{Bucket, entry_at, no_pools, Pool, LiveSet, set_eq, bool_iff, count_by_alike, count_by_none, set_exact, all_taken_out, ∥∥₁_elim, ∥∥₁_map, props, common_steps, lies_in, entry_less, bucket_less}
use Rattle.gpu_descriptor.proofs.Common.{none-some, true≢false}
use Rattle.gpu_descriptor.proofs.lists.Numbers.{find_map, numbers_map}
use Rattle.gpu_descriptor.proofs.request.StateAgrees.{distinct_at}
use Rattle.gpu_descriptor.proofs.table.Exact.{item_exact, item_parts, item_from}

-- how many sets go back to a pool, and how many of these are that live set
abbrev pub back : List Item → State → ℕ → ℕ
back m s pool = count_by (lies_in s.books pool) m

abbrev pub back_named : List Item → State → ℕ → LiveSet → ℕ
back_named m s pool name = count_by (λ t. lies_in s.books pool t && (set_eq (set_of t) name)) m

-- the names of the sets that lie in the pool
names_of : (lies : Item → Bool) (m : List Item) (name : LiveSet) → count_by (λ x. set_eq x name) (map (λ (t : Item). set_of t) (filter lies m)) ≡ count_by (λ t. lies t && (set_eq (set_of t) name)) m
names_of lies [] name = refl
names_of lies (t ∷ m) name = grind (arith, common_steps, (names_of lies m name))

-- a part that the pool has leaves the rest, as many fewer
rest_less :
    (live : LiveSet → ℕ) (a : ℕ) (lies : Item → Bool) (m : List Item) → HasSize live a
    → ((name : LiveSet) → count_by (λ t. lies t && (set_eq (set_of t) name)) m ≤ live name)
    → (count_by lies m ≤ a)
    × HasSize (λ name. live name - count_by (λ t. lies t && (set_eq (set_of t) name)) m) (a - count_by lies m)
rest_less live a lies m size fits =
    let part : List LiveSet = map (λ (t : Item). set_of t) (filter lies m) in
    let long : length part ≡ count_by lies m = length-map (filter lies m) (λ (t : Item). set_of t) ∙ length-filter lies m in
    let out = all_taken_out set_exact part size.0 (λ name. rw (names_of lies m name, size.2 name) (fits name)) in
    let lengths = out.1 in
    let sizes = size.1 in (
      omega arith,
      (
        out.0,
        (let e : length out.0 ≡ a - count_by lies m = omega arith in e),
        (λ name.
            let got = out.2 (λ x. set_eq x name) in
            let had = size.2 name in
            let named = names_of lies m name in
            let e : count_by (λ x. set_eq x name) out.0 ≡ live name - count_by (λ t. lies t && (set_eq (set_of t) name)) m = omega arith in e),
      ),
    )

-- the same if it is only known that the live sets have some list
pub size_less :
    (live : LiveSet → ℕ) (a : ℕ) (lies : Item → Bool) (m : List Item) → ∥ HasSize live a ∥₁
    → ((name : LiveSet) → count_by (λ t. lies t && (set_eq (set_of t) name)) m ≤ live name)
    → (count_by lies m ≤ a)
    × ∥ HasSize (λ name. live name - count_by (λ t. lies t && (set_eq (set_of t) name)) m) (a - count_by lies m) ∥₁
size_less live a lies m some fits = (∥∥₁_elim some (search props) (λ size. (rest_less live a lies m size fits).0), ∥∥₁_map some (λ size. (rest_less live a lies m size fits).1))

-- where a name is left, a set is left
pub size_pos : (live : LiveSet → ℕ) (a : ℕ) (name : LiveSet) → ∥ HasSize live a ∥₁ → 0 < live name → 0 < a
size_pos live a name listed lt = ∥∥₁_elim listed (search props) (λ size.
    grind (arith, common_steps, count_by-le-length))

some_of : (o : Option Entry) (pool : ℕ) → option_map_or (λ e. e.pool == pool) o false ≡ true → (e : Entry) × (o ≡ Some e) × (e.pool ≡ pool)
some_of None pool h = absurd (true≢false (sym h))
some_of (Some e) pool h = (e, refl, eqb-true e.pool pool h)

-- a set lies in the pool that the entry of its key and number names
pub lies_in-found : (books : Key → Bucket) (pool : ℕ) (t : Item) → lies_in books pool t ≡ true → (e : Entry) × (entry_at (books t.key) t.number ≡ Some e) × (e.pool ≡ pool)
lies_in-found books pool t h = some_of (entry_at (books t.key) t.number) pool h

pub lies_in-at : (books : Key → Bucket) (pool : ℕ) (t : Item) (e : Entry) → entry_at (books t.key) t.number ≡ Some e → lies_in books pool t ≡ (e.pool == pool)
lies_in-at books pool t e h = ap (λ (o : Option Entry). option_map_or (λ e. e.pool == pool) o false) h

-- a set of an outstanding list has the id of its key
pub own_id : (m : List Item) (s : State) → AreOutstanding m s → (t : Item) → 0 < count_of t m → (s.books t.key).id ≡ t.id
own_id m s out t some = grind arith

-- the sets that lie in a pool are those of its key and number
pub back_named-is :
    (m : List Item) (s : State) → Agree s → AreOutstanding m s → (k : Key) (i : ℕ) (e : Entry)
    → entry_at (s.books k) i ≡ Some e → (name : ℕ)
    → back_named m s e.pool (record { name = name; counts = k.counts })
    ≡ count_of (record { key = k; id = (s.books k).id; number = i; name = name }) m
back_named-is m s agree out k i e at name =
    let x : LiveSet = record { name = name; counts = k.counts } in
    let u : Item = record { key = k; id = (s.books k).id; number = i; name = name } in
    count_by_alike item_exact (λ t. lies_in s.books e.pool t && set_eq (set_of t) x) (λ t. item_eq t u) m (λ t in_m. bool_iff (lies_in s.books e.pool t && set_eq (set_of t) x) (item_eq t u)
    (λ h.
    grind (arith, common_steps, and_parts, distinct_at, item_from, lies_in-found, own_id, set_exact))
    (λ h.
    let same = item_parts t u h in
    grind (arith, common_steps, and_from, eq-eqb, lies_in-at, set_exact)))

-- no set of other counts goes back to the pool
back_other : (m : List Item) (s : State) → Agree s → (k : Key) (i : ℕ) (e : Entry) → entry_at (s.books k) i ≡ Some e → (x : LiveSet) → set_eq x (record { name = x.name; counts = k.counts }) ≡ false → back_named m s e.pool x ≡ 0
back_other m s agree k i e at x other = count_by_none item_exact (λ t. lies_in s.books e.pool t && set_eq (set_of t) x) m (λ t in_m. false_from_ne_true (lies_in s.books e.pool t && set_eq (set_of t) x) (λ h.
    let both = and_parts (lies_in s.books e.pool t) (set_eq (set_of t) x) h in
    let one : set_of t ≡ x = set_exact.same (set_of t) x both.1 in
    grind (arith, common_steps, distinct_at, lies_in-found, set_exact)))

-- how often a set is live at its place, read from the pool there
pub live_there_at : (s : State) (t : Item) (e : Entry) (pool : Pool) → entry_at (s.books t.key) t.number ≡ Some e → s.ledger e.pool ≡ Some pool → live_at s.ledger (s.books t.key) t ≡ pool.live (set_of t)
live_there_at s t e pool at found = rw at (rw found refl)

-- and how often it is outstanding, if its id is the key's
pub outstanding_at : (s : State) (t : Item) (e : Entry) (pool : Pool) → (s.books t.key).id ≡ t.id → entry_at (s.books t.key) t.number ≡ Some e → s.ledger e.pool ≡ Some pool → outstanding s t ≡ pool.live (set_of t)
outstanding_at s t e pool own at found = rw (eq-eqb (s.books t.key).id t.id own) (rw at (rw found refl))

-- a pool has the part that goes back to it
pub part_fits : (m : List Item) (s : State) → Agree s → AreOutstanding m s → (k : Key) (i : ℕ) (e : Entry) (pool : Pool) → entry_at (s.books k) i ≡ Some e → s.ledger e.pool ≡ Some pool → (x : LiveSet) → back_named m s e.pool x ≤ pool.live x
part_fits m s agree out k i e pool at found x =
    let y : LiveSet = record { name = x.name; counts = k.counts } in
    elim (cases_Bool (set_eq x y)) [
      | inl same ↦ (
          let t : Item = record { key = k; id = (s.books k).id; number = i; name = x.name } in
          let one : x ≡ y = set_exact.same x y same in
          let is : back_named m s e.pool y ≡ count_of t m = back_named-is m s agree out k i e at x.name in
          let had : outstanding s t ≡ pool.live y = outstanding_at s t e pool refl at found in
          let fits = out t in
          let a : back_named m s e.pool x ≡ back_named m s e.pool y = ap (back_named m s e.pool) one in
          grind (arith, common_steps))
      | inr other ↦ (let none = back_other m s agree k i e at x other in omega arith)
    ]

-- an outstanding set has an entry, in whose pool it is live, and the id of its key
pub outstanding_found : (s : State) (t : Item) (a : ℕ) → a < outstanding s t → (e : Entry) × (entry_at (s.books t.key) t.number ≡ Some e) × (a < live_in s.ledger e.pool (set_of t)) × ((s.books t.key).id ≡ t.id)
outstanding_found s t a h = grind arith

-- a key without pools has no set out
pub none_out : (s : State) (t : Item) → s.books t.key ≡ no_pools → outstanding s t ≡ 0
none_out s t none = grind arith

-- the entry of a number once sets went back
pub entry_at-less : (g : ℕ → ℕ) (b : Bucket) (n : ℕ) → entry_at (bucket_less g b) n ≡ option_map (λ e. entry_less (g e.pool) e) (entry_at b n)
entry_at-less g b n = find_map n (λ e. entry_less (g e.pool) e) (λ e. refl) b.pools

-- giving back leaves the numbers
pub numbers_less : (g : ℕ → ℕ) (b : Bucket) → numbers_of (bucket_less g b).pools ≡ numbers_of b.pools
numbers_less g b = numbers_map (λ e. entry_less (g e.pool) e) (λ e. refl) b.pools

pub some_before : (f : Entry → Entry) (o : Option Entry) (e : Entry) → option_map f o ≡ Some e → (d : Entry) × (o ≡ Some d) × (f d ≡ e)
some_before f None e h = absurd (none-some e h)
some_before f (Some d) e h = (d, refl, (let is : ◌≡◌ {A = Option Entry} (Some (f d)) (Some e) = h in cc))

-- for new allocators: one without keys agrees with every ledger
pub empty_agrees : (ledger : ℕ → Option Pool) → Agree (record { books = λ _. no_pools; ledger = ledger })
empty_agrees ledger = grind arith
