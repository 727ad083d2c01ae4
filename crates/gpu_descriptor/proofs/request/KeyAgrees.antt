-- What a request takes of one pool leaves its entry as booked; how often each set came from it. For request.TakenAgrees.
use Rattle.gpu_descriptor.proofs.Common.{common_steps, ◌≡◌, ◌≢◌, ℕ, ◌+◌, ◌<◌, ◌≤◌, inl, inr, List, [], ◌∷◌, ◌++◌, length, Bool, false, refl, sym, ap, ◌∙◌, arith, length-append, cases_Bool, cases_lt, length-map, if◌then◌else◌, Pool, live_sets, LiveSet, set_eq, times, bool_iff, count_by_yes}
use Rattle.gpu_descriptor.proofs.Common.{count_by_no, set_exact, times-append, Key, Entry, Item, item_eq, set_of, count_of, IsAsBooked, ∥∥₁_map, Part, items_at, items_in, pool_with}
use Rattle.gpu_descriptor.proofs.table.Exact.{item_exact, item_from}
use Rattle.gpu_descriptor.proofs.callers.HeldSets.{count_of-append}

-- a set that stands among sets of these counts has them
pub counts_of_live : (counts names : List ℕ) (x : LiveSet) → 0 < times (live_sets counts names) x → x.counts ≡ counts
counts_of_live counts [] x some = absurd (omega arith)
counts_of_live counts (n ∷ names) x some =
    let y : LiveSet = record { name = n; counts = counts } in
    elim (cases_Bool (set_eq y x)) [
      | inl same ↦ sym (ap (λ (z : LiveSet). z.counts) (set_exact.same y x same))
      | inr other ↦ (let skip = count_by_no (λ z. set_eq z x) y (live_sets counts names) other in counts_of_live counts names x (omega arith))
    ]

-- an entry gave so many sets, and it may have refused
pub record Became (given : ℕ) (refused : Bool) (e f : Entry) : Type 0 where
  pub number : f.number ≡ e.number
  pub pool : f.pool ≡ e.pool
  pub capacity : f.capacity ≡ e.capacity
  pub allocated : f.allocated ≡ e.allocated + given
  pub fits : f.allocated + f.available ≤ e.allocated + e.available
  pub whole : refused ≡ false → f.allocated + f.available ≡ e.allocated + e.available

-- the pool once sets of the key came out of it, and it may have refused
pub pool_booked : (k : Key) (pool : Pool) (e f : Entry) (names : List ℕ) (refused : Bool) → IsAsBooked k pool e → Became (length names) refused e f → IsAsBooked k (pool_with (live_sets k.counts names) refused pool) f
pool_booked k pool e f names refused b became = record {
  flags = b.flags;
  at_least = b.at_least;
  small = b.small;
  capacity = became.capacity ∙ b.capacity;
  counts = b.counts;
  sets = λ x some. elim (cases_lt 0 (pool.live x)) [
    | inl was ↦ b.sets x was
    | inr none ↦ counts_of_live k.counts names x (omega arith)
  ];
  allocated = ∥∥₁_map b.allocated (λ size. (
    size.0 ++ live_sets k.counts names,
    (let a = length-append size.0 (live_sets k.counts names) in let n = length-map names (λ (n : ℕ). let s : LiveSet = record { name = n; counts = k.counts } in s) in let was = size.1 in let more = became.allocated in omega arith),
    (λ x. times-append size.0 (live_sets k.counts names) x ∙ ap (λ n. n + times (live_sets k.counts names) x) (size.2 x)),
  ));
  fits = (let r = b.fits in let more = became.fits in omega arith);
  full = λ none. elim (cases_Bool refused) [
    | inl on ↦ absurd (let some : (if refused then pool.refusals + 1 else pool.refusals) ≡ pool.refusals + 1 = rw on refl in omega arith)
    | inr off ↦ became.whole off ∙ b.full (let same : (if refused then pool.refusals + 1 else pool.refusals) ≡ pool.refusals = rw off refl in omega arith)
  ];
}

-- ---- the sets of one pool

-- an item among those of a pool has its key, number and id
pub place_of_items : (k : Key) (id number : ℕ) (names : List ℕ) (t : Item) → 0 < count_of t (items_at k id number names) → (t.key ≡ k) × (t.number ≡ number) × (t.id ≡ id)
place_of_items k id number [] t some = absurd (omega arith)
place_of_items k id number (n ∷ names) t some =
    let u : Item = record { key = k; id = id; number = number; name = n } in
    elim (cases_Bool (item_eq u t)) [
      | inl same ↦ (let is : u ≡ t = item_exact.same u t same in (sym (ap (λ (v : Item). v.key) is), sym (ap (λ (v : Item). v.number) is), sym (ap (λ (v : Item). v.id) is)))
      | inr other ↦ (let skip = count_by_no (λ v. item_eq v t) u (items_at k id number names) other in place_of_items k id number names t (omega arith))
    ]

-- so has one among all that came
pub own_items : (k : Key) (id : ℕ) (parts : List Part) (t : Item) → 0 < count_of t (items_in k id parts) → (t.key ≡ k) × (t.id ≡ id)
own_items k id [] t some = absurd (omega arith)
own_items k id (p ∷ parts) t some = elim (cases_lt 0 (count_of t (items_at k id p.number p.names))) [
  | inl here ↦ (let is = place_of_items k id p.number p.names t here in (is.0, is.2))
  | inr none ↦ (let both = count_of-append t (items_at k id p.number p.names) (items_in k id parts) in own_items k id parts t (omega arith))
]

-- as often as its name came
pub count_of_items : (k : Key) (id number : ℕ) (names : List ℕ) (t : Item) → t.key ≡ k → t.number ≡ number → t.id ≡ id → count_of t (items_at k id number names) ≡ times (live_sets k.counts names) (set_of t)
count_of_items k id number [] t key at own = refl
count_of_items k id number (n ∷ names) t key at own = grind (arith, common_steps, bool_iff, count_by_no, count_by_yes, item_exact, item_from, set_exact, (count_of_items k id number names t key at own))

pub count_elsewhere : (k : Key) (id number : ℕ) (names : List ℕ) (t : Item) → t.number ≢ number → count_of t (items_at k id number names) ≡ 0
count_elsewhere k id number names t ne = elim (cases_lt 0 (count_of t (items_at k id number names))) [
  | inl some ↦ absurd (ne (place_of_items k id number names t some).1)
  | inr none ↦ (omega arith)
]
