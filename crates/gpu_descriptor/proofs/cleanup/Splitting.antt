-- The pools of a key in two lists, those that are left and the empty ones that go, each in their order.
-- For cleanup and trim alike (`sweep`): what holds of each such split holds of the two that `left_of` and `gone_of` make, one for
-- each value of everywhere.
use Rattle.gpu_descriptor.proofs.Common.{common_steps, ◌≡◌, ◌≢◌, ◌≤◌, ◌⊎◌, ℕ, zero, suc, ◌==◌, Bool, true, false, nat_lt, List, [], ◌∷◌, take, drop, filter, slice_get, Some, inl, inr, refl, sym, ap, ◌∙◌, arith, eq-eqb, eqb-true, ne_eqb, lt-ltb, and_parts, and_from, cases_Bool, list_all}
use Rattle.gpu_descriptor.proofs.Common.{prefix_len, Entry, Bucket, rises, numbers_of, no_pools, is_empty, are_named, gone_of, left_of, with_pools, none-some}
use Rattle.gpu_descriptor.proofs.lists.AtPlaces.{any_here, found_at}
use Rattle.gpu_descriptor.proofs.lists.Numbers.{number_of, rises_once}

-- each pool is the next that is left, or it is empty and the next that goes
abbrev pub Split : (pools left gone : List Entry) → Type 0
Split [] left gone = (left ≡ []) × (gone ≡ [])
Split (e ∷ pools) left gone = ((rest : List Entry) × (left ≡ e ∷ rest) × Split pools rest gone) ⊎ ((rest : List Entry) × (gone ≡ e ∷ rest) × (is_empty e ≡ true) × Split pools left rest)

-- ---- the two that there are

front_yes : (x : Entry) (es : List Entry) → is_empty x ≡ true → prefix_len is_empty (x ∷ es) ≡ suc (prefix_len is_empty es)
front_yes x es h = rw h (omega arith)

front_no : (x : Entry) (es : List Entry) → is_empty x ≡ false → prefix_len is_empty (x ∷ es) ≡ 0
front_no x es h = rw h refl

pub none_first : (pools : List Entry) → Split pools pools []
none_first [] = (refl, refl)
none_first (e ∷ pools) = inl (pools, refl, none_first pools)

-- so many of the front go, or by a trim (`split_all`) each empty pool
pub split_cut : (n : ℕ) (pools : List Entry) → n ≤ prefix_len is_empty pools → Split pools (drop n pools) (take n pools)
split_cut zero pools le = none_first pools
split_cut (suc n) [] le = (refl, refl)
split_cut (suc n) (e ∷ pools) le = elim (cases_Bool (is_empty e)) [
  | inl empty ↦ inr (take n pools, refl, empty, split_cut n pools (let long = front_yes e pools empty in omega arith))
  | inr full ↦ absurd (let none = front_no e pools full in omega arith)
]

filter_yes : (p : Entry → Bool) (e : Entry) (es : List Entry) → p e ≡ true → filter p (e ∷ es) ≡ e ∷ filter p es
filter_yes p e es h = rw h refl

split_all : (pools : List Entry) → Split pools (filter (λ e. nat_lt 0 e.allocated) pools) (filter is_empty pools)
split_all [] = (refl, refl)
split_all (e ∷ pools) = go e.allocated refl (split_all pools)
  where
    go : (n : ℕ) → e.allocated ≡ n → Split pools (filter (λ e. nat_lt 0 e.allocated) pools) (filter is_empty pools) → Split (e ∷ pools) (filter (λ e. nat_lt 0 e.allocated) (e ∷ pools)) (filter is_empty (e ∷ pools))
    go zero h rest =
        let empty : is_empty e ≡ true = eq-eqb e.allocated 0 h in
        let none : nat_lt 0 e.allocated ≡ false = ap (nat_lt 0) h in
        rw none (inr (filter is_empty pools, filter_yes is_empty e pools empty, empty, rest))
    go (suc n) h rest =
        let full : is_empty e ≡ false = ne_eqb e.allocated 0 (λ z. omega arith) in
        let some : nat_lt 0 e.allocated ≡ true = lt-ltb 0 e.allocated (omega arith) in
        rw (some, full) (inl (filter (λ e. nat_lt 0 e.allocated) pools, refl, rest))

pub split : (everywhere : Bool) (pools : List Entry) → Split pools (left_of everywhere pools) (gone_of everywhere pools)
split true pools = split_all pools
split false pools = split_cut (prefix_len is_empty pools) pools (omega arith)

-- ---- what they have

-- what is left stood at a place
pub left_at : (pools left gone : List Entry) → Split pools left gone → (i : ℕ) (e : Entry) → slice_get left i ≡ Some e → (j : ℕ) × (slice_get pools j ≡ Some e)
left_at [] left gone s i e at = absurd (none-some e (ap (λ l. slice_get l i) (sym s.0) ∙ at))
left_at (x ∷ pools) left gone (inl s) zero e at = (0, ap (λ l. slice_get l 0) (sym s.1) ∙ at)
left_at (x ∷ pools) left gone (inl s) (suc i) e at = (let r = left_at pools s.0 gone s.2 i e (ap (λ l. slice_get l (suc i)) (sym s.1) ∙ at) in (suc r.0, r.1))
left_at (x ∷ pools) left gone (inr s) i e at = (let r = left_at pools left s.0 s.3 i e at in (suc r.0, r.1))

-- what goes stood at a place, and is empty
pub gone_at : (pools left gone : List Entry) → Split pools left gone → (i : ℕ) (e : Entry) → slice_get gone i ≡ Some e → (j : ℕ) × (slice_get pools j ≡ Some e) × (is_empty e ≡ true)
gone_at [] left gone s i e at = absurd (none-some e (ap (λ l. slice_get l i) (sym s.1) ∙ at))
gone_at (x ∷ pools) left gone (inl s) i e at = (let r = gone_at pools s.0 gone s.2 i e at in (suc r.0, r.1, r.2))
gone_at (x ∷ pools) left gone (inr s) zero e at = grind (arith, common_steps)
gone_at (x ∷ pools) left gone (inr s) (suc i) e at = (let r = gone_at pools left s.0 s.3 i e (ap (λ l. slice_get l (suc i)) (sym s.1) ∙ at) in (suc r.0, r.1, r.2))

-- each pool is left or goes
pub left_or_gone : (pools left gone : List Entry) → Split pools left gone → (j : ℕ) (e : Entry) → slice_get pools j ≡ Some e → ((i : ℕ) × (slice_get left i ≡ Some e)) ⊎ ((i : ℕ) × (slice_get gone i ≡ Some e))
left_or_gone [] left gone s j e at = absurd (none-some e at)
left_or_gone (x ∷ pools) left gone (inl s) zero e at = inl (0, ap (λ l. slice_get l 0) s.1 ∙ at)
left_or_gone (x ∷ pools) left gone (inr s) zero e at = inr (0, ap (λ l. slice_get l 0) s.1 ∙ at)
left_or_gone (x ∷ pools) left gone (inl s) (suc j) e at = elim (left_or_gone pools s.0 gone s.2 j e at) [
  | inl l ↦ inl (suc l.0, ap (λ m. slice_get m (suc l.0)) s.1 ∙ l.1)
  | inr g ↦ inr g
]
left_or_gone (x ∷ pools) left gone (inr s) (suc j) e at = elim (left_or_gone pools left s.0 s.3 j e at) [
  | inl l ↦ inl l
  | inr g ↦ inr (suc g.0, ap (λ m. slice_get m (suc g.0)) s.1 ∙ g.1)
]

-- no two places have one name
abbrev AreApart : List Entry → Type 0
AreApart pools = (i j : ℕ) (d e : Entry) → slice_get pools i ≡ Some d → slice_get pools j ≡ Some e → d.pool ≡ e.pool → i ≡ j

later : (x : Entry) (pools : List Entry) → AreApart (x ∷ pools) → AreApart pools
later x pools distinct i j d e p q r = (let both : suc i ≡ suc j = distinct (suc i) (suc j) d e p q r in omega arith)

-- and none does both: a pool that goes has the name of none that is left
pub apart : (pools left gone : List Entry) → Split pools left gone → AreApart pools
    → (i j : ℕ) (d e : Entry) → slice_get left i ≡ Some d → slice_get gone j ≡ Some e → d.pool ≢ e.pool
apart [] left gone s distinct i j d e at at' same = absurd (none-some d (ap (λ l. slice_get l i) (sym s.0) ∙ at))
apart (x ∷ pools) left gone (inl s) distinct zero j d e at at' same =
    let there = gone_at pools s.0 gone s.2 j e at' in
    let bad : 0 ≡ suc there.0 = distinct 0 (suc there.0) d e (ap (λ l. slice_get l 0) (sym s.1) ∙ at) there.1 same in
    omega arith
apart (x ∷ pools) left gone (inl s) distinct (suc i) j d e at at' same = apart pools s.0 gone s.2 (later x pools distinct) i j d e (ap (λ l. slice_get l (suc i)) (sym s.1) ∙ at) at' same
apart (x ∷ pools) left gone (inr s) distinct i zero d e at at' same =
    let there = left_at pools left s.0 s.3 i d at in
    let bad : suc there.0 ≡ 0 = distinct (suc there.0) 0 d e there.1 (ap (λ l. slice_get l 0) (sym s.1) ∙ at') same in
    omega arith
apart (x ∷ pools) left gone (inr s) distinct i (suc j) d e at at' same = apart pools left s.0 s.3 (later x pools distinct) i j d e at (ap (λ l. slice_get l (suc j)) (sym s.1) ∙ at') same

-- the numbers of those that are left rise
all_left : (n : ℕ) (pools left gone : List Entry) → Split pools left gone → list_all (nat_lt n) (numbers_of pools) ≡ true → list_all (nat_lt n) (numbers_of left) ≡ true
all_left n [] left gone s h = ap (λ (l : List Entry). list_all (nat_lt n) (numbers_of l)) s.0
all_left n (x ∷ pools) left gone (inl s) h = (let both = and_parts (nat_lt n x.number) (list_all (nat_lt n) (numbers_of pools)) h in ap (λ (l : List Entry). list_all (nat_lt n) (numbers_of l)) s.1 ∙ and_from _ _ both.0 (all_left n pools s.0 gone s.2 both.1))
all_left n (x ∷ pools) left gone (inr s) h = all_left n pools left s.0 s.3 (and_parts (nat_lt n x.number) (list_all (nat_lt n) (numbers_of pools)) h).1

pub left_rises : (pools left gone : List Entry) → Split pools left gone → rises (numbers_of pools) ≡ true → rises (numbers_of left) ≡ true
left_rises [] left gone s h = ap (λ (l : List Entry). rises (numbers_of l)) s.0
left_rises (x ∷ pools) left gone (inl s) h = grind (arith, common_steps, all_left, and_from, and_parts, rises, (left_rises pools s.0 gone s.2))
left_rises (x ∷ pools) left gone (inr s) h = left_rises pools left s.0 s.3 (and_parts (list_all (nat_lt x.number) (numbers_of pools)) (rises (numbers_of pools)) h).1

-- no pool has two places
pub one_place : (es : List Entry) → rises (numbers_of es) ≡ true → (i j : ℕ) (e : Entry) → slice_get es i ≡ Some e → slice_get es j ≡ Some e → i ≡ j
one_place es h i j e at at' = rises_once (numbers_of es) h i j e.number (number_of es i e at) (number_of es j e at')

-- ---- a second time nothing goes

-- what is left when the front goes has no empty pool in front
stays_front : (pools : List Entry) → prefix_len is_empty (drop (prefix_len is_empty pools) pools) ≡ 0
stays_front [] = refl
stays_front (e ∷ pools) = grind (arith, common_steps, front_no, front_yes, (stays_front pools))

filter_twice : (pools : List Entry) → filter (λ e. nat_lt 0 e.allocated) (filter (λ e. nat_lt 0 e.allocated) pools) ≡ filter (λ e. nat_lt 0 e.allocated) pools
filter_twice [] = refl
filter_twice (e ∷ pools) = grind (arith, common_steps, (filter_twice pools))

none_twice : (pools : List Entry) → filter is_empty (filter (λ e. nat_lt 0 e.allocated) pools) ≡ []
none_twice [] = refl
none_twice (e ∷ pools) = go e.allocated refl (none_twice pools)
  where
    go : (n : ℕ) → e.allocated ≡ n → filter is_empty (filter (λ e. nat_lt 0 e.allocated) pools) ≡ [] → filter is_empty (filter (λ e. nat_lt 0 e.allocated) (e ∷ pools)) ≡ []
    go zero h rest = (let none : nat_lt 0 e.allocated ≡ false = ap (nat_lt 0) h in rw none rest)
    go (suc n) h rest = grind (arith, common_steps)

-- so what is left stays, and none of it goes
pub left_twice : (everywhere : Bool) (pools : List Entry) → left_of everywhere (left_of everywhere pools) ≡ left_of everywhere pools
left_twice true pools = filter_twice pools
left_twice false pools = ap (λ n. drop n (drop (prefix_len is_empty pools) pools)) (stays_front pools)

pub gone_twice : (everywhere : Bool) (pools : List Entry) → gone_of everywhere (left_of everywhere pools) ≡ []
gone_twice true pools = none_twice pools
gone_twice false pools = ap (λ n. take n (drop (prefix_len is_empty pools) pools)) (stays_front pools)

-- ---- where all are empty

pub no_pools_left : (everywhere : Bool) → left_of everywhere [] ≡ []
no_pools_left true = refl
no_pools_left false = refl

pub all_go : (everywhere : Bool) (pools : List Entry) → ((i : ℕ) (e : Entry) → slice_get pools i ≡ Some e → is_empty e ≡ true) → left_of everywhere pools ≡ []
all_go everywhere [] h = no_pools_left everywhere
all_go true (e ∷ pools) h =
    let none : nat_lt 0 e.allocated ≡ false = ap (nat_lt 0) (eqb-true e.allocated 0 (h 0 e refl)) in
    rw none (all_go true pools (λ i. h (suc i)))
all_go false (e ∷ pools) h = rw (front_yes e pools (h 0 e refl)) (all_go false pools (λ i. h (suc i)))

-- ---- names and buckets

-- a name among entries is that of one at a place; and the name of an entry at a place is among them
pub named_at : (es : List Entry) (pool : ℕ) → are_named es pool ≡ true → (i : ℕ) × (e : Entry) × (slice_get es i ≡ Some e) × (e.pool ≡ pool)
named_at es pool h = (let found = found_at (λ e. e.pool == pool) es h in (found.0, found.1, found.2, eqb-true found.1.pool pool found.3))

pub is_named_at : (es : List Entry) (i : ℕ) (e : Entry) → slice_get es i ≡ Some e → are_named es e.pool ≡ true
is_named_at es i e at = any_here (λ d. d.pool == e.pool) es i e at (eq-eqb e.pool e.pool refl)

-- the bucket with these of its pools: its pools, its id if there are some, and itself cleaned up or trimmed again
pub pools_with : (b : Bucket) (es : List Entry) → (with_pools b es).pools ≡ es
pools_with b [] = refl
pools_with b (e ∷ es) = refl

pub id_with : (b : Bucket) (es : List Entry) (i : ℕ) (e : Entry) → slice_get es i ≡ Some e → (with_pools b es).id ≡ b.id
id_with b [] i e at = absurd (none-some e at)
id_with b (x ∷ es) i e at = refl

pub with_twice : (b : Bucket) (everywhere : Bool) (es : List Entry) → left_of everywhere es ≡ es → with_pools (with_pools b es) (left_of everywhere (with_pools b es).pools) ≡ with_pools b es
with_twice b everywhere [] h = ap (with_pools no_pools) h
with_twice b everywhere (e ∷ es) h = ap (with_pools (with_pools b (e ∷ es))) h
