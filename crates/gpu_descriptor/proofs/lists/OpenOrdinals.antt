-- How the list of open pools changes with the pools.
-- For lists.OpenList, `release_sets` and the walk. xs says of each pool, oldest first, how many free places are known. The list has
-- the ordinals of those with some; first is the ordinal of the first pool, and `number` an ordinal too.
use Rattle.gpu_descriptor.proofs.Common.{ℕ, zero, suc, ◌+◌, ◌<◌, ◌≤◌, ◌≡◌, List, [], ◌∷◌, ◌++◌, length, take, drop, get_or, slice_set, insert, arith, refl, sym, ap, ◌∙◌, subst, slice_get, Some, append-nil, set_split, IsNonDecreasing, IsPartitionPoint, slice_get_within, common_steps, open_ordinals}
use Rattle.gpu_descriptor.proofs.lists.AtPlaces.{get_drop, long_take, split_at}

-- of pools in two parts
pub open_append : (first : ℕ) (xs ys : List ℕ) → open_ordinals first (xs ++ ys) ≡ open_ordinals first xs ++ open_ordinals (first + length xs) ys
open_append first [] ys = ap (λ n. open_ordinals n ys) (let e : first ≡ first + 0 = omega arith in e)
open_append first (zero ∷ xs) ys = open_append (suc first) xs ys ∙ ap (λ n. open_ordinals (suc first) xs ++ open_ordinals n ys) (let e : suc first + length xs ≡ first + suc (length xs) = omega arith in e)
open_append first (suc x ∷ xs) ys = ap (λ l. first ∷ l) (open_append (suc first) xs ys ∙ ap (λ n. open_ordinals (suc first) xs ++ open_ordinals n ys) (let e : suc first + length xs ≡ first + suc (length xs) = omega arith in e))

pub open_none : (first : ℕ) (xs : List ℕ) → ((i n : ℕ) → slice_get xs i ≡ Some n → n ≡ 0) → open_ordinals first xs ≡ []
open_none first [] none = refl
open_none first (zero ∷ xs) none = open_none (suc first) xs (λ i n at. none (suc i) n at)
open_none first (suc x ∷ xs) none = (let e = none zero (suc x) refl in absurd (omega arith))

-- ---- the numbers are those of pools, and rise

-- each number is from low up to high
abbrev pub AreBetween : ℕ → ℕ → List ℕ → Type 0
AreBetween low high [] = Unit {0}
AreBetween low high (x ∷ xs) = (low ≤ x) × (x < high) × AreBetween low high xs

wider : (low low' high high' : ℕ) (xs : List ℕ) → low ≤ low' → high' ≤ high → AreBetween low' high' xs → AreBetween low high xs
wider low low' high high' [] h k a = tt
wider low low' high high' (x ∷ xs) h k a = (omega (arith, h, a.0), omega (arith, k, a.1), wider low low' high high' xs h k a.2)

-- the numbers are the ordinals of pools, and rise
pub open_between : (first : ℕ) (xs : List ℕ) → AreBetween first (first + length xs) (open_ordinals first xs)
open_between first [] = tt
open_between first (zero ∷ xs) = wider first (suc first) (first + suc (length xs)) (suc first + length xs) (open_ordinals (suc first) xs) (omega arith) (omega arith) (open_between (suc first) xs)
open_between first (suc x ∷ xs) = (omega arith, omega arith, wider first (suc first) (first + suc (length xs)) (suc first + length xs) (open_ordinals (suc first) xs) (omega arith) (omega arith) (open_between (suc first) xs))

pub between_at : (low high : ℕ) (xs : List ℕ) (i d : ℕ) → AreBetween low high xs → i < length xs → (low ≤ get_or xs i d) × (get_or xs i d < high)
between_at low high [] i d a lt = absurd (omega arith)
between_at low high (x ∷ xs) zero d a lt = (a.0, a.1)
between_at low high (x ∷ xs) (suc i) d a lt = between_at low high xs i d a.2 (omega arith)

rises_below : (low high first : ℕ) (xs : List ℕ) → first ≤ low → AreBetween low high xs → IsNonDecreasing xs → IsNonDecreasing (first ∷ xs)
rises_below low high first xs h a rises zero zero d le lt = omega arith
rises_below low high first xs h a rises zero (suc j) d le lt = (let b = between_at low high xs j d a (omega arith) in omega arith)
rises_below low high first xs h a rises (suc i) zero d le lt = absurd (omega arith)
rises_below low high first xs h a rises (suc i) (suc j) d le lt = rises i j d (omega arith) (omega arith)

pub open_rises : (first : ℕ) (xs : List ℕ) → IsNonDecreasing (open_ordinals first xs)
open_rises first [] = λ i j d h lt. absurd (omega arith)
open_rises first (zero ∷ xs) = open_rises (suc first) xs
open_rises first (suc x ∷ xs) = rises_below (suc first) (suc first + length xs) first (open_ordinals (suc first) xs) (omega arith) (open_between (suc first) xs) (open_rises (suc first) xs)

-- there are no more than pools
pub open_few : (first : ℕ) (xs : List ℕ) → length (open_ordinals first xs) ≤ length xs
open_few first [] = omega arith
open_few first (zero ∷ xs) = (let h = open_few (suc first) xs in omega arith)
open_few first (suc x ∷ xs) = (let h = open_few (suc first) xs in omega arith)

-- ---- a pool behind the others

-- it is listed exactly if it has known free places
pub open_push_none : (first : ℕ) (xs : List ℕ) → open_ordinals first (xs ++ 0 ∷ []) ≡ open_ordinals first xs
open_push_none first xs = open_append first xs (0 ∷ []) ∙ append-nil (open_ordinals first xs)

pub open_push_some : (first : ℕ) (xs : List ℕ) (n : ℕ) → 0 < n → open_ordinals first (xs ++ n ∷ []) ≡ open_ordinals first xs ++ (first + length xs) ∷ []
open_push_some first xs zero h = absurd (omega arith)
open_push_some first xs (suc n) h = open_append first xs (suc n ∷ [])

-- ---- the pool at a place

-- the numbers before a place, and those from behind it
abbrev pub before : ℕ → List ℕ → ℕ → List ℕ
before first xs i = open_ordinals first (take i xs)

abbrev pub appended : ℕ → List ℕ → ℕ → List ℕ
appended first xs i = open_ordinals (first + suc i) (drop (suc i) xs)

-- the list around the pool at place i, and once that has m known free places
pub open_around : (first : ℕ) (xs : List ℕ) (i n : ℕ) → slice_get xs i ≡ Some n → open_ordinals first xs ≡ before first xs i ++ open_ordinals (first + i) (n ∷ drop (suc i) xs)
open_around first xs i n at =
    ap (open_ordinals first) (split_at xs i n at) ∙ open_append first (take i xs) (n ∷ drop (suc i) xs)
    ∙ ap (λ k. before first xs i ++ open_ordinals (first + k) (n ∷ drop (suc i) xs)) (long_take xs i n at)

pub open_set : (first : ℕ) (xs : List ℕ) (i n m : ℕ) → slice_get xs i ≡ Some n → open_ordinals first (slice_set xs i m) ≡ before first xs i ++ open_ordinals (first + i) (m ∷ drop (suc i) xs)
open_set first xs i n m at = grind (arith, long_take, open_append, set_split, slice_get_within)

one_up : (first i : ℕ) (ys : List ℕ) → open_ordinals (suc (first + i)) ys ≡ open_ordinals (first + suc i) ys
one_up first i ys = ap (λ n. open_ordinals n ys) (let e : suc (first + i) ≡ first + suc i = omega arith in e)

-- a pool that was open stays open
pub open_set_open : (first : ℕ) (xs : List ℕ) (i n m : ℕ) → slice_get xs i ≡ Some n → 0 < n → 0 < m → open_ordinals first (slice_set xs i m) ≡ open_ordinals first xs
open_set_open first xs i zero m at h k = absurd (omega arith)
open_set_open first xs i (suc n) zero at h k = absurd (omega arith)
open_set_open first xs i (suc n) (suc m) at h k = open_set first xs i (suc n) (suc m) at ∙ sym (open_around first xs i (suc n) at)

-- ---- the place of a number in a list in two parts

-- those before the place are below the number, those from the place on aren't: then the first part ends there
pub part_ends : (low high number : ℕ) (xs ys : List ℕ) (place : ℕ) → AreBetween low number xs → AreBetween number high ys → place ≤ length (xs ++ ys) → IsPartitionPoint (λ x. x < number) (λ x. number ≤ x) (xs ++ ys) place → place ≡ length xs
part_ends low high number [] [] place a b within p = omega arith
part_ends low high number [] (y ∷ ys) zero a b within p = refl
part_ends low high number [] (y ∷ ys) (suc place) a b within p = (let h = p.0 0 0 (omega arith) (omega arith) in let k = b.0 in absurd (omega arith))
part_ends low high number (x ∷ xs) ys zero a b within p = (let h = p.1 0 0 (omega arith) (omega arith) in let k = a.1 in absurd (omega arith))
part_ends low high number (x ∷ xs) ys (suc place) a b within p =
    ap suc (part_ends low high number xs ys place a.2 b (omega arith) (λ k d h lt. p.0 (suc k) d (omega arith) (omega arith), λ k d h lt. p.1 (suc k) d (omega arith) (omega arith)))

insert_between : (xs ys : List ℕ) (n : ℕ) → insert (xs ++ ys) (length xs) n ≡ xs ++ n ∷ ys
insert_between [] ys n = refl
insert_between (x ∷ xs) ys n = ap (λ l. x ∷ l) (insert_between xs ys n)

-- a pool that gains its first known free places comes in at the place of its number
pub open_gains : (first : ℕ) (xs : List ℕ) (i m place : ℕ) → slice_get xs i ≡ Some 0 → 0 < m → place ≤ length (open_ordinals first xs) → IsPartitionPoint (λ x. x < first + i) (λ x. first + i ≤ x) (open_ordinals first xs) place
    → open_ordinals first (slice_set xs i m) ≡ insert (open_ordinals first xs) place (first + i)
open_gains first xs i zero place at h within p = absurd (omega arith)
open_gains first xs i (suc m) place at h within p =
    let is : open_ordinals first xs ≡ before first xs i ++ appended first xs i = open_around first xs i 0 at ∙ ap (λ l. before first xs i ++ l) (one_up first i (drop (suc i) xs)) in
    let low : AreBetween first (first + i) (before first xs i) = subst (λ (n : ℕ). AreBetween first (first + n) (before first xs i)) (long_take xs i 0 at) (open_between first (take i xs)) in
    let high : AreBetween (first + i) (first + suc i + length (drop (suc i) xs)) (appended first xs i) = wider (first + i) (first + suc i) _ _ (appended first xs i) (omega arith) (omega arith) (open_between (first + suc i) (drop (suc i) xs)) in
    let ends : place ≡ length (before first xs i) =
    part_ends first (first + suc i + length (drop (suc i) xs)) (first + i) (before first xs i) (appended first xs i)
    place low high (let e = ap length is in omega arith)
    (subst (λ (l : List ℕ). IsPartitionPoint (λ x. x < first + i) (λ x. first + i ≤ x) l place) is p) in
    grind (arith, common_steps, insert_between, one_up, open_set)

-- ---- the newest open pool

-- where no number is left, no pool has known free places
pub open_all_none : (first : ℕ) (xs : List ℕ) → open_ordinals first xs ≡ [] → (i n : ℕ) → slice_get xs i ≡ Some n → n ≡ 0
open_all_none first [] none i n at = absurd (cc)
open_all_none first (zero ∷ xs) none zero n at = (let e : zero ≡ n = cc in sym e)
open_all_none first (zero ∷ xs) none (suc i) n at = open_all_none (suc first) xs none i n at
open_all_none first (suc x ∷ xs) none i n at = absurd (cc)

-- the greatest ordinal is that of an open pool, and no pool behind it has known free places
pub record IsNewestOpen (first : ℕ) (xs front : List ℕ) (number : ℕ) : Type 0 where
  pub place : ℕ
  pub free : ℕ
  pub is : number ≡ first + place
  pub at : slice_get xs place ≡ Some free
  pub some : 0 < free
  pub older : front ≡ open_ordinals first (take place xs)
  pub newer : (i n : ℕ) → place < i → slice_get xs i ≡ Some n → n ≡ 0

-- the last ordinal of the list is that of the newest open pool
pub newest_open : (first : ℕ) (xs front : List ℕ) (number : ℕ) → open_ordinals first xs ≡ front ++ number ∷ [] → IsNewestOpen first xs front number
newest_open first [] [] number h = absurd (cc)
newest_open first [] (y ∷ front) number h = absurd (cc)
newest_open first (zero ∷ xs) front number h = one_on (newest_open (suc first) xs front number h)
  where
    one_on : IsNewestOpen (suc first) xs front number → IsNewestOpen first (zero ∷ xs) front number
    one_on o = record { place = suc o.place; free = o.free; is = (let e = o.is in omega arith); at = o.at; some = o.some; older = o.older; newer = later o.newer }
      where
        later : ((i n : ℕ) → o.place < i → slice_get xs i ≡ Some n → n ≡ 0) → (i n : ℕ) → suc o.place < i → slice_get (zero ∷ xs) i ≡ Some n → n ≡ 0
        later f zero n lt at = absurd (omega arith)
        later f (suc i) n lt at = f i n (omega arith) at
newest_open first (suc x ∷ xs) [] number h =
    let none : open_ordinals (suc first) xs ≡ [] = cc in
    let same : number ≡ first = cc in
    record { place = zero; free = suc x; is = omega arith; at = refl; some = omega arith; older = refl; newer = later none }
  where
    later : open_ordinals (suc first) xs ≡ [] → (i n : ℕ) → 0 < i → slice_get (suc x ∷ xs) i ≡ Some n → n ≡ 0
    later none zero n lt at = absurd (omega arith)
    later none (suc i) n lt at = open_all_none (suc first) xs none i n at
newest_open first (suc x ∷ xs) (y ∷ front) number h =
    let rest : open_ordinals (suc first) xs ≡ front ++ number ∷ [] = cc in
    let same : first ≡ y = cc in
    one_on same (newest_open (suc first) xs front number rest)
  where
    one_on : first ≡ y → IsNewestOpen (suc first) xs front number → IsNewestOpen first (suc x ∷ xs) (y ∷ front) number
    one_on same o = record { place = suc o.place; free = o.free; is = (let e = o.is in omega arith); at = o.at; some = o.some; older = (let e = o.older in cc); newer = later o.newer }
      where
        later : ((i n : ℕ) → o.place < i → slice_get xs i ≡ Some n → n ≡ 0) → (i n : ℕ) → suc o.place < i → slice_get (suc x ∷ xs) i ≡ Some n → n ≡ 0
        later f zero n lt at = absurd (omega arith)
        later f (suc i) n lt at = f i n (omega arith) at

-- ---- a pool at a place loses its last known free place: where it was the newest open one, its number goes from the end
pub open_closes : (first : ℕ) (xs front : List ℕ) (number : ℕ) (o : IsNewestOpen first xs front number) → open_ordinals first (slice_set xs o.place 0) ≡ front
open_closes first xs front number o =
    open_set first xs o.place o.free 0 o.at
    ∙ ap (λ l. before first xs o.place ++ l) (open_none (suc (first + o.place)) (drop (suc o.place) xs) (λ i n at. o.newer (suc o.place + i) n (omega arith) (sym (get_drop xs (suc o.place) i) ∙ at)))
    ∙ append-nil (before first xs o.place) ∙ sym o.older

-- where some pool has no known free place there are fewer numbers than pools
pub open_few_at : (first : ℕ) (xs : List ℕ) (i : ℕ) → slice_get xs i ≡ Some 0 → length (open_ordinals first xs) < length xs
open_few_at first [] i at = absurd (cc)
open_few_at first (zero ∷ xs) i at = (let h = open_few (suc first) xs in omega arith)
open_few_at first (suc x ∷ xs) zero at = absurd (cc)
open_few_at first (suc x ∷ xs) (suc i) at = (let h = open_few_at (suc first) xs i at in omega arith)
