-- The numbers of a key's pools: they rise, so each number stands at one place.
-- For whatever finds a pool by its number (`place_of_pool`), a key by its id (`place_of_id`), or has to say that numbers rise.
use Rattle.gpu_descriptor.proofs.Common.{common_steps, ◌≡◌, ℕ, zero, suc, ◌+◌, ◌-◌, ◌<◌, ◌≤◌, ◌==◌, Bool, true, false, nat_lt, List, [], ◌∷◌, ◌++◌, length, map, drop, filter, slice_get, slice_index, slice_index_or, IsNonDecreasing, IsPartitionPoint, Some, option_map, inl, inr, refl}
use Rattle.gpu_descriptor.proofs.Common.{sym, ap, ◌∙◌, arith, eq-eqb, eqb-true, lt-ltb, and_parts, and_from, cases_Bool, cases_lt, list_all, slice_get_within, DescriptorPool, Entry, Bucket, entry_at, rises, number_after, numbers_of, none-some, same_Some}
use Rattle.std.specs.List.{find}

-- a number that is below all of a list
pub all_above : (n : ℕ) (xs : List ℕ) → list_all (nat_lt n) xs ≡ true → (i m : ℕ) → slice_get xs i ≡ Some m → n < m
all_above n [] h i m at = absurd (none-some m at)
all_above n (x ∷ xs) h zero m at = grind arith
all_above n (x ∷ xs) h (suc i) m at = all_above n xs (and_parts (nat_lt n x) (list_all (nat_lt n) xs) h).1 i m at

pub all_from : (n : ℕ) (xs : List ℕ) → ((i m : ℕ) → slice_get xs i ≡ Some m → n < m) → list_all (nat_lt n) xs ≡ true
all_from n [] h = refl
all_from n (x ∷ xs) h = and_from _ _ (lt-ltb n x (h 0 x refl)) (all_from n xs (λ i. h (suc i)))

-- ---- what rises

pub rises_at : (xs : List ℕ) → rises xs ≡ true → (i j m n : ℕ) → i < j → slice_get xs i ≡ Some m → slice_get xs j ≡ Some n → m < n
rises_at [] h i j m n lt a b = absurd (none-some m a)
rises_at (x ∷ xs) h i zero m n lt a b = absurd (omega arith)
rises_at (x ∷ xs) h zero (suc j) m n lt a b = grind (arith, common_steps, all_above, and_parts, rises)
rises_at (x ∷ xs) h (suc i) (suc j) m n lt a b = rises_at xs (and_parts (list_all (nat_lt x) xs) (rises xs) h).1 i j m n (omega arith) a b

-- so each stands at one place
pub rises_once : (xs : List ℕ) → rises xs ≡ true → (i j n : ℕ) → slice_get xs i ≡ Some n → slice_get xs j ≡ Some n → i ≡ j
rises_once xs h i j n a b = grind (arith, common_steps, rises_at)

-- the next number is above all
pub below_next : (xs : List ℕ) → rises xs ≡ true → (i m : ℕ) → slice_get xs i ≡ Some m → m < number_after xs
below_next [] h i m at = absurd (none-some m at)
below_next (x ∷ []) h zero m at = (let same : x ≡ m = cc in omega arith)
below_next (x ∷ []) h (suc i) m at = absurd (none-some m at)
below_next (x ∷ y ∷ xs) h zero m at = grind (arith, common_steps, (below_next (y ∷ xs) (and_parts (list_all (nat_lt x) (y ∷ xs)) (rises (y ∷ xs)) h).1 0 y refl))
below_next (x ∷ y ∷ xs) h (suc i) m at = below_next (y ∷ xs) (and_parts (list_all (nat_lt x) (y ∷ xs)) (rises (y ∷ xs)) h).1 i m at

-- a number that isn't below the next may come last
pub rises_push : (xs : List ℕ) (n : ℕ) → rises xs ≡ true → number_after xs ≤ n → rises (xs ++ n ∷ []) ≡ true
rises_push [] n h le = refl
rises_push (x ∷ xs) n h le =
    let both = and_parts (list_all (nat_lt x) xs) (rises xs) h in
    let above = below_next (x ∷ xs) h 0 x refl in
    and_from _ _ (all_push x xs both.0 (omega arith)) (rises_push xs n both.1 (later xs le))
  where
    all_push : (m : ℕ) (ys : List ℕ) → list_all (nat_lt m) ys ≡ true → m < n → list_all (nat_lt m) (ys ++ n ∷ []) ≡ true
    all_push m [] h lt = and_from _ _ (lt-ltb m n lt) refl
    all_push m (y ∷ ys) h lt = (let p = and_parts (nat_lt m y) (list_all (nat_lt m) ys) h in and_from _ _ p.0 (all_push m ys p.1 lt))

    later : (ys : List ℕ) → number_after (x ∷ ys) ≤ n → number_after ys ≤ n
    later [] le = omega arith
    later (y ∷ ys) le = le

pub next_push : (xs : List ℕ) (n : ℕ) → number_after (xs ++ n ∷ []) ≡ n + 1
next_push [] n = refl
next_push (x ∷ []) n = refl
next_push (x ∷ y ∷ xs) n = next_push (y ∷ xs) n

-- a key has no more pools than the number of its next one, so `first_ordinal` takes nothing below 0
pub few_numbers : (xs : List ℕ) → rises xs ≡ true → length xs ≤ number_after xs
few_numbers xs h = at_least xs h 0 (λ i m at. omega arith)
  where
    at_least : (ys : List ℕ) → rises ys ≡ true → (low : ℕ) → ((i m : ℕ) → slice_get ys i ≡ Some m → low ≤ m) → length ys ≤ number_after ys
    at_least ys h low each = (let far = reaches ys h low each in elim (cases_lt 0 (length ys)) [ inl some ↦ (let f = far some in omega arith) | inr none ↦ (omega arith) ])
      where
        reaches : (zs : List ℕ) → rises zs ≡ true → (low : ℕ) → ((i m : ℕ) → slice_get zs i ≡ Some m → low ≤ m) → 0 < length zs → low + length zs ≤ number_after zs
        reaches [] h low each some = absurd (omega arith)
        reaches (z ∷ []) h low each some = (let first = each 0 z refl in omega arith)
        reaches (z ∷ y ∷ zs) h low each some =
            let both = and_parts (list_all (nat_lt z) (y ∷ zs)) (rises (y ∷ zs)) h in
            let first = each 0 z refl in
            let rest = reaches (y ∷ zs) both.1 (suc low) (λ i m at. (let lt = all_above z (y ∷ zs) both.0 i m at in omega arith)) (omega arith) in
            omega arith

-- ---- where numbers stand

-- each is as far above the first as it stands behind it, at least
pub above_first : (xs : List ℕ) → rises xs ≡ true → (i n : ℕ) → slice_get xs i ≡ Some n → slice_index xs 0 + i ≤ n
above_first [] h i n at = absurd (none-some n at)
above_first (x ∷ xs) h zero n at = (let same : x ≡ n = cc in omega arith)
above_first (x ∷ []) h (suc i) n at = absurd (none-some n at)
above_first (x ∷ y ∷ xs) h (suc i) n at = grind (arith, common_steps, all_above, and_parts, rises, (above_first (y ∷ xs)))

-- and as far below the next one
pub below_last : (xs : List ℕ) → rises xs ≡ true → (i n : ℕ) → slice_get xs i ≡ Some n → n + length xs ≤ number_after xs + i
below_last [] h i n at = absurd (none-some n at)
below_last (x ∷ []) h zero n at = (let same : x ≡ n = cc in omega arith)
below_last (x ∷ []) h (suc i) n at = absurd (none-some n at)
below_last (x ∷ y ∷ xs) h zero n at =
    let same : x ≡ n = cc in
    let both = and_parts (list_all (nat_lt x) (y ∷ xs)) (rises (y ∷ xs)) h in
    let first = all_above x (y ∷ xs) both.0 0 y refl in
    let rest = below_last (y ∷ xs) both.1 0 y refl in
    omega arith
below_last (x ∷ y ∷ xs) h (suc i) n at = (let rest = below_last (y ∷ xs) (and_parts (list_all (nat_lt x) (y ∷ xs)) (rises (y ∷ xs)) h).1 i n at in omega arith)

-- without gaps each is told by its place
pub no_gaps : (xs : List ℕ) → rises xs ≡ true → nat_lt (slice_index xs 0 + length xs) (number_after xs) ≡ false → (i n : ℕ) → slice_get xs i ≡ Some n → n ≡ number_after xs - length xs + i
no_gaps xs h dense i n at = grind (arith, common_steps, (above_first xs h i n at), (below_last xs h i n at), (slice_get_within xs i n at))

read_at : (xs : List ℕ) (i d : ℕ) → i < length xs → slice_get xs i ≡ Some (slice_index_or xs i d)
read_at [] i d lt = absurd (omega arith)
read_at (x ∷ xs) zero d lt = refl
read_at (x ∷ xs) (suc i) d lt = read_at xs i d (omega arith)

-- numbers that rise are sorted, as a search by halving requires
pub rises_sorted : (xs : List ℕ) → rises xs ≡ true → IsNonDecreasing xs
rises_sorted xs h i j d le lt = elim (cases_lt i j) [
  | inl less ↦ (let rest = rises_at xs h i j _ _ less (read_at xs i d (omega arith)) (read_at xs j d lt) in omega arith)
  | inr same ↦ (let is : i ≡ j = omega arith in let e = ap (λ (k : ℕ). slice_index_or xs k d) is in omega arith)
]

-- a search for a number that is there ends where it stands
pub search_ends : (xs : List ℕ) → rises xs ≡ true → (n r : ℕ) → IsPartitionPoint (λ x. x < n) (λ x. n ≤ x) xs r → (i : ℕ) → slice_get xs i ≡ Some n → slice_get xs r ≡ Some n
search_ends xs h n r point i at =
    let within = slice_get_within xs i n at in
    elim (cases_lt r i) [
      | inl before ↦ absurd (
          let least = point.1 r 0 (omega arith) (omega arith) in
          let below = rises_at xs h r i _ n before (read_at xs r 0 (omega arith)) at in
          omega arith)
      | inr least ↦ elim (cases_lt i r) [
        | inl after ↦ absurd (
            let less = point.0 i 0 (omega arith) after in
            let is : n ≡ slice_index_or xs i 0 = same_Some n (slice_index_or xs i 0) (sym at ∙ read_at xs i 0 within) in
            omega arith)
        | inr above ↦ (let is : r ≡ i = omega arith in ap (slice_get xs) is ∙ at)
      ]
    ]

pub rises_drop : (xs : List ℕ) (n : ℕ) → rises xs ≡ true → rises (drop n xs) ≡ true
rises_drop xs zero h = h
rises_drop [] (suc n) h = refl
rises_drop (x ∷ xs) (suc n) h = rises_drop xs n (and_parts (list_all (nat_lt x) xs) (rises xs) h).1

-- of a list in two parts the first rises
pub rises_front : (xs ys : List ℕ) → rises (xs ++ ys) ≡ true → rises xs ≡ true
rises_front [] ys h = refl
rises_front (x ∷ xs) ys h = grind (arith, common_steps, all_above, all_from, (rises_front xs ys))

-- and those that stay rise still
all_filter : {A : Type 0} (f : A → ℕ) (stays : A → Bool) (ys : List ℕ) (n : ℕ) (es : List A) → list_all (nat_lt n) (map f es ++ ys) ≡ true → list_all (nat_lt n) (map f (filter stays es) ++ ys) ≡ true
all_filter f stays ys n [] h = h
all_filter f stays ys n (e ∷ es) h = grind (arith, (all_filter f stays ys n es))

-- as is what holds of each
pub all_left : {A : Type 0} (f : A → ℕ) (stays : A → Bool) (p : ℕ → Bool) (es : List A) → list_all p (map f es) ≡ true → list_all p (map f (filter stays es)) ≡ true
all_left f stays p [] h = h
all_left f stays p (e ∷ es) h = grind (arith, (all_left f stays p es))

pub rises_filter : {A : Type 0} (f : A → ℕ) (stays : A → Bool) (ys : List ℕ) (es : List A) → rises (map f es ++ ys) ≡ true → rises (map f (filter stays es) ++ ys) ≡ true
rises_filter f stays ys [] h = h
rises_filter f stays ys (e ∷ es) h = grind (arith, all_filter, (rises_filter f stays ys es))

-- ---- pools

module _ {X : Type 0} where
  pub number_of : (es : List (DescriptorPool X)) (i : ℕ) (e : DescriptorPool X) → slice_get es i ≡ Some e → slice_get (numbers_of es) i ≡ Some e.number
  number_of [] i e at = absurd (none-some e at)
  number_of (x ∷ es) zero e at = (let same : x ≡ e = cc in ap (λ (y : DescriptorPool X). Some y.number) same)
  number_of (x ∷ es) (suc i) e at = number_of es i e at

  pub numbers_drop : (es : List (DescriptorPool X)) (n : ℕ) → numbers_of (drop n es) ≡ drop n (numbers_of es)
  numbers_drop es zero = refl
  numbers_drop [] (suc n) = refl
  numbers_drop (e ∷ es) (suc n) = numbers_drop es n

  -- a change of pools that leaves their numbers
  pub numbers_map : (f : DescriptorPool X → DescriptorPool X) → ((e : DescriptorPool X) → (f e).number ≡ e.number) → (es : List (DescriptorPool X)) → numbers_of (map f es) ≡ numbers_of es
  numbers_map f same [] = refl
  numbers_map f same (e ∷ es) = λ i. same e i ∷ numbers_map f same es i

-- the first entry of a number is at a place; and if numbers rise, an entry at a place is the first of its number
find_place : (es : List Entry) (n : ℕ) (e : Entry) → find (λ d. d.number == n) es ≡ Some e → (i : ℕ) × (slice_get es i ≡ Some e) × (e.number ≡ n)
find_place [] n e h = absurd (none-some e h)
find_place (x ∷ es) n e h = elim (cases_Bool (x.number == n)) [
  | inl hit ↦ (let same : Some x ≡ Some e = rw hit at h in let is : x ≡ e = same_Some x e same in (0, same, ap (λ (y : Entry). y.number) (sym is) ∙ eqb-true x.number n hit))
  | inr miss ↦ (let later = find_place es n e (rw miss at h) in (suc later.0, later.1, later.2))
]

place_find : (es : List Entry) (i : ℕ) (e : Entry) → rises (numbers_of es) ≡ true → slice_get es i ≡ Some e → find (λ d. d.number == e.number) es ≡ Some e
place_find [] i e h at = absurd (none-some e at)
place_find (x ∷ es) zero e h at = (let same : x ≡ e = cc in rw (eq-eqb x.number e.number (ap (λ (y : Entry). y.number) same)) at)
place_find (x ∷ es) (suc i) e h at = grind (arith, common_steps, all_above, and_parts, number_of, rises, (place_find es i e))

-- what has a number stands at a place
pub entry_at-found : (b : Bucket) (n : ℕ) (e : Entry) → entry_at b n ≡ Some e → (i : ℕ) × (slice_get b.pools i ≡ Some e) × (e.number ≡ n)
entry_at-found b n e h = find_place b.pools n e h

-- and what stands at a place has its number
pub entry_at-from : (b : Bucket) (i : ℕ) (e : Entry) → rises (numbers_of b.pools) ≡ true → slice_get b.pools i ≡ Some e → entry_at b e.number ≡ Some e
entry_at-from b i e h at = place_find b.pools i e h at

pub entry_at-named : (b : Bucket) (i n : ℕ) (e : Entry) → rises (numbers_of b.pools) ≡ true → slice_get b.pools i ≡ Some e → e.number ≡ n → entry_at b n ≡ Some e
entry_at-named b i n e h at is = ap (entry_at b) (sym is) ∙ entry_at-from b i e h at

-- a change that leaves numbers leaves which entry is found
pub find_map : (n : ℕ) (f : Entry → Entry) → ((e : Entry) → (f e).number ≡ e.number) → (es : List Entry) → find (λ e. e.number == n) (map f es) ≡ option_map f (find (λ e. e.number == n) es)
find_map n f same [] = refl
find_map n f same (e ∷ es) = grind (arith, common_steps, (find_map n f same es))
