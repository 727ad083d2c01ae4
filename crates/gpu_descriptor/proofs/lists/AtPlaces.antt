-- What stands at the places of a list.
use Rattle.gpu_descriptor.proofs.Common.{◌≡◌, ◌≢◌, ℕ, zero, suc, ◌<◌, inl, inr, List, [], ◌∷◌, ◌++◌, length, take, slice_set, Bool, true, false, Some, None, refl, sym, ap, ◌∙◌, arith, drop, ◌+◌, or_cases, or_left, or_right, slice_get, list_any, ◌⊎◌, true≢false}
use Rattle.gpu_descriptor.proofs.Common.{get_or_from_slice_get, slice_get_within, length-take-le, set-get_or, ◌≤◌, count_by, count_by_no, count_by_yes, Option, cases_Bool, or_from, if◌then◌else◌}
use Rattle.std.proofs.Math.Seq.{take-suc}

pub cases_option : {A : Type 0} (o : Option A) → (o ≡ None) ⊎ ((x : A) × (o ≡ Some x))
cases_option None = inl refl
cases_option (Some x) = inr (x, refl)

pub if_none : (b : Bool) → ◌≡◌ {A = ℕ} (if b then 0 else 0) 0
if_none true = refl
if_none false = refl

-- ---- tests

-- one that passes stands among the first n
pub found_before : {A : Type 0} (p : A → Bool) (xs : List A) (n : ℕ) → list_any p (take n xs) ≡ true → (j : ℕ) × (x : A) × (j < n) × (slice_get xs j ≡ Some x) × (p x ≡ true)
found_before p xs zero h = absurd (true≢false (sym h))
found_before p [] (suc n) h = absurd (true≢false (sym h))
found_before p (x ∷ xs) (suc n) h = elim (or_cases (p x) (list_any p (take n xs)) h) [
  | inl here ↦ (0, x, (let lt : 0 < suc n = omega arith in lt), refl, here)
  | inr later ↦ (let found = found_before p xs n later in let below = found.2 in (suc found.0, found.1, (let lt : suc found.0 < suc n = omega arith in lt), found.3, found.4))
]

pub found_at : {A : Type 0} (p : A → Bool) (xs : List A) → list_any p xs ≡ true → (i : ℕ) × (x : A) × (slice_get xs i ≡ Some x) × (p x ≡ true)
found_at p [] h = absurd (true≢false (sym h))
found_at p (x ∷ xs) h = elim (or_cases (p x) (list_any p xs) h) [
  | inl here ↦ (0, x, refl, here)
  | inr later ↦ (let found = found_at p xs later in (suc found.0, found.1, found.2, found.3))
]

-- one that passes at a place is found, and if none is found none passes
pub any_here : {A : Type 0} (p : A → Bool) (xs : List A) (i : ℕ) (x : A) → slice_get xs i ≡ Some x → p x ≡ true → list_any p xs ≡ true
any_here p [] i x at hit = absurd (cc)
any_here p (y ∷ xs) zero x at hit = (let same : y ≡ x = cc in or_left (p y) (list_any p xs) (ap p same ∙ hit))
any_here p (y ∷ xs) (suc i) x at hit = or_right (p y) (list_any p xs) (any_here p xs i x at hit)

pub none_at : {A : Type 0} (p : A → Bool) (xs : List A) (i : ℕ) (x : A) → list_any p xs ≡ false → slice_get xs i ≡ Some x → p x ≡ false
none_at p xs i x none at = grind (arith, any_here)

pub none_from : {A : Type 0} (p : A → Bool) (xs : List A) → ((i : ℕ) (x : A) → slice_get xs i ≡ Some x → p x ≡ false) → list_any p xs ≡ false
none_from p [] each = refl
none_from p (x ∷ xs) each = or_from (p x) (list_any p xs) (each 0 x refl) (none_from p xs (λ i y at. each (suc i) y at))

pub count_by_more : {A : Type 0} (p : A → Bool) (x : A) (xs : List A) → count_by p xs ≤ count_by p (x ∷ xs)
count_by_more p x xs = elim (cases_Bool (p x)) [ inl on ↦ (let e = count_by_yes p x xs on in omega arith) | inr off ↦ (let e = count_by_no p x xs off in omega arith) ]

-- ---- a write

-- what stands at a place after a write
pub set_got : {A : Type 0} (xs : List A) (i : ℕ) (x : A) (j : ℕ) (y : A) → slice_get (slice_set xs i x) j ≡ Some y → ((j ≡ i) × (y ≡ x)) ⊎ ((j ≢ i) × (slice_get xs j ≡ Some y))
set_got [] i x j y at = absurd (cc)
set_got (z ∷ xs) zero x zero y at = inl (refl, (let e : x ≡ y = cc in sym e))
set_got (z ∷ xs) zero x (suc j) y at = inr ((λ e. omega arith), at)
set_got (z ∷ xs) (suc i) x zero y at = inr ((λ e. omega arith), at)
set_got (z ∷ xs) (suc i) x (suc j) y at = grind (arith, (set_got xs i x j y at))

pub set_here : {A : Type 0} (xs : List A) (i : ℕ) (x y : A) → slice_get xs i ≡ Some y → slice_get (slice_set xs i x) i ≡ Some x
set_here [] i x y at = absurd (cc)
set_here (z ∷ xs) zero x y at = refl
set_here (z ∷ xs) (suc i) x y at = set_here xs i x y at

-- ---- one more at the end

pub get_last : {A : Type 0} (xs : List A) (x : A) → slice_get (xs ++ x ∷ []) (length xs) ≡ Some x
get_last [] x = refl
get_last (z ∷ xs) x = get_last xs x

pub got_last : {A : Type 0} (xs : List A) (x : A) (i : ℕ) (y : A) → slice_get (xs ++ x ∷ []) i ≡ Some y → (slice_get xs i ≡ Some y) ⊎ ((i ≡ length xs) × (y ≡ x))
got_last [] x zero y at = inr (refl, (let e : x ≡ y = cc in sym e))
got_last [] x (suc i) y at = absurd (cc)
got_last (z ∷ xs) x zero y at = inl at
got_last (z ∷ xs) x (suc i) y at = elim (got_last xs x i y at) [ inl there ↦ inl there | inr here ↦ inr (ap suc here.0, here.1) ]

-- ---- the list around a place

pub split_at : {A : Type 0} (xs : List A) (i : ℕ) (x : A) → slice_get xs i ≡ Some x → xs ≡ take i xs ++ x ∷ drop (suc i) xs
split_at [] i x h = absurd (cc)
split_at (y ∷ xs) zero x h = (let e : y ≡ x = cc in ap (λ z. z ∷ xs) e)
split_at (y ∷ xs) (suc i) x h = ap (λ z. y ∷ z) (split_at xs i x h)

pub drop_at : {A : Type 0} (xs : List A) (i : ℕ) (x : A) → slice_get xs i ≡ Some x → drop i xs ≡ x ∷ drop (suc i) xs
drop_at [] i x h = absurd (cc)
drop_at (y ∷ xs) zero x h = (let e : y ≡ x = cc in ap (λ z. z ∷ xs) e)
drop_at (y ∷ xs) (suc i) x h = drop_at xs i x h

pub get_drop : {A : Type 0} (xs : List A) (i j : ℕ) → slice_get (drop i xs) j ≡ slice_get xs (i + j)
get_drop xs zero j = ap (slice_get xs) (let e : j ≡ 0 + j = omega arith in e)
get_drop [] (suc i) j = refl
get_drop (y ∷ xs) (suc i) j = get_drop xs i j ∙ ap (slice_get (y ∷ xs)) (let e : suc (i + j) ≡ suc i + j = omega arith in e)

pub long_take : {A : Type 0} (xs : List A) (i : ℕ) (x : A) → slice_get xs i ≡ Some x → length (take i xs) ≡ i
long_take xs i x h = length-take-le i xs (let lt = slice_get_within xs i x h in omega arith)

pub take_get : {A : Type 0} (xs : List A) (i : ℕ) (x : A) → slice_get xs i ≡ Some x → take (suc i) xs ≡ take i xs ++ x ∷ []
take_get xs i x h = take-suc xs i x (slice_get_within xs i x h) ∙ ap (λ y. take i xs ++ y ∷ []) (get_or_from_slice_get xs i x x h)

pub set_same : {A : Type 0} (xs : List A) (i : ℕ) (x : A) → slice_get xs i ≡ Some x → slice_set xs i x ≡ xs
set_same xs i x h = ap (slice_set xs i) (sym (get_or_from_slice_get xs i x x h)) ∙ set-get_or xs i x

pub get_some : {A : Type 0} (xs : List A) (i : ℕ) → i < length xs → (x : A) × (slice_get xs i ≡ Some x)
get_some [] i lt = absurd (omega arith)
get_some (x ∷ xs) zero lt = (x, refl)
get_some (x ∷ xs) (suc i) lt = get_some xs i (omega arith)
