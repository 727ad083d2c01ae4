-- Lists seen through how often each element stands in them.
-- For lists of items and of live sets, in both crates: count_by (λ y. eq y x) is how often x is there, if the test eq is exact.
use Rattle.std.proofs.Common.{◌≡◌, suc, ◌+◌, ◌<◌, ◌≤◌, Bool, true, false, ltb, ◌==◌, List, [], ◌∷◌, ◌++◌, length, count_by, inl, inr, refl, sym, ap, ◌∙◌, arith, eqb-true, eq-eqb, nat_eq, lt_of_lt_of_le, le_of_eq, lt-ltb}
use Rattle.std.specs.List.{list_any}
use Rattle.std.proofs.lemmas.Bool.{cases_Bool, and_parts, and_from, or_left, or_right, or_cases}
use Rattle.std.proofs.lemmas.Bool.Decides.{Decides-eqb}
use Rattle.std.proofs.lemmas.List.Sums.{length-filter}
use lib.Pointwise.{pointwise, pointwise_decides}
use Rattle.gpu_descriptor_types.specs.Multiset.{LiveSet, set_eq, times}

-- tests alike in both directions are one
pub bool_iff : (a b : Bool) → (a ≡ true → b ≡ true) → (b ≡ true → a ≡ true) → a ≡ b
bool_iff true true to from = refl
bool_iff true false to from = sym (to refl)
bool_iff false true to from = from refl
bool_iff false false to from = refl

-- a test that is true exactly at what is the same
pub record IsExact {A : Type 0} (eq : A → A → Bool) : Type 0 where
  pub same : (a b : A) → eq a b ≡ true → a ≡ b
  pub self : (a : A) → eq a a ≡ true

-- live sets are the same exactly if their names and counts are
pub set_exact : IsExact set_eq
set_exact = record {
  same = λ a b h.
      let both = and_parts (a.name == b.name) (pointwise nat_eq a.counts b.counts) h in
      let counts : a.counts ≡ b.counts = (pointwise_decides Decides-eqb a.counts b.counts).0 both.1 in
      let name : a.name ≡ b.name = eqb-true a.name b.name both.0 in
      λ i. record { name = name i; counts = counts i };
  self = λ a. and_from _ _ (eq-eqb a.name a.name refl) ((pointwise_decides Decides-eqb a.counts a.counts).1 refl);
}

-- an element in front that passes counts one more; one that doesn't (`count_by_no`) counts nothing
pub count_by_yes : {A : Type 0} (p : A → Bool) (x : A) (xs : List A) → p x ≡ true → count_by p (x ∷ xs) ≡ suc (count_by p xs)
count_by_yes p x xs h = sym (length-filter p (x ∷ xs)) ∙ rw h (ap suc (length-filter p xs))

-- a list without any set is empty
pub none_spelled : (sets : List LiveSet) → ((x : LiveSet) → times sets x ≡ 0) → sets ≡ []
none_spelled [] none = refl
none_spelled (s ∷ sets) none = absurd (let one : times (s ∷ sets) s ≡ suc (times sets s) = count_by_yes (λ y. set_eq y s) s sets (set_exact.self s) in let is = none s in omega arith)

pub count_by_no : {A : Type 0} (p : A → Bool) (x : A) (xs : List A) → p x ≡ false → count_by p (x ∷ xs) ≡ count_by p xs
count_by_no p x xs h = sym (length-filter p (x ∷ xs)) ∙ rw h (length-filter p xs)

pub count_by-append : {A : Type 0} (p : A → Bool) (xs ys : List A) → count_by p (xs ++ ys) ≡ count_by p xs + count_by p ys
count_by-append p [] ys = omega arith
count_by-append p (x ∷ xs) ys = elim (cases_Bool (p x)) [
  | inl h ↦ rw (count_by_yes p x (xs ++ ys) h, count_by_yes p x xs h) (omega (arith, count_by-append p xs ys))
  | inr h ↦ rw (count_by_no p x (xs ++ ys) h, count_by_no p x xs h) (count_by-append p xs ys)
]

-- what the list has passes the tests alike, so as many pass
pub count_by_alike : {A : Type 0} {eq : A → A → Bool} → IsExact eq → (p q : A → Bool) (xs : List A) → ((x : A) → 0 < count_by (λ y. eq y x) xs → p x ≡ q x) → count_by p xs ≡ count_by q xs
count_by_alike exact p q [] h = refl
count_by_alike {eq = eq} exact p q (x ∷ xs) h =
    let own : count_by (λ y. eq y x) (x ∷ xs) ≡ suc (count_by (λ y. eq y x) xs) = count_by_yes (λ y. eq y x) x xs (exact.self x) in
    let here : p x ≡ q x = h x (omega arith) in
    let rest : count_by p xs ≡ count_by q xs = count_by_alike exact p q xs (λ y lt. h y (lt_of_lt_of_le lt (count_more (λ z. eq z y) x xs))) in
    elim (cases_Bool (q x)) [
      | inl on ↦ count_by_yes p x xs (here ∙ on) ∙ ap suc rest ∙ sym (count_by_yes q x xs on)
      | inr off ↦ count_by_no p x xs (here ∙ off) ∙ rest ∙ sym (count_by_no q x xs off)
    ]
  where
    count_more : {A : Type 0} (r : A → Bool) (x : A) (xs : List A) → count_by r xs ≤ count_by r (x ∷ xs)
    count_more r x xs = elim (cases_Bool (r x)) [
      | inl h ↦ (let e : count_by r (x ∷ xs) ≡ suc (count_by r xs) = count_by_yes r x xs h in omega arith)
      | inr h ↦ (let e : count_by r (x ∷ xs) ≡ count_by r xs = count_by_no r x xs h in omega arith)
    ]

-- none passes
pub count_by_none : {A : Type 0} {eq : A → A → Bool} → IsExact eq → (p : A → Bool) (xs : List A) → ((x : A) → 0 < count_by (λ y. eq y x) xs → p x ≡ false) → count_by p xs ≡ 0
count_by_none exact p xs h = count_by_alike exact p (λ _. false) xs h ∙ never xs
  where
    never : {A : Type 0} (xs : List A) → count_by (λ _. false) xs ≡ 0
    never [] = refl
    never (x ∷ xs) = count_by_no (λ _. false) x xs refl ∙ never xs

-- xs is x and the rest, in some order
pub record IsWith {A : Type 0} (x : A) (rest xs : List A) : Type 0 where
  pub size : length xs ≡ suc (length rest)
  pub counts : (p : A → Bool) → count_by p xs ≡ count_by p (x ∷ rest)

-- what stands in a list can be taken out
pub taken_out : {A : Type 0} {eq : A → A → Bool} → IsExact eq → (x : A) (xs : List A) → 0 < count_by (λ y. eq y x) xs → (rest : List A) × IsWith x rest xs
taken_out exact x [] lt = absurd (omega arith)
taken_out {A} {eq} exact x (y ∷ xs) lt = elim (cases_Bool (eq y x)) [
  | inl h ↦ (xs, record { size = refl; counts = λ p. ap (λ (z : A). count_by p (z ∷ xs)) (exact.same y x h) })
  | inr h ↦ (
      let skip : count_by (λ z. eq z x) (y ∷ xs) ≡ count_by (λ z. eq z x) xs = count_by_no (λ z. eq z x) y xs h in
      let found = taken_out exact x xs (omega arith) in (
        y ∷ found.0,
        record {
          size = ap suc found.1.size;
          counts = λ p. cons_alike p y xs (x ∷ found.0) (found.1.counts p) ∙ swapped p y x found.0;
        },
      ))
]
  where
    cons_alike : {A : Type 0} (p : A → Bool) (x : A) (xs ys : List A) → count_by p xs ≡ count_by p ys → count_by p (x ∷ xs) ≡ count_by p (x ∷ ys)
    cons_alike p x xs ys h = elim (cases_Bool (p x)) [
      | inl on ↦ count_by_yes p x xs on ∙ ap suc h ∙ sym (count_by_yes p x ys on)
      | inr off ↦ count_by_no p x xs off ∙ h ∙ sym (count_by_no p x ys off)
    ]

    swapped : {A : Type 0} (p : A → Bool) (x y : A) (xs : List A) → count_by p (x ∷ y ∷ xs) ≡ count_by p (y ∷ x ∷ xs)
    swapped p x y xs = count_by-append p (x ∷ y ∷ []) xs ∙ omega (arith, count_by-append p (x ∷ []) (y ∷ []), count_by-append p (y ∷ []) (x ∷ []), count_by-append p (y ∷ x ∷ []) xs)

-- what one list has no oftener than another can be taken out of it
pub all_taken_out : {A : Type 0} {eq : A → A → Bool} → IsExact eq → (part xs : List A) → ((x : A) → count_by (λ y. eq y x) part ≤ count_by (λ y. eq y x) xs) → (rest : List A) × (length rest + length part ≡ length xs) × ((p : A → Bool) → count_by p rest + count_by p part ≡ count_by p xs)
all_taken_out exact [] xs h = (xs, (let e : length xs + 0 ≡ length xs = omega arith in e), (λ p. let e : count_by p xs + 0 ≡ count_by p xs = omega arith in e))
all_taken_out {A} {eq} exact (x ∷ part) xs h =
    let own : count_by (λ y. eq y x) (x ∷ part) ≡ suc (count_by (λ y. eq y x) part) = count_by_yes (λ y. eq y x) x part (exact.self x) in
    let least = h x in
    let one = taken_out exact x xs (omega arith) in
    let all = all_taken_out exact part one.0 (λ y.
    let had = h y in
    let is : count_by (λ z. eq z y) xs ≡ count_by (λ z. eq z y) (x ∷ one.0) = one.1.counts (λ z. eq z y) in
    let a : count_by (λ z. eq z y) (x ∷ one.0) ≡ count_by (λ z. eq z y) (x ∷ []) + count_by (λ z. eq z y) one.0 = count_by-append (λ z. eq z y) (x ∷ []) one.0 in
    let b : count_by (λ z. eq z y) (x ∷ part) ≡ count_by (λ z. eq z y) (x ∷ []) + count_by (λ z. eq z y) part = count_by-append (λ z. eq z y) (x ∷ []) part in
    omega arith) in (
      all.0,
      (let size = one.1.size in let e : length all.0 + suc (length part) ≡ length xs = omega (arith, all.1) in e),
      (λ p.
          let is = one.1.counts p in
          let got = all.2 p in
          let a : count_by p (x ∷ one.0) ≡ count_by p (x ∷ []) + count_by p one.0 = count_by-append p (x ∷ []) one.0 in
          let b : count_by p (x ∷ part) ≡ count_by p (x ∷ []) + count_by p part = count_by-append p (x ∷ []) part in
          let e : count_by p all.0 + count_by p (x ∷ part) ≡ count_by p xs = omega arith in e),
    )

-- lists with equal counts answer every test alike
pub counts_alike : {A : Type 0} {eq : A → A → Bool} → IsExact eq → (xs ys : List A) → ((x : A) → count_by (λ y. eq y x) xs ≡ count_by (λ y. eq y x) ys) → (p : A → Bool) → count_by p xs ≡ count_by p ys
counts_alike exact xs ys h p =
    let one = (all_taken_out exact xs ys (λ x. le_of_eq (h x))).2 p in
    let other = (all_taken_out exact ys xs (λ x. le_of_eq (sym (h x)))).2 p in
    omega arith

pub list_any-count_by : {A : Type 0} (p : A → Bool) (xs : List A) → list_any p xs ≡ ltb 0 (count_by p xs)
list_any-count_by p [] = refl
list_any-count_by p (x ∷ xs) = elim (cases_Bool (p x)) [
  | inl h ↦ rw (count_by_yes p x xs h) (rw h (sym (lt-ltb 0 (suc (count_by p xs)) (omega arith))))
  | inr h ↦ rw (count_by_no p x xs h) (rw h (list_any-count_by p xs))
]

-- what stands in a list and passes the test
pub any_from : {A : Type 0} {eq : A → A → Bool} → IsExact eq → (p : A → Bool) (xs : List A) (x : A) → 0 < count_by (λ y. eq y x) xs → p x ≡ true → list_any p xs ≡ true
any_from exact p [] x lt h = absurd (omega arith)
any_from {A} {eq} exact p (y ∷ xs) x lt h = elim (cases_Bool (eq y x)) [
  | inl same ↦ or_left (p y) (list_any p xs) (ap p (exact.same y x same) ∙ h)
  | inr other ↦ (
      let skip : count_by (λ z. eq z x) (y ∷ xs) ≡ count_by (λ z. eq z x) xs = count_by_no (λ z. eq z x) y xs other in
      or_right (p y) (list_any p xs) (any_from exact p xs x (omega arith) h))
]

-- and what a test finds is in the list
pub any_found : {A : Type 0} {eq : A → A → Bool} → IsExact eq → (p : A → Bool) (xs : List A) → list_any p xs ≡ true → (x : A) × (0 < count_by (λ y. eq y x) xs) × (p x ≡ true)
any_found exact p [] h = absurd (let bad : true ≡ false = sym h in cc)
any_found {A} {eq} exact p (y ∷ xs) h = elim (or_cases (p y) (list_any p xs) h) [
  | inl here ↦ (y, (let own : count_by (λ z. eq z y) (y ∷ xs) ≡ suc (count_by (λ z. eq z y) xs) = count_by_yes (λ z. eq z y) y xs (exact.self y) in let some : 0 < count_by (λ z. eq z y) (y ∷ xs) = omega arith in some), here)
  | inr later ↦ (
      let found = any_found exact p xs later in
      let x = found.0 in
      let had = found.1 in
      let whole : count_by (λ z. eq z x) (y ∷ xs) ≡ count_by (λ z. eq z x) (y ∷ []) + count_by (λ z. eq z x) xs = count_by-append (λ z. eq z x) (y ∷ []) xs in
      let some : 0 < count_by (λ z. eq z x) (y ∷ xs) = omega arith in
      (x, some, found.2))
]

-- as often in one list or the other
pub times-append : (a b : List LiveSet) (x : LiveSet) → times (a ++ b) x ≡ times a x + times b x
times-append a b x = count_by-append (λ y. set_eq y x) a b
