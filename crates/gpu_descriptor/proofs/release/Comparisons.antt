-- What comparisons the runs of a list may take: a run more adds the digits at its first set.
use Rattle.gpu_descriptor.proofs.Common.{◌≡◌, ℕ, zero, suc, ◌+◌, ◌<◌, Bool, true, false, List, [], ◌∷◌, ◌++◌, map, length, count_by, refl, sym, ap, ◌∙◌, arith, append_assoc, lt-ltb, append-nil, nat_lt, if◌then◌else◌, count_by_no, count_by_yes, DescriptorPool, State, Item, Entry, digits_at}
use Rattle.gpu_descriptor.proofs.Common.{digits_behind, run_digits, open_ordinals, free_in, runs, entry_of}

none_of : (b : Bool) → ◌≡◌ {A = ℕ} (if b then 0 else 1) 1 → b ≡ false
none_of true h = absurd (omega arith)
none_of false h = refl

runs_some : (s : Item) (rest : List Item) → 0 < runs (s ∷ rest)
runs_some s [] = omega arith
runs_some s (t ∷ rest) = let some = runs_some t rest in omega arith

module _ (state : State) where
  -- in one run no other begins
  digits_none : (before : List Item) (s : Item) (rest : List Item) → runs (s ∷ rest) ≡ 1 → digits_behind state before s rest ≡ 0
  digits_none before s [] h = refl
  digits_none before s (t ∷ rest) h = grind (arith, (runs_some t rest), (digits_none (before ++ t ∷ []) t rest))

  digits_more : (before : List Item) (s : Item) (ys : List Item) (y : Item) (zs : List Item) → runs (s ∷ (ys ++ y ∷ zs)) ≡ runs (s ∷ ys) + 1 → runs (y ∷ zs) ≡ 1
      → digits_behind state before s (ys ++ y ∷ zs) ≡ digits_behind state before s ys + digits_at state (before ++ ys) y
  digits_more before s [] y zs h alone = grind (arith, append-nil, digits_none)
  digits_more before s (t ∷ ys) y zs h alone = grind (arith, append_assoc, (digits_more (before ++ t ∷ []) t ys y zs))

  -- a run behind a list, of which it is no part
  pub run_digits_more : (xs : List Item) (y : Item) (zs : List Item) → runs (xs ++ y ∷ zs) ≡ runs xs + 1 → runs (y ∷ zs) ≡ 1
      → run_digits state (xs ++ y ∷ zs) ≡ run_digits state xs + digits_at state xs y
  run_digits_more [] y zs h alone = (let none = digits_none (y ∷ []) y zs alone in omega (arith, none))
  run_digits_more (x ∷ xs) y zs h alone = (let more = digits_more (x ∷ []) x xs y zs h alone in omega (arith, more))

-- ---- the list of open pools is as long as there are open pools

abbrev is_open : Entry → Bool
is_open e = nat_lt 0 e.available

one_listed : (first n : ℕ) (free : List ℕ) (e : Entry) (es : List Entry) → e.available ≡ n → ((next : ℕ) → length (open_ordinals next free) ≡ count_by is_open es) → length (open_ordinals first (n ∷ free)) ≡ count_by is_open (e ∷ es)
one_listed first zero free e es is rest = rest (suc first) ∙ sym (count_by_no is_open e es (ap (nat_lt 0) is))
one_listed first (suc n) free e es is rest = ap suc (rest (suc first)) ∙ sym (count_by_yes is_open e es (lt-ltb 0 e.available (omega (arith, is))))

pub listed_count : {P : Type 0} (name : P → ℕ) (first : ℕ) (pools : List (DescriptorPool P)) → length (open_ordinals first (free_in pools)) ≡ count_by is_open (map (entry_of name) pools)
listed_count name first [] = refl
listed_count name first (p ∷ pools) = one_listed first p.available (free_in pools) (entry_of name p) (map (entry_of name) pools) refl (λ next. listed_count name next pools)
