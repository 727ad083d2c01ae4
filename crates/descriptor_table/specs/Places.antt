-- How many of a list pass a test; lists of places, and of the numbers of layouts.
use Rattle.std.specs.Prelude.{◌≡◌, Bool, ℕ, zero, suc, ◌+◌, ◌==◌, List, [], ◌∷◌, slice_index, slice_index_or, if◌then◌else◌}

-- how many of a list pass the test
abbrev pub count : {X : Type 0} → (X → Bool) → List X → ℕ
count test [] = 0
count test (x ∷ l) = (if test x then 1 else 0) + count test l

-- how often a place is in a list
abbrev pub times : ℕ → List ℕ → ℕ
times p = count (λ q. p == q)

-- n places from the first on: each next one is what the list has at the place before
abbrev pub walk : ℕ → List ℕ → ℕ → List ℕ
walk zero next first = []
walk (suc n) next first = first ∷ walk n next (slice_index next first)

-- how many users a layout has, by its number: none is free past the last one
abbrev pub users_at : List ℕ → ℕ → ℕ
users_at counts layout = slice_index_or counts layout 1

-- the list has each number without users once, and no other
abbrev pub AreFree : List ℕ → List ℕ → Type 0
AreFree free counts = (layout : ℕ) → times layout free ≡ (if users_at counts layout == 0 then 1 else 0)
