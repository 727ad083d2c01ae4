-- How many comparisons freeing a list of sets may take: the binary digits of the number of open pools, and those of the number of all pools if their numbers have gaps.
use Rattle.std.specs.Prelude.{ℕ, zero, suc, ◌/◌, ◌+◌, ◌==◌, ◌&&◌, nat_lt, if◌then◌else◌, List, [], ◌∷◌, ◌++◌, count_by, length, slice_index}
use Rattle.gpu_descriptor.specs.Model.Books.{Bucket, key_eq, number_after, numbers_of}
use Rattle.gpu_descriptor.specs.Model.Agreement.{State, Item}
use Rattle.gpu_descriptor.specs.Model.Release.{released}

-- counted by halving, at most `n` times: 0 has none, and a number has one more than its half
abbrev pub digits_within : ℕ → ℕ → ℕ
digits_within zero n = 0
digits_within (suc bound) zero = 0
digits_within (suc bound) (suc n) = suc (digits_within bound (suc n / 2))

-- 1 has 1, 2 and 3 have 2, 4 to 7 have 3: the least d with n below 2 ^ d
abbrev pub binary_digits : ℕ → ℕ
binary_digits n = digits_within n n

-- the binary digits of the length of the list, if it has gaps: some number between the first and the last is missing. Any gap counts, since the bound doesn't ask where in the list the pool is
abbrev pub gap_digits : List ℕ → ℕ
gap_digits numbers = if nat_lt (slice_index numbers 0 + length numbers) (number_after numbers) then binary_digits (length numbers) else 0

-- for the release of one run: the binary digits of the number of the key's open pools, which have known free places, and those of the number of all its pools if their numbers have gaps
abbrev pub search_digits : Bucket → ℕ
search_digits b = binary_digits (count_by (λ e. nat_lt 0 e.available) b.pools) + gap_digits (numbers_of b.pools)

module _ (s : State) where
  -- those of t's key, once the sets before t are freed
  abbrev pub digits_at : List Item → Item → ℕ
  digits_at before t = search_digits ((released before s).books t.key)

  -- those at each set after last that begins a run
  abbrev pub digits_behind : List Item → Item → List Item → ℕ
  digits_behind before last [] = 0
  digits_behind before last (t ∷ rest) = (if key_eq last.key t.key && (last.number == t.number) then 0 else digits_at before t) + digits_behind (before ++ t ∷ []) t rest

  -- those of all runs of a list
  abbrev pub run_digits : List Item → ℕ
  run_digits [] = 0
  run_digits (t ∷ rest) = digits_at [] t + digits_behind (t ∷ []) t rest
