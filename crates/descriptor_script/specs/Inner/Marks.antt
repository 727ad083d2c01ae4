-- Marks at tickets, which show that none is there twice.
use Rattle.std.specs.Prelude.{◌≡◌, ℕ, ◌<◌, Bool, true, false, List, length, slice_index, slice_index_or}

-- no mark is set
abbrev pub AreClear : List Bool → Type 0
AreClear marks = (n : ℕ) → slice_index_or marks n false ≡ false

-- marks are set at tickets of the list alone
abbrev pub AreOnlyAt : List ℕ → List Bool → Type 0
AreOnlyAt tickets marks = (n : ℕ) → slice_index_or marks n false ≡ true → (i : ℕ) × (i < length tickets) × (slice_index tickets i ≡ n)
