-- Live sets, and multisets of them: how often each is live.
use Rattle.std.specs.Prelude.{◌≡◌, ℕ, ◌≤◌, ◌==◌, ◌&&◌, List, Bool, length, nat_eq, count_by}
use lib.Pointwise.{pointwise}

-- a live set: its name, and the counts of its layout
pub record LiveSet : Type 0 where
  pub name : ℕ
  pub counts : List ℕ

-- whether two live sets have the same name and the same counts
abbrev pub set_eq : LiveSet → LiveSet → Bool
set_eq x y = (x.name == y.name) && pointwise nat_eq x.counts y.counts

-- how often a set is in a list
abbrev pub times : List LiveSet → LiveSet → ℕ
times sets x = count_by (λ y. set_eq y x) sets

-- the list spells the multiset: it has each set as often as it is live
abbrev pub Spells : List LiveSet → (LiveSet → ℕ) → Type 0
Spells sets live = (x : LiveSet) → times sets x ≡ live x

-- how many sets are live in all: the length of a list that spells them
abbrev pub HasSize : (LiveSet → ℕ) → ℕ → Type 0
HasSize live n = (sets : List LiveSet) × (length sets ≡ n) × Spells sets live

-- each set of the list is live, as often as it is there
abbrev pub AreIn : List LiveSet → (LiveSet → ℕ) → Type 0
AreIn sets live = (x : LiveSet) → times sets x ≤ live x
