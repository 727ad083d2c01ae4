-- What the values of a device mean.
use Rattle.std.specs.Prelude.{◌≡◌, ℕ, List, Bool}

-- names of raw pools, raw sets and layouts; of a layout its counts, and whether it is marked as update-after-bind; of a raw set the layout that it was made with. One record for all six: a promise has one argument for them, and that two devices mean the same is one equation
pub record Meaning (L P S : Type 0) : Type 0 where
  pub pool_name : P → ℕ
  pub set_name : S → ℕ
  pub counts : L → List ℕ
  pub mark : L → Bool
  pub layout_name : L → ℕ
  pub set_layout : S → ℕ

-- the raw set was made with this layout
abbrev pub IsOfLayout : {L P S : Type 0} → Meaning L P S → L → S → Type 0
IsOfLayout means layout set = means.set_layout set ≡ means.layout_name layout
