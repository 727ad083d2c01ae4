-- The same layout for each set of a request.
use Rattle.std.specs.Prelude.{ℕ, List, replicate}
use Rattle.std.specs.Borrow.{Bor}
use Rattle.gpu_descriptor_types.specs.declared.layouts.Layouts.{Layouts}

module _ {L : Type 0} where
  -- the layout
  abbrev pub layout : Layouts L → L
  layout layouts = layouts.layout.now

  -- how many are left
  abbrev pub left : Layouts L → ℕ
  left layouts = layouts.left

  -- the references that are left
  abbrev pub to_come : Layouts L → List (Bor L)
  to_come layouts = replicate layouts.left layouts.layout
