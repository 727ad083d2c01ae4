-- The runs of a list of sets: each is a longest part whose consecutive sets are from one pool.
use Rattle.std.specs.Prelude.{ℕ, ◌+◌, ◌==◌, ◌&&◌, if◌then◌else◌, List, [], ◌∷◌}
use Rattle.gpu_descriptor.specs.Model.Books.{key_eq}
use Rattle.gpu_descriptor.specs.Model.Agreement.{Item}

-- how many runs a list has: a set is in the run of the one before it if both have the same key and the same pool number
abbrev pub runs : List Item → ℕ
runs [] = 0
runs (s ∷ []) = 1
runs (s ∷ t ∷ rest) = (if key_eq s.key t.key && (s.number == t.number) then 0 else 1) + runs (t ∷ rest)
