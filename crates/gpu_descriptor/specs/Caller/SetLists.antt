-- Lists to which sets were appended.
use Rattle.std.specs.Prelude.{List, drop, length}

-- what the new list has after the old one
abbrev pub appended : {X : Type 0} → List X → List X → List X
appended old new = drop (length old) new
