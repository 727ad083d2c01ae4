-- In which order an allocator keeps its keys.
use Rattle.std.specs.Prelude.{if◌then◌else◌, List, [], ◌∷◌, ◌++◌}
use Rattle.std.specs.List.{list_any}
use Rattle.gpu_descriptor.specs.Model.Books.{Key, key_eq}

-- the keys with this one, which is last if it was absent
abbrev pub with_key : Key → List Key → List Key
with_key k keys = if list_any (key_eq k) keys then keys else keys ++ k ∷ []
