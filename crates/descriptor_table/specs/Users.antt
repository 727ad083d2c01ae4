-- The users and the ids of layouts, and memory for their numbers.
use Rattle.std.specs.Prelude.{ℕ, ◌+◌, ◌≤◌, List, length, map, slice_index_or, vec_capacity}
use Rattle.descriptor_table.specs.declared.users.LayoutUsers.{LayoutUsers}

-- how many users each layout has, by its number
abbrev pub users_in : LayoutUsers → List ℕ
users_in u = map (λ l. l.count) u.uses.items

-- the id of each layout's sets, by its number
abbrev pub ids_in : LayoutUsers → ℕ → ℕ
ids_in u layout = (slice_index_or u.uses.items layout (record { count = 1; id = 0 })).id

-- there is memory for one more number
pub record HasNumberRoom (u : LayoutUsers) : Type 0 where
  pub uses : length (users_in u) + 1 ≤ vec_capacity u.uses
  pub free : length (users_in u) + 1 ≤ vec_capacity u.free
