-- The new pools of a request.
use Rattle.std.specs.Prelude.{◌≡◌, ℕ, ◌+◌, ◌-◌, ◌≤◌, ◌<◌, false, ◌==◌, if◌then◌else◌, List, [], ◌∷◌, ◌++◌, sum, sum_by, Option, None}
use Rattle.std.specs.List.{AllByRecursion, list_any}
use Rattle.gpu_descriptor_types.specs.Ledger.{Pool}
use Rattle.gpu_descriptor_types.specs.PoolSize.{IsPoolSize, bounded_sets, sets_in_room}
use Rattle.gpu_descriptor.specs.Model.Books.{Key, Entry}
use Rattle.gpu_descriptor.specs.Model.Load.{pool_descriptors}
use Rattle.gpu_descriptor.specs.Model.Shares.{Portion}

-- a new pool: its name, its size, and how many sets it gave
pub record Fresh : Type 0 where
  pub pool : ℕ
  pub size : ℕ
  pub given : ℕ

-- how many sets these pools gave together
abbrev pub given_by : List Fresh → ℕ
given_by pools = sum_by (λ f. f.given) pools

-- how many sets a key's next pool holds: as many as a new pool; if the key is marked, no more than there is room for; and for each key no more than the bound on the descriptors of a new pool leaves, unless more are needed
pub record IsNextSize (bound : Option ℕ) (k : Key) (room total wanted size : ℕ) : Type 0 where
  -- how many sets it would hold, without room and bound
  pub whole : ℕ
  pub is_whole : IsPoolSize k.counts total wanted whole
  pub cut : size ≡ bounded_sets bound (sum k.counts) wanted (if k.marked then sets_in_room room (sum k.counts) whole else whole)
  pub some : 1 ≤ size

-- each has the size of the key's next pool at that moment
abbrev pub AreSized : Option ℕ → Key → (room total wanted : ℕ) → List Fresh → Type 0
AreSized bound k room total wanted [] = Unit {0}
AreSized bound k room total wanted (f ∷ pools) = IsNextSize bound k room total wanted f.size × AreSized bound k (room - pool_descriptors k f.size) (total + f.given) (wanted - f.given) pools

-- the room that new pools leave
abbrev pub room_after : Key → ℕ → List Fresh → ℕ
room_after k room [] = room
room_after k room (f ∷ pools) = room_after k (room - pool_descriptors k f.size) pools

-- no name was live, and no two are the same. It is said here of all new pools of a request, since the device interface says it of a single create only
abbrev pub AreNew : (ℕ → Option Pool) → List Fresh → Type 0
AreNew ledger [] = Unit {0}
AreNew ledger (f ∷ pools) = (ledger f.pool ≡ None) × (list_any (λ h. h.pool == f.pool) pools ≡ false) × AreNew ledger pools

module _ (bound : Option ℕ) (k : Key) (room total wanted : ℕ) where
  -- new pools that gave all their sets, while more sets are needed
  pub record IsFreshPrefix (pools : List Fresh) : Type 0 where
    -- each was created in its size, gave all sets that it holds, and together they gave too few
    pub sized : AreSized bound k room total wanted pools
    pub full : AllByRecursion (λ f. f.given ≡ f.size) pools
    pub short : given_by pools < wanted

  -- new pools that gave all the sets that were needed: none, or a prefix and one more that gave the rest
  pub data IsFreshList (pools : List Fresh) : Type 0 where
    none : wanted ≡ 0 → pools ≡ [] → IsFreshList pools
    some : (prefix : List Fresh) (last : Fresh) → pools ≡ prefix ++ last ∷ [] → IsFreshPrefix prefix → AreSized bound k room total wanted pools → last.given ≤ last.size → given_by pools ≡ wanted → IsFreshList pools

-- what new pools gave, in order
abbrev pub fresh_portions : ℕ → List Fresh → List Portion
fresh_portions number [] = []
fresh_portions number (f ∷ pools) = record { number = number; pool = f.pool; given = f.given } ∷ fresh_portions (number + 1) pools

-- the entry of a new pool with this number
abbrev pub fresh_entry : ℕ → Fresh → Entry
fresh_entry number f = record { number = number; pool = f.pool; capacity = f.size; allocated = f.given; available = f.size - f.given }

-- the entries of new pools in order
abbrev pub fresh_entries : ℕ → List Fresh → List Entry
fresh_entries number [] = []
fresh_entries number (f ∷ pools) = fresh_entry number f ∷ fresh_entries (number + 1) pools
