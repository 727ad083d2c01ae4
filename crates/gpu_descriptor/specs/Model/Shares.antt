-- What each pool of a key gives a request in all. refused says of a pool's name whether it refused. The pools of a list are oldest first. A share is a closed form: counting down from pool to pool would be the code's loop again.
use Rattle.std.specs.Prelude.{◌≡◌, ℕ, ◌+◌, ◌-◌, Bool, true, false, ◌==◌, ◌&&◌, ◌||◌, nat_lt, if◌then◌else◌, min, List, [], ◌∷◌, ◌++◌, sum_by}
use Rattle.gpu_descriptor.specs.Model.Books.{Entry}

-- what one pool gives: how many sets, and the pool by number and name
pub record Portion : Type 0 where
  pub number : ℕ
  pub pool : ℕ
  pub given : ℕ

module _ (refused : ℕ → Bool) where
  -- the places that a pool offers: none if it refused, else those known to be free
  abbrev pub offer : Entry → ℕ
  offer e = if refused e.pool then 0 else e.available

  -- how many refuse
  abbrev pub refused_count : List Entry → ℕ
  refused_count pools = sum_by (λ e. if refused e.pool then 1 else 0) pools

  module _ (n : ℕ) where
    -- how many of n sets are needed after these pools
    abbrev pub rest : List Entry → ℕ
    rest pools = n - sum_by offer pools

    -- a pool is asked if it has places, and sets are needed after the newer ones
    abbrev pub is_asked : List Entry → Entry → Bool
    is_asked newer e = nat_lt 0 e.available && nat_lt 0 (rest newer)

    -- what it gives
    abbrev pub share : List Entry → Entry → ℕ
    share newer e = min (offer e) (rest newer)

    -- the entries of all these pools after they gave their shares
    abbrev pub all_shared : List Entry → List Entry
    all_shared [] = []
    all_shared (e ∷ newer) = (let given = share newer e in record e { allocated = e.allocated + given; available = offer e - given }) ∷ all_shared newer

    -- how many pools are asked
    abbrev pub asked_count : List Entry → ℕ
    asked_count [] = 0
    asked_count (e ∷ newer) = (if is_asked newer e then 1 else 0) + asked_count newer

    -- whether a pool of this name is asked
    abbrev pub asks : List Entry → ℕ → Bool
    asks [] name = false
    asks (e ∷ newer) name = ((e.pool == name) && is_asked newer e) || asks newer name

    -- only a pool that is asked refuses
    abbrev pub OnlyAskedRefuse : List Entry → Type 0
    OnlyAskedRefuse pools = (name : ℕ) → refused name ≡ true → asks pools name ≡ true

    -- what the pools give, in the order in which they are asked: the newest first
    abbrev pub portions_of : List Entry → List Portion
    portions_of [] = []
    portions_of (e ∷ newer) = portions_of newer ++ record { number = e.number; pool = e.pool; given = share newer e } ∷ []
