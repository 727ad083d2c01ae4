-- The shares of the newer pools stay when an older pool is asked.
use Rattle.gpu_descriptor.proofs.Common.{common_steps, ne_eqb, ◌≡◌, ◌≢◌, ℕ, zero, suc, List, [], ◌∷◌, Bool, false, ◌&&◌, ◌||◌, ◌==◌, Some, refl, arith, eq-eqb, sum_by-cons, slice_get, sum_by, Entry, offer, rest, all_shared, asked_count, refused_count, asks, OnlyAskedRefuse, portions_of}

-- the pools of the list aren't of this name
abbrev pub IsApart : ℕ → List Entry → Type 0
IsApart name [] = Unit {0}
IsApart name (e ∷ es) = (e.pool ≢ name) × IsApart name es

-- refused, and one pool more where it refused
abbrev pub or_at : Bool → ℕ → (ℕ → Bool) → ℕ → Bool
or_at r name refused q = (r && (q == name)) || refused q

pub or_at_apart : (r : Bool) (name : ℕ) (refused : ℕ → Bool) (q : ℕ) → q ≢ name → or_at r name refused q ≡ refused q
or_at_apart r name refused q ne = rw (ne_eqb q name ne) (grind arith)

pub or_at_here : (r : Bool) (name : ℕ) (refused : ℕ → Bool) → refused name ≡ false → or_at r name refused name ≡ r
or_at_here r name refused h = rw (eq-eqb name name refl, h) (grind arith)

-- what the pools give is the same by either
pub record AreSame (now refused : ℕ → Bool) (n : ℕ) (es : List Entry) : Type 0 where
  pub sum : sum_by (offer now) es ≡ sum_by (offer refused) es
  pub rest : rest now n es ≡ rest refused n es
  pub all : all_shared now n es ≡ all_shared refused n es
  pub asked : asked_count now n es ≡ asked_count refused n es
  pub count : refused_count now es ≡ refused_count refused es
  pub rows : portions_of now n es ≡ portions_of refused n es
  pub asks : (q : ℕ) → asks now n es q ≡ asks refused n es q

pub all_same : (r : Bool) (name : ℕ) (refused : ℕ → Bool) (n : ℕ) (es : List Entry) → IsApart name es → AreSame (or_at r name refused) refused n es
all_same r name refused n [] h = record { sum = refl; rest = refl; all = refl; asked = refl; count = refl; rows = refl; asks = λ q. refl }
all_same r name refused n (e ∷ es) h = grind (arith, common_steps, or_at_apart, sum_by-cons, (all_same r name refused n es h.1))

-- a pool that isn't in the list isn't asked in it
pub not_asked : (refused : ℕ → Bool) (n name : ℕ) (es : List Entry) → IsApart name es → asks refused n es name ≡ false
not_asked refused n name [] h = refl
not_asked refused n name (e ∷ es) h = rw (ne_eqb e.pool name h.0) (not_asked refused n name es h.1)

-- so it has not refused
pub not_refused : (refused : ℕ → Bool) (n name : ℕ) (es : List Entry) → IsApart name es → OnlyAskedRefuse refused n es → refused name ≡ false
not_refused refused n name es h only = grind (arith, common_steps, not_asked)

-- where the names of a list's entries are at different places, no entry behind one has its name
pub apart_from : (name : ℕ) (es : List Entry) → ((j : ℕ) (e : Entry) → slice_get es j ≡ Some e → e.pool ≢ name) → IsApart name es
apart_from name [] h = tt
apart_from name (e ∷ es) h = (h zero e refl, apart_from name es (λ j f at. h (suc j) f at))
