-- How many sets came from the pool of a name, and which names are none of the new pools'. For request.Growing. `es` are the entries
-- before, `fs` the new pools, and `q` is the name of a pool.
use Rattle.gpu_descriptor.proofs.Common.{common_steps, ◌≡◌, ℕ, ◌+◌, List, [], ◌∷◌, length, map, Bool, false, ◌==◌, Option, refl, arith, or_parts}
use Rattle.gpu_descriptor.proofs.Common.{sum_by, sum_by-cons, sum_by-append, list_any, if◌then◌else◌, Key, Entry, Pool, Fresh, fresh_portions, Part, portion_of, came, fresh_or, Portion}
use Rattle.gpu_descriptor.proofs.Common.{portions_of}
use Rattle.gpu_descriptor.proofs.request.Shares.{IsApart}

-- ---- how many sets came from the pool of a name

-- what a portion has of the pool named q, and what a list of them has
abbrev gave : ℕ → Portion → ℕ
gave q r = if r.pool == q then r.given else 0

abbrev pub given_at : ℕ → List Portion → ℕ
given_at q portions = sum_by (gave q) portions

pub came_long : (q : ℕ) (parts : List Part) → length (came parts q) ≡ given_at q (map portion_of parts)
came_long q [] = refl
came_long q (p ∷ parts) = grind (arith, common_steps, came, gave, sum_by-cons, (came_long q parts))

-- none from one that isn't among the pools
pub no_share : (refused : ℕ → Bool) (n q : ℕ) (es : List Entry) → IsApart q es → given_at q (portions_of refused n es) ≡ 0
no_share refused n q [] apart = refl
no_share refused n q (e ∷ newer) apart = grind (arith, common_steps, gave, sum_by-append, (no_share refused n q newer apart.1))

pub no_fresh : (q number : ℕ) (fs : List Fresh) → list_any (λ f. f.pool == q) fs ≡ false → given_at q (fresh_portions number fs) ≡ 0
no_fresh q number [] none = refl
no_fresh q number (f ∷ fs) none = grind (arith, common_steps, gave, or_parts, sum_by-cons, (no_fresh q (number + 1) fs))

-- ---- the new pools

-- a name of no new pool is in the ledger as it was
pub fresh_or_past : (k : Key) (q : ℕ) (fs : List Fresh) (o : Option Pool) → list_any (λ f. f.pool == q) fs ≡ false → fresh_or k fs q o ≡ o
fresh_or_past k q [] o none = refl
fresh_or_past k q (f ∷ fs) o none = (let both = or_parts (f.pool == q) (list_any (λ f. f.pool == q) fs) none in rw both.0 (fresh_or_past k q fs o both.1))
