-- That books and ledger agree has one proof at most.
use Rattle.gpu_descriptor.proofs.Common.{◌≡◌, ℕ, List, [], ◌∷◌, Option, Some, sym, ◌∙◌, props, Pool, Ledger, Key, Bucket, Entry, State, Agree, Agrees, Allocations, HasDistinctKeys, IsAsBooked}
use mathlib.Core.HLevel.{is_prop→PathP}

booked_prop : (k : Key) (pool : Pool) (e : Entry) → IsProp (IsAsBooked k pool e)
booked_prop k pool e = Prim.hlevel props

name_set : (o p : Option Pool) → IsProp (o ≡ p)
name_set o p = Prim.hlevel props

-- an entry has one pool in the ledger, with one proof that it is as booked
found_prop : (k : Key) (o : Option Pool) (e : Entry) → IsProp ((pool : Pool) × (o ≡ Some pool) × IsAsBooked k pool e)
found_prop k o e x y =
    let both : ◌≡◌ {A = Option Pool} (Some x.0) (Some y.0) = sym x.1 ∙ y.1 in
    let same : x.0 ≡ y.0 = cc in
    λ i. (same i, is_prop→PathP (λ j. o ≡ Some (same j)) (λ j. name_set o (Some (same j))) x.1 y.1 i, is_prop→PathP (λ j. IsAsBooked k (same j) e) (λ j. booked_prop k (same j) e) x.2 y.2 i)

pub Agree-prop : (s : State) → IsProp (Agree s)
Agree-prop s = Prim.hlevel (found_prop, props)

distinct_prop : (rows : List (Key × Bucket)) → IsProp (HasDistinctKeys rows)
distinct_prop [] = Prim.hlevel props
distinct_prop (row ∷ rows) = Prim.hlevel (distinct_prop rows, props)

pub Agrees-prop : {P : Type 0} (name : P → ℕ) (a : Allocations P) (l : Ledger) → IsProp (Agrees name a l)
Agrees-prop name a l = Prim.hlevel (distinct_prop, Agree-prop, props)
