-- One run: sets of one key and one number. What giving it back changes, and how its front goes pool by pool.
use Rattle.gpu_descriptor.proofs.Common.{◌≡◌, ◌≢◌, ℕ, zero, suc, ◌<◌, Bool, true, ◌&&◌, ◌==◌, List, [], ◌∷◌, length, map, set, count_by, slice_get, Some, inl, inr, refl, sym, ap, ◌∙◌, arith, eq-eqb, ne_eqb, if◌then◌else◌, cases_Bool, set_of, State, Item, count_of, Key, Entry}
use Rattle.gpu_descriptor.proofs.Common.{entry_at, LiveSet, set_eq, count_by_yes, count_by_alike, count_by_none, lies_in, entry_less, none-some}
use Rattle.gpu_descriptor.proofs.table.Exact.{item_exact}
use Rattle.gpu_descriptor.proofs.release.Places.{back, back_named}

-- all sets of the list have this key and number
abbrev pub IsRun : Key → ℕ → List Item → Type 0
IsRun k i m = (t : Item) → 0 < count_of t m → (t.key ≡ k) × (t.number ≡ i)

pub count_all : {A : Type 0} (xs : List A) → count_by (λ _. true) xs ≡ length xs
count_all [] = refl
count_all (x ∷ xs) = count_by_yes (λ _. true) x xs refl ∙ ap suc (count_all xs)

-- a run goes back to one pool
pub run_lies : (k : Key) (i : ℕ) (m : List Item) (s : State) (e : Entry) → IsRun k i m → entry_at (s.books k) i ≡ Some e → (pool : ℕ) (t : Item) → 0 < count_of t m → lies_in s.books pool t ≡ (e.pool == pool)
run_lies k i m s e run at pool t in_m = grind arith

-- all its sets go back to that pool, and none to another
pub run_back : (k : Key) (i : ℕ) (m : List Item) (s : State) (e : Entry) → IsRun k i m → entry_at (s.books k) i ≡ Some e → (pool : ℕ) → back m s pool ≡ (if e.pool == pool then length m else 0)
run_back k i m s e run at pool = elim (cases_Bool (e.pool == pool)) [
  | inl same ↦ rw same (count_by_alike item_exact (lies_in s.books pool) (λ _. true) m (λ t in_m. run_lies k i m s e run at pool t in_m ∙ same) ∙ count_all m)
  | inr other ↦ rw other (count_by_none item_exact (lies_in s.books pool) m (λ t in_m. run_lies k i m s e run at pool t in_m ∙ other))
]

pub run_named : (k : Key) (i : ℕ) (m : List Item) (s : State) (e : Entry) → IsRun k i m → entry_at (s.books k) i ≡ Some e → (pool : ℕ) (name : LiveSet) → back_named m s pool name ≡ (if e.pool == pool then count_by (λ t. set_eq (set_of t) name) m else 0)
run_named k i m s e run at pool name = elim (cases_Bool (e.pool == pool)) [
  | inl same ↦ rw same (count_by_alike item_exact (λ t. lies_in s.books pool t && (set_eq (set_of t) name)) (λ t. set_eq (set_of t) name) m (λ t in_m. ap (λ (b : Bool). b && (set_eq (set_of t) name)) (run_lies k i m s e run at pool t in_m ∙ same)))
  | inr other ↦ rw other (count_by_none item_exact (λ t. lies_in s.books pool t && (set_eq (set_of t) name)) m (λ t in_m. ap (λ (b : Bool). b && (set_eq (set_of t) name)) (run_lies k i m s e run at pool t in_m ∙ other)))
]

less_none : (e : Entry) → entry_less 0 e ≡ e
less_none e = grind arith

pub untouched_rest : (n : ℕ) (pool : ℕ) (es : List Entry) → ((i : ℕ) (d : Entry) → slice_get es i ≡ Some d → pool ≢ d.pool) → map (λ d. entry_less (if pool == d.pool then n else 0) d) es ≡ es
untouched_rest n pool [] h = refl
untouched_rest n pool (x ∷ es) h =
    let head : entry_less (if pool == x.pool then n else 0) x ≡ x = rw (ne_eqb pool x.pool (h 0 x refl)) (less_none x) in
    λ i. head i ∷ untouched_rest n pool es (λ j. h (suc j)) i

-- no name stands at two places
abbrev pub HasDistinctNames : List Entry → Type 0
HasDistinctNames es = (i j : ℕ) (d e : Entry) → slice_get es i ≡ Some d → slice_get es j ≡ Some e → d.pool ≡ e.pool → i ≡ j

-- the one entry that changes
pub less_at : (n : ℕ) (es : List Entry) (j : ℕ) (e : Entry) → HasDistinctNames es → slice_get es j ≡ Some e → map (λ d. entry_less (if e.pool == d.pool then n else 0) d) es ≡ set es j (entry_less n e)
less_at n [] j e distinct at = absurd (none-some e at)
less_at n (x ∷ es) zero e distinct at =
    let same : x ≡ e = cc in
    let head : entry_less (if e.pool == x.pool then n else 0) x ≡ entry_less n e = rw (eq-eqb e.pool x.pool (ap (λ (y : Entry). y.pool) (sym same))) (ap (entry_less n) same) in
    λ i. head i ∷ untouched_rest n e.pool es (λ j d there alike. absurd (let bad : 0 ≡ suc j = distinct 0 (suc j) e d at there alike in omega arith)) i
less_at n (x ∷ es) (suc j) e distinct at =
    let head : entry_less (if e.pool == x.pool then n else 0) x ≡ x = rw (ne_eqb e.pool x.pool (λ alike. absurd (let bad : suc j ≡ 0 = distinct (suc j) 0 e x at refl alike in omega arith))) (less_none x) in
    λ i. head i ∷ less_at n es j e (λ a b d f p q r. let both : suc a ≡ suc b = distinct (suc a) (suc b) d f p q r in let one : a ≡ b = omega arith in one) at i
