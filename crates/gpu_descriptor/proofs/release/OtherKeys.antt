-- Giving sets back leaves the keys of which none of them is.
use Rattle.gpu_descriptor.proofs.release.Given.{goes}
use Rattle.gpu_descriptor.proofs.Common.{◌≡◌, ℕ, ◌&&◌, ◌==◌, eqb-true, Bool, true, false, List, [], ◌∷◌, count_by, Some, None, option_map, slice_get, slice_get-map, entry_less, refl, sym, ap, ◌∙◌, arith, fun_ext, and_parts, false_from_ne_true, list_any, if◌then◌else◌, LiveSet, set_eq, State, Item, Agree, set_of}
use Rattle.gpu_descriptor.proofs.Common.{Key, key_eq, Bucket, Entry, IsUntouched, given_back, released, spent_front, lies_in, pool_less, true≢false}
use Rattle.gpu_descriptor.proofs.table.Exact.{key_exact}
use Rattle.gpu_descriptor.proofs.lists.Numbers.{entry_at-found}
use Rattle.gpu_descriptor.proofs.lists.AtPlaces.{found_before}
use Rattle.gpu_descriptor.proofs.release.ReleaseAgrees.{none_back}
use Rattle.gpu_descriptor.proofs.release.Places.{back, lies_in-found, some_before}
use Rattle.gpu_descriptor.proofs.request.Rollback.{other_key}

module _ {A : Type 0} (f g : A → Bool) (le : (t : A) → f t ≡ true → g t ≡ true) where
  -- a test f that only passes where g does finds nothing where g doesn't
  off : (t : A) → g t ≡ false → f t ≡ false
  off t none = false_from_ne_true (f t) (λ on. (true≢false (sym (le t on) ∙ none)))

  any_off : (m : List A) → list_any g m ≡ false → list_any f m ≡ false
  any_off [] none = refl
  any_off (t ∷ m) none = grind (arith, (any_off m))

  count_off : (m : List A) → list_any g m ≡ false → count_by f m ≡ 0
  count_off [] none = refl
  count_off (t ∷ m) none = grind (arith, (count_off m))

-- a pool in the books of a key that the sets don't name stays on the device
other_pool : (m : List Item) (s : State) → Agree s → (k : Key) → list_any (λ t. key_eq t.key k) m ≡ false → (n : ℕ) (e : Entry) → slice_get (s.books k).pools n ≡ Some e → (released m s).ledger e.pool ≡ s.ledger e.pool
other_pool m s agree k none n e at =
    let own : (l : Key) (i : ℕ) (d : Entry) → slice_get (s.books l).pools i ≡ Some d → d.pool ≡ e.pool → key_eq l k ≡ true = λ l i d there same. ap (λ (j : Key). key_eq j k) (agree.distinct l k i n d e there at same).0 ∙ key_exact.self k in
    let lies : (x : LiveSet) (t : Item) → (lies_in s.books e.pool t && set_eq (set_of t) x) ≡ true → key_eq t.key k ≡ true = λ x t on.
    (let f = lies_in-found s.books e.pool t (and_parts (lies_in s.books e.pool t) (set_eq (set_of t) x) on).0 in let there = entry_at-found (s.books t.key) t.number f.0 f.1 in own t.key there.0 f.0 there.1 f.2) in
    let front : (t : Item) → goes ((given_back m s).books t.key) e.pool ≡ true → key_eq t.key k ≡ true = λ t on.
    let b : Bucket = (given_back m s).books t.key in
    let f = found_before (λ (x : Entry). x.pool == e.pool) b.pools (spent_front b) on in
    let d = some_before _ (slice_get (s.books t.key).pools f.0) f.1 (sym (slice_get-map (λ (x : Entry). entry_less (back m s x.pool) x) (s.books t.key).pools f.0) ∙ f.3) in
    own t.key f.0 d.0 d.1 (ap (λ (x : Entry). x.pool) d.2 ∙ eqb-true f.1.pool e.pool f.4) in
    let kept : (λ (x : LiveSet). count_by (λ t. lies_in s.books e.pool t && set_eq (set_of t) x) m) ≡ (λ x. 0) = fun_ext (λ x. count_off (λ t. lies_in s.books e.pool t && set_eq (set_of t) x) (λ t. key_eq t.key k) (lies x) m none) in
    ap (λ (b : Bool). if b then None else (given_back m s).ledger e.pool) (any_off (λ t. goes ((given_back m s).books t.key) e.pool) (λ t. key_eq t.key k) front m none)
    ∙ ap (λ (f : LiveSet → ℕ). option_map (pool_less f) (s.ledger e.pool)) kept
    ∙ ap (λ (w : State). w.ledger e.pool) (none_back s)

pub release_others : (m : List Item) (s : State) → Agree s → (k : Key) → list_any (λ t. key_eq t.key k) m ≡ false → IsUntouched k s (released m s)
release_others m s agree k none = grind (arith, other_key, other_pool)

-- untouched by one call and by the next
pub untouched_twice : (k : Key) (s t u : State) → IsUntouched k s t → IsUntouched k t u → IsUntouched k s u
untouched_twice k s t u first second = grind arith
