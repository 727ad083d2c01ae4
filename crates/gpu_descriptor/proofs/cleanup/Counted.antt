-- How many pools go, in two parts and at once.
use Rattle.gpu_descriptor.proofs.Common.{State, AreOutstanding, Item, Agree, ◌≡◌, ℕ, ◌+◌, Bool, true, false, ◌||◌, List, [], ◌∷◌, ◌++◌, sum_by, refl, sym, ap, ◌∙◌, arith, if◌then◌else◌, fun_ext, Key, key_eq, Bucket, count_by-append, common_steps, list_any-append, lies_in, bucket_less, spent_front}
use Rattle.gpu_descriptor.proofs.Common.{released, pools_gone}
use Rattle.gpu_descriptor.proofs.release.Fronts.{less-less, spent_front-less}
use Rattle.gpu_descriptor.proofs.release.Places.{back}
use Rattle.gpu_descriptor.proofs.release.Given.{names_key}
use Rattle.gpu_descriptor.proofs.release.Parts.{trimmed_if, quiet_key, back_still}

-- of one key, which each part names or not
count_law : (first second : Bool) (f g : ℕ → ℕ) (b : Bucket) → (second ≡ false → bucket_less (λ p. f p + g p) b ≡ bucket_less f b)
    → (if first then spent_front (bucket_less f b) else 0) + (if second then spent_front (bucket_less g (trimmed_if first (bucket_less f b))) else 0) ≡ (if first || second then spent_front (bucket_less (λ p. f p + g p) b) else 0)
count_law true true f g b quiet = sym (ap spent_front (sym (less-less f g b)) ∙ spent_front-less g (bucket_less f b))
count_law true false f g b quiet = (let same = ap spent_front (quiet refl) in omega arith)
count_law false true f g b quiet = (let same = ap spent_front (less-less f g b) in omega arith)
count_law false false f g b quiet = omega arith

sum_both : (f g h : Key → ℕ) → ((k : Key) → f k + g k ≡ h k) → (keys : List Key) → sum_by f keys + sum_by g keys ≡ sum_by h keys
sum_both f g h each [] = omega arith
sum_both f g h each (k ∷ keys) = grind (arith, common_steps, (sum_both f g h each keys))

-- of all keys: those that go with the first part and those that go with the second are those of both
pub gone : (keys : List Key) (m n : List Item) (s : State) → Agree s → AreOutstanding (m ++ n) s → pools_gone keys m s + pools_gone keys n (released m s) ≡ pools_gone keys (m ++ n) s
gone keys m n s agree out =
    let u = released m s in
    let counts : back n u ≡ back n s = back_still m n s agree out in
    let sums : back (m ++ n) s ≡ (λ pool. back m s pool + back n s pool) = fun_ext (λ pool. count_by-append (lies_in s.books pool) m n) in
    sum_both
    (λ k. if names_key m k then spent_front (bucket_less (back m s) (s.books k)) else 0)
    (λ k. if names_key n k then spent_front (bucket_less (back n u) (u.books k)) else 0)
    (λ k. if names_key (m ++ n) k then spent_front (bucket_less (back (m ++ n) s) (s.books k)) else 0)
    (λ k.
    let first : ℕ = if names_key m k then spent_front (bucket_less (back m s) (s.books k)) else 0 in
    ap (λ (f : ℕ → ℕ). first + (if names_key n k then spent_front (bucket_less f (u.books k)) else 0)) counts
    ∙ count_law (names_key m k) (names_key n k) (back m s) (back n s) (s.books k) (quiet_key m n s agree k)
    ∙ ap (λ (f : ℕ → ℕ). if names_key m k || names_key n k then spent_front (bucket_less f (s.books k)) else 0) (sym sums)
    ∙ ap (λ (x : Bool). if x then spent_front (bucket_less (back (m ++ n) s) (s.books k)) else 0) (sym (list_any-append (λ t. key_eq t.key k) m n)))
    keys
