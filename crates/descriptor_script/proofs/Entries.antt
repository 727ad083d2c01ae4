-- Live sets that are taken out of a table, one after another: for `take_back`. An entry has the name of a set and its counts.
use Rattle.std.proofs.lemmas.Grind.{common_steps}
use Rattle.std.proofs.Common.{◌≡◌, ℕ, zero, suc, ◌+◌, ◌<◌, Bool, true, false, cond, ◌==◌, nat_eq, List, [], ◌∷◌, ◌++◌, map, length, get_or, slice_get, position, count_by, Option, None, Some, is_some, inl, inr, refl, sym, ap, ◌∙◌, arith, subst, eqb-true, eq-eqb}
use Rattle.std.specs.List.{position_or_len, swap_remove}
use Rattle.std.specs.Map.{lookup, keys_of, values_of}
use Rattle.std.proofs.lemmas.Bool.{cases_Bool, false≢true, true≢false}
use Rattle.std.proofs.lemmas.List.{length-map}
use Rattle.std.proofs.lemmas.List.Sums.{passes_at_first, sum_by-swap_remove}
use Rattle.indexmap.specs.IndexMap.{swap_remove_entry}
use Rattle.indexmap.proofs.MapLemmas.{Found-position, some_index, swap_remove_entry-found}
use Rattle.gpu_descriptor_types.specs.Multiset.{LiveSet, times, AreIn}
use Rattle.gpu_descriptor_types.specs.declared.counts.DescriptorTotalCount.{DescriptorTotalCount}
use Rattle.gpu_descriptor_types.proofs.Counting.{set_exact, count_by_yes, count_by_no, count_by-append, all_taken_out}
use Rattle.gpu_descriptor.proofs.release.RunsOfOne.{count_all}
use Rattle.descriptor_script.specs.Inner.Live.{live_set_of, live_sets_of}

pub none_either : {X : Type 0} (b : Bool) (o : Option X) → o ≡ None → cond b None o ≡ None
none_either x0 o h = grind (arith, common_steps)

-- an entry, from its key and its value
pair_at : {K X : Type 0} (es : List (K × X)) (i : ℕ) (k : K) (v : X) (d : K × X) → i < length es → k ≡ get_or (keys_of es) i k → slice_get (values_of es) i ≡ Some v → get_or es i d ≡ (k, v)
pair_at [] i k v d lt key value = absurd (omega arith)
pair_at (e ∷ es) zero k v d lt key value = grind (arith, common_steps)
pair_at (e ∷ es) (suc i) k v d lt key value = pair_at es i k v d (omega arith) key value

count_map : {A B : Type 0} (p : B → Bool) (f : A → B) (xs : List A) → count_by p (map f xs) ≡ count_by (λ a. p (f a)) xs
count_map p f [] = refl
count_map p f (x ∷ xs) = grind (arith, common_steps, cases_Bool, count_by_no, count_by_yes, count_map p f xs)

-- without the entry at a place a table counts fewer sets by that one, whatever is counted (`p`)
swap_counts : (p : LiveSet → Bool) (es : List (ℕ × DescriptorTotalCount)) (i : ℕ) (d : ℕ × DescriptorTotalCount) → i < length es → count_by p (live_sets_of (swap_remove es i d)) + count_by p (live_set_of (get_or es i d) ∷ []) ≡ count_by p (live_sets_of es)
swap_counts p es i d lt = grind (arith, common_steps, cond, count_map, sum_by-swap_remove)

-- a set that a table has is taken out, and the others stay
pub taken : (n : ℕ) (v : DescriptorTotalCount) (es fs : List (ℕ × DescriptorTotalCount)) → lookup (nat_eq n) es ≡ Some v → fs ≡ swap_remove_entry (nat_eq n) es → (p : LiveSet → Bool) → count_by p (live_sets_of fs) + count_by p (live_set_of (n, v) ∷ []) ≡ count_by p (live_sets_of es)
taken n v es fs found is p = by (position (nat_eq n) (keys_of es)) refl
  where
    -- the name is found at a place, and the entry there is taken out
    by : (r : Option ℕ) → position (nat_eq n) (keys_of es) ≡ r → count_by p (live_sets_of fs) + count_by p (live_set_of (n, v) ∷ []) ≡ count_by p (live_sets_of es)
    by None at = absurd (false≢true (sym (ap is_some at) ∙ some_index (nat_eq n) es ∙ ap is_some found))
    by (Some i) at =
        let f = Found-position (nat_eq n) es i at in
        let long : length (keys_of es) ≡ length es = length-map es (λ (e : ℕ × DescriptorTotalCount). e.0) in
        let here : position_or_len (nat_eq n) (keys_of es) < length (keys_of es) = (let w = f.within in let o = f.or_len in omega arith) in
        let passes : nat_eq n (get_or (keys_of es) i n) ≡ true = subst (λ (k : ℕ). nat_eq n (get_or (keys_of es) k n) ≡ true) f.or_len (passes_at_first (nat_eq n) (keys_of es) n here) in
        let entry : get_or es i (n, v) ≡ (n, v) = pair_at es i n v (n, v) f.within (eqb-true _ _ passes) (sym f.value ∙ found) in
        let cut : count_by p (live_sets_of (swap_remove es i (n, v))) + count_by p (live_set_of (get_or es i (n, v)) ∷ []) ≡ count_by p (live_sets_of es) = swap_counts p es i (n, v) f.within in
        ap (λ (l : List (ℕ × DescriptorTotalCount)). count_by p (live_sets_of l) + count_by p (live_set_of (n, v) ∷ []))
        (is ∙ swap_remove_entry-found (nat_eq n) es i (n, v) at)
        ∙ ap
        (λ (e : ℕ × DescriptorTotalCount).
        count_by p (live_sets_of (swap_remove es i (n, v))) + count_by p (live_set_of e ∷ []))
        (sym entry)
        ∙ cut

-- sets of one name more than are gone are in the table, so one of the name is left
pub some_left : (old now gone more : List LiveSet) (names : List ℕ) (n : ℕ) → ((p : LiveSet → Bool) → count_by p gone + count_by p now ≡ count_by p old) → map (λ s. s.name) gone ≡ names → map (λ s. s.name) more ≡ names ++ n ∷ [] → AreIn more (times old) → 0 < count_by (λ s. s.name == n) now
some_left old now gone more names n parts named further live =
    let p : LiveSet → Bool = λ s. s.name == n in
    let q : ℕ → Bool = λ m. m == n in
    let h1 : count_by p gone + count_by p now ≡ count_by p old = parts p in
    let h2 : count_by p (all_taken_out set_exact more old live).0 + count_by p more ≡ count_by p old = (all_taken_out set_exact more old live).2 p in
    let h3 : count_by p gone ≡ count_by q names = sym (count_map q (λ (s : LiveSet). s.name) gone) ∙ ap (count_by q) named in
    let h4 : count_by p more ≡ count_by q names + count_by q (n ∷ []) = sym (count_map q (λ (s : LiveSet). s.name) more) ∙ ap (count_by q) further ∙ count_by-append q names (n ∷ []) in
    let h5 : count_by q (n ∷ []) ≡ 1 = count_by_yes q n [] (eq-eqb n n refl) in
    omega arith

-- a name that is left is found
pub found_left : (n : ℕ) (es : List (ℕ × DescriptorTotalCount)) → 0 < count_by (λ s. s.name == n) (live_sets_of es) → (v : DescriptorTotalCount) × (lookup (nat_eq n) es ≡ Some v)
found_left n [] lt = absurd (omega arith)
found_left n (e ∷ es) lt = elim (cases_Bool (nat_eq n e.0)) [
  | inl h ↦ (e.1, ap (λ b. cond b (Some e.1) (lookup (nat_eq n) es)) h)
  | inr h ↦ (
      let other : (e.0 == n) ≡ false = apart n e.0 h in
      let skip : count_by (λ s. s.name == n) (live_sets_of (e ∷ es)) ≡ count_by (λ s. s.name == n) (live_sets_of es) = count_by_no (λ (s : LiveSet). s.name == n) (live_set_of e) (live_sets_of es) other in
      let rest = found_left n es (omega arith) in
      (rest.0, ap (λ b. cond b (Some e.1) (lookup (nat_eq n) es)) h ∙ rest.1))
]
  where
    apart : (a b : ℕ) → nat_eq a b ≡ false → (b == a) ≡ false
    apart a b h = grind (arith, common_steps, cases_Bool, eq-eqb, eqb-true, true≢false)

-- as many sets are gone as the table has fewer
pub gone_many : (gone : List LiveSet) (old new : List (ℕ × DescriptorTotalCount)) → ((p : LiveSet → Bool) → count_by p gone + count_by p (live_sets_of new) ≡ count_by p (live_sets_of old)) → length gone + length new ≡ length old
gone_many gone old new parts = omega (arith, parts (λ _. true), count_all gone, count_all (live_sets_of new), count_all (live_sets_of old), length-map new live_set_of, length-map old live_set_of)
