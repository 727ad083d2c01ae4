-- The numbers of a key's pools once a request took sets of them: the old pools keep theirs, and the new ones have the next.
use Rattle.gpu_descriptor.proofs.Common.{common_steps, ◌≡◌, ℕ, zero, suc, ◌+◌, ◌≤◌, Bool, true, List, [], ◌∷◌, ◌++◌, length, take, drop, slice_get, Some, refl, sym, ap, ◌∙◌, arith, append-nil, Entry, Bucket, Fresh, fresh_entries, fresh_entry, next_number, number_after, numbers_of}
use Rattle.gpu_descriptor.proofs.Common.{rises, all_shared, Key, Grant, Item, Ledger, HasTaken, none-some}
use Rattle.gpu_descriptor.proofs.lists.Numbers.{next_push, rises_push}

-- ---- the entries of new pools

pub fresh_entries_more : (number : ℕ) (fs : List Fresh) (f : Fresh) → fresh_entries number (fs ++ f ∷ []) ≡ fresh_entries number fs ++ fresh_entry (number + length fs) f ∷ []
fresh_entries_more number [] f = ap (λ (m : ℕ). fresh_entry m f ∷ []) (let e : number ≡ number + 0 = omega arith in e)
fresh_entries_more number (h ∷ fs) f = grind (arith, common_steps, (fresh_entries_more (number + 1) fs f))

pub fresh_get : (number : ℕ) (fs : List Fresh) (j : ℕ) (f : Fresh) → slice_get fs j ≡ Some f → slice_get (fresh_entries number fs) j ≡ Some (fresh_entry (number + j) f)
fresh_get number [] j f at = absurd (none-some f at)
fresh_get number (h ∷ fs) zero f at = grind (arith, common_steps)
fresh_get number (h ∷ fs) (suc j) f at = fresh_get (number + 1) fs j f at ∙ ap (λ (m : ℕ). Some (fresh_entry m f)) (let e : number + 1 + j ≡ number + suc j = omega arith in e)

-- ---- their numbers

numbers_shared : (refused : ℕ → Bool) (n : ℕ) (es fs : List Entry) → numbers_of (all_shared refused n es ++ fs) ≡ numbers_of es ++ numbers_of fs
numbers_shared refused n [] fs = refl
numbers_shared refused n (e ∷ es) fs = ap (λ (ns : List ℕ). e.number ∷ ns) (numbers_shared refused n es fs)

pub numbers_taken : (refused : ℕ → Bool) (n left : ℕ) (es fs : List Entry) → numbers_of (take left es ++ all_shared refused n (drop left es) ++ fs) ≡ numbers_of es ++ numbers_of fs
numbers_taken refused n zero es fs = numbers_shared refused n es fs
numbers_taken refused n (suc left) [] fs = refl
numbers_taken refused n (suc left) (e ∷ es) fs = ap (λ (ns : List ℕ). e.number ∷ ns) (numbers_taken refused n left es fs)

pub rises_fresh : (number : ℕ) (fs : List Fresh) (xs : List ℕ) → rises xs ≡ true → number_after xs ≤ number → rises (xs ++ numbers_of (fresh_entries number fs)) ≡ true
rises_fresh number [] xs h le = ap rises (append-nil xs) ∙ h
rises_fresh number (f ∷ fs) xs h le = grind (arith, common_steps, next_push, rises, rises_push, (rises_fresh (number + 1) fs (xs ++ number ∷ [])))

next_fresh : (number : ℕ) (fs : List Fresh) (xs : List ℕ) → number ≡ number_after xs → number_after (xs ++ numbers_of (fresh_entries number fs)) ≡ number + length fs
next_fresh number [] xs is = ap number_after (append-nil xs) ∙ sym is ∙ (let e : number ≡ number + 0 = omega arith in e)
next_fresh number (f ∷ fs) xs is = grind (arith, common_steps, next_push, (next_fresh (number + 1) fs (xs ++ number ∷ [])))

-- ---- after a request

module _ (k : Key) (n : ℕ) (g : Grant) (items : List Item) (old new : Bucket) (l m : Ledger) (taken : HasTaken k n g items old new l m) where
  numbers_now : numbers_of new.pools ≡ numbers_of old.pools ++ numbers_of (fresh_entries (next_number old) g.fresh)
  numbers_now = ap (λ (b : Bucket). numbers_of b.pools) taken.bucket ∙ numbers_taken g.refused n g.skipped old.pools (fresh_entries (next_number old) g.fresh)

  -- each new pool takes one number
  pub next_taken : next_number new ≡ next_number old + length g.fresh
  next_taken = ap number_after numbers_now ∙ next_fresh (next_number old) g.fresh (numbers_of old.pools) refl
