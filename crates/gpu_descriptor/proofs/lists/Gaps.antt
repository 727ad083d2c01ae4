-- Numbers without gaps: each is one more than the one before it. What requests, frees and cleanups leave of them.
use Rattle.gpu_descriptor.proofs.Common.{◌≡◌, ℕ, zero, suc, ◌+◌, ◌≤◌, true, nat_lt, List, [], ◌∷◌, ◌++◌, length, drop, slice_get, slice_index, Some, refl, sym, subst, arith, append-nil, length-append, list_all, and_parts, common_steps}
use Rattle.gpu_descriptor.proofs.Common.{Fresh, fresh_entries, number_after, numbers_of, rises}
use Rattle.gpu_descriptor.proofs.lists.Numbers.{all_above, above_first, below_last, next_push}

abbrev pub IsDense : List ℕ → Type 0
IsDense xs = number_after xs ≤ slice_index xs 0 + length xs

dense_rest : (x : ℕ) (xs : List ℕ) → rises (x ∷ xs) ≡ true → IsDense (x ∷ xs) → IsDense xs
dense_rest x [] h d = omega arith
dense_rest x (y ∷ xs) h d = (let lt = all_above x (y ∷ xs) (and_parts (list_all (nat_lt x) (y ∷ xs)) (rises (y ∷ xs)) h).0 0 y refl in omega arith)

pub dense_drop : (xs : List ℕ) (n : ℕ) → rises xs ≡ true → IsDense xs → IsDense (drop n xs)
dense_drop xs zero h d = d
dense_drop [] (suc n) h d = d
dense_drop (x ∷ xs) (suc n) h d = dense_drop xs n (and_parts (list_all (nat_lt x) xs) (rises xs) h).1 (dense_rest x xs h d)

dense_push : (xs : List ℕ) (n : ℕ) → IsDense xs → n ≡ number_after xs → IsDense (xs ++ n ∷ [])
dense_push [] n d is = omega arith
dense_push (x ∷ xs) n d is = (let next = next_push (x ∷ xs) n in let long = length-append (x ∷ xs) (n ∷ []) in omega arith)

pub dense_fresh : (number : ℕ) (fs : List Fresh) (xs : List ℕ) → number ≡ number_after xs → IsDense xs → IsDense (xs ++ numbers_of (fresh_entries number fs))
dense_fresh number [] xs is d = subst IsDense (sym (append-nil xs)) d
dense_fresh number (f ∷ fs) xs is d = grind (arith, common_steps, next_push, (dense_fresh (number + 1) fs (xs ++ number ∷ []) (sym (next_push xs number)) (dense_push xs number d is)))

-- each number is told by its place
pub dense_at : (xs : List ℕ) → rises xs ≡ true → IsDense xs → (i n : ℕ) → slice_get xs i ≡ Some n → n ≡ slice_index xs 0 + i
dense_at xs h d i n at = (let low = above_first xs h i n at in let high = below_last xs h i n at in omega arith)
