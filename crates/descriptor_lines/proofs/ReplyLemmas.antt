-- The texts of replies, and how long they are: for `reply_answer`, `sets_answer` and the loop of `stretches_answer`.
-- A *stretch* is neighbours that are one pool: `n` of `pool` so far, up to `ticket`, of tickets up to `end`.
use Rattle.std.proofs.lemmas.Grind.{common_steps}
use Rattle.std.proofs.Common.{◌≡◌, ◌≢◌, ℕ, zero, suc, ◌+◌, ◌-◌, ◌<◌, ◌≤◌, ◌^◌, ◌⊎◌, inl, inr, List, [], ◌∷◌, ◌++◌, length, replicate, Option, append-nil, refl, sym, ap, ◌∙◌, arith, rules}
use Rattle.std.specs.Fmt.{decimal}
use Rattle.std.specs.List.{flat_map}
use Rattle.std.proofs.lemmas.Bool.{cases_lt}
use Rattle.std.proofs.lemmas.Bool.Decides.{nat_tests}
use Rattle.std.proofs.lemmas.Fmt.{length-decimal-le}
use Rattle.std.proofs.lemmas.List.{replicate_more}
use Rattle.gpu_descriptor.specs.declared.set.DescriptorSet.{DescriptorSet}
use Rattle.descriptor_script.specs.declared.raw.RawSet.{RawSet}
use Rattle.descriptor_lines.specs.Replies.{pool_at}
use Rattle.descriptor_lines.specs.ReplyTexts.{pools_from, range_text, run_before, stretch_text, stretches, stretches_text}

-- ---- stretches

-- a pool before a run of its own makes it longer, and before one of another pool it begins one
longer_run : (pool n : ℕ) (runs : List (ℕ × ℕ)) → run_before pool ((pool, n) ∷ runs) ≡ (pool, suc n) ∷ runs
longer_run pool n runs = grind (arith, nat_tests)

new_run : (pool next : ℕ) (runs : List (ℕ × ℕ)) → next ≢ pool → run_before pool (run_before next runs) ≡ (pool, 1) ∷ run_before next runs
new_run pool next [] apart = grind (arith, nat_tests)
new_run pool next ((other, n) ∷ runs) apart = grind (arith, nat_tests)

-- neighbours of one pool are a run, where the pool begins one before the rest
whole_run : (pool n : ℕ) (rest : List ℕ) → run_before pool (stretches rest) ≡ (pool, 1) ∷ stretches rest → stretches (replicate (suc n) pool ++ rest) ≡ (pool, suc n) ∷ stretches rest
unfolding stretches
whole_run pool zero rest alone = alone
whole_run pool (suc n) rest alone = ap (run_before pool) (whole_run pool n rest alone) ∙ longer_run pool (suc n) (stretches rest)

-- the text of a stretch before another pool, and below of the last one
stretch_over : (pool n next : ℕ) (rest : List ℕ) → 0 < n → next ≢ pool → stretches_text (replicate n pool ++ next ∷ rest) ≡ stretch_text (pool, n) ++ stretches_text (next ∷ rest)
unfolding stretches_text stretches
stretch_over pool zero next rest some apart = absurd (omega arith)
stretch_over pool (suc n) next rest some apart =
    ap (flat_map stretch_text) (whole_run pool n (next ∷ rest) (new_run pool next (stretches rest) apart))

stretch_last : (pool n : ℕ) → 0 < n → stretches_text (replicate n pool ++ []) ≡ stretch_text (pool, n)
unfolding stretches_text stretches
stretch_last pool zero some = absurd (omega arith)
stretch_last pool (suc n) some = ap (flat_map stretch_text) (whole_run pool n [] refl) ∙ append-nil (stretch_text (pool, suc n))

-- ---- the pools of tickets up to the end, one by one

module _ (slots : List (Option (DescriptorSet RawSet))) (ticket end : ℕ) where
  -- no ticket is left, or one is next, with its pool
  no_pool : end ≤ ticket → pools_from slots ticket (end - ticket) ≡ []
  no_pool done = grind (arith, common_steps)

  next_pool : ticket < end → pools_from slots ticket (end - ticket) ≡ pool_at slots ticket ∷ pools_from slots (ticket + 1) (end - (ticket + 1))
  next_pool more = search rules

  -- the next ticket's pool is that of the stretch
  pub stretch_grows : (pool n : ℕ) → ticket < end → pool_at slots ticket ≡ pool → replicate (n + 1) pool ++ pools_from slots (ticket + 1) (end - (ticket + 1)) ≡ replicate n pool ++ pools_from slots ticket (end - ticket)
  stretch_grows pool n more same = grind (arith, common_steps, next_pool, replicate_more)

  -- the next ticket's pool is another
  pub stretch_ends : (pool n next : ℕ) → ticket < end → 0 < n → pool_at slots ticket ≡ next → next ≢ pool
      → stretch_text (pool, n) ++ stretches_text (replicate 1 next ++ pools_from slots (ticket + 1) (end - (ticket + 1))) ≡ stretches_text (replicate n pool ++ pools_from slots ticket (end - ticket))
  stretch_ends pool n next more some is apart =
      let rest : List ℕ = pools_from slots (ticket + 1) (end - (ticket + 1)) in
      sym (stretch_over pool n next rest some apart) ∙ ap (λ p. stretches_text (replicate n pool ++ p ∷ rest)) (sym is) ∙ ap (λ l. stretches_text (replicate n pool ++ l)) (sym (next_pool more))

  -- no ticket is left
  pub stretch_is_last : (pool n : ℕ) → end ≤ ticket → 0 < n → stretch_text (pool, n) ≡ stretches_text (replicate n pool ++ pools_from slots ticket (end - ticket))
  stretch_is_last pool n done some = sym (stretch_last pool n some) ∙ ap (λ l. stretches_text (replicate n pool ++ l)) (sym (no_pool done))

-- ---- lengths

digits_at_most_by : (n : ℕ) → 0 < n → n < 2 ^ 64 → (n < 10) ⊎ (10 ≤ n) → (n < 100) ⊎ (100 ≤ n) → length (decimal n) ≤ n
digits_at_most_by n some fits (inl one) two = omega (arith, length-decimal-le 1 n (omega arith) (omega arith) fits)
digits_at_most_by n some fits (inr one) (inl two) = omega (arith, length-decimal-le 2 n (omega arith) (omega arith) fits)
digits_at_most_by n some fits (inr one) (inr two) = omega (arith, length-decimal-le 20 n (omega arith) (omega arith) fits)

-- a number above 0 has no more digits than it says
digits_at_most : (n : ℕ) → 0 < n → n < 2 ^ 64 → length (decimal n) ≤ n
digits_at_most n some fits = digits_at_most_by n some fits (cases_lt n 10) (cases_lt n 100)

-- a number of 64 bits has at most 20 digits
pub length_of_number : (n : ℕ) → n < 2 ^ 64 → length (decimal n) ≤ 20
length_of_number n fits = length-decimal-le 20 n (omega arith) (omega arith) fits

-- a stretch of one set has at most 23 bytes, and each further set adds at most one
pub length_of_stretch : (pool n : ℕ) → 0 < n → pool < 2 ^ 64 → n < 2 ^ 64 → length (stretch_text (pool, n)) ≤ 22 + n
length_of_stretch pool n some named fits = grind (arith, common_steps, digits_at_most, length_of_number)

-- a text with numbers is no longer than their digits allow
pub length_of_range : (first last : ℕ) → first < 2 ^ 64 → last < 2 ^ 64 → length (range_text first last) ≤ 47
length_of_range first last from to = grind (arith, common_steps, length_of_number)
