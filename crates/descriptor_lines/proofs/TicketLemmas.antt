-- Tickets in a row, one by one: for `add_tickets` and `push_rising`.
use Rattle.std.proofs.Common.{◌≡◌, ℕ, zero, suc, ◌+◌, ◌-◌, [], ◌∷◌, ◌++◌, length, ap, ◌∙◌, arith}
use Rattle.std.proofs.lemmas.Grind.{common_steps}
use Rattle.std.proofs.lemmas.Bool.Decides.{nat_tests}
use Rattle.std.proofs.lemmas.List.{length-reverse}
use Rattle.std.proofs.lemmas.List.FromFn.{length-range_with_len}
use Rattle.std.specs.List.{range_with_len}
use Rattle.descriptor_lines.specs.Tickets.{tickets_between}

range_more : (a n : ℕ) → range_with_len a (suc n) ≡ range_with_len a n ++ (a + n) ∷ []
range_more a zero = ap (λ x. x ∷ []) (let e : a ≡ a + 0 = omega arith in e)
range_more a (suc n) =
    ap (λ xs. a ∷ xs) (range_more (a + 1) n ∙ ap (λ x. range_with_len (a + 1) n ++ x ∷ []) (let e : a + 1 + n ≡ a + suc n = omega arith in e))

-- one more up
pub rising_more : (first n : ℕ) → range_with_len first (n + 1) ≡ range_with_len first n ++ (first + n) ∷ []
rising_more first n = ap (range_with_len first) (let e : n + 1 ≡ suc n = omega arith in e) ∙ range_more first n

-- how many tickets there are from the one to the other, with both
pub count_between : (first last : ℕ) → length (tickets_between first last) ≡ (first - last) + (last - first) + 1
count_between first last = grind (arith, common_steps, nat_tests, length-range_with_len, length-reverse {A = ℕ})
