-- How many of a pool's sets the room for descriptors lets it have, and a bound on its descriptors.
-- For `cut_pool_size` and `next_size`. A set has each descriptors; the pool would have whole sets, and has sets of them.
use Rattle.std.proofs.Common.{◌≡◌, ℕ, ◌+◌, ◌-◌, ◌*◌, ◌/◌, ◌≤◌, ◌<◌, ◌==◌, max, min, Option, None, Some, inl, inr, refl, ap, ◌∙◌, arith, eqb-true}
use Rattle.std.proofs.Math.Nat.{div-mul-le_self, mul-le-mul_right}
use Rattle.std.proofs.lemmas.Nat.{le-div}
use Rattle.std.proofs.lemmas.Bool.{cases_Bool, eqb-false}
use Rattle.gpu_descriptor_types.specs.PoolSize.{bounded_sets, sets_in_room}

pub few_in_room : (room each whole : ℕ) → sets_in_room room each whole ≤ whole
few_in_room room each whole = elim (cases_Bool (each == 0)) [
  | inl none ↦ rw none (elim (cases_Bool (room == 0)) [ inl nil ↦ rw nil (omega arith) | inr left ↦ rw left (omega arith) ])
  | inr some ↦ rw some (omega arith)
]

-- the descriptors of these sets are within the room
pub fits_in_room : (room each whole sets : ℕ) → sets ≡ sets_in_room room each whole → 1 ≤ sets → max 1 (sets * each) ≤ room
fits_in_room room each whole sets is one = elim (cases_Bool (each == 0)) [
  | inl none ↦ elim (cases_Bool (room == 0)) [
    | inl nil ↦ (let bad : sets ≡ 0 = is ∙ rw (none, nil) refl in absurd (omega arith))
    | inr left ↦ (
        let zero_each : each ≡ 0 = eqb-true each 0 none in
        let product : sets * each ≡ 0 = ap (λ n. sets * n) zero_each ∙ (omega arith) in
        let some = eqb-false room 0 left in
        omega arith)
  ]
  | inr some ↦ (
      let at : sets ≡ min whole (room / each) = is ∙ rw some refl in
      let below : sets * each ≤ room / each * each = mul-le-mul_right each (omega arith) in
      let all = div-mul-le_self room each in
      let each_some = eqb-false each 0 some in
      let high : 1 ≤ each = omega arith in
      let more : 1 * each ≤ sets * each = mul-le-mul_right each one in
      omega arith)
]

times_more : (n m : ℕ) → (n + 1) * m ≡ n * m + m
times_more n m = grind arith

-- if one set more would fit, none was cut off
pub whole_in_room : (room each whole sets : ℕ) → sets ≡ sets_in_room room each whole → 1 ≤ sets → max 1 (1 * each) ≤ room - max 1 (sets * each) → sets ≡ whole
whole_in_room room each whole sets is one more = elim (cases_Bool (each == 0)) [
  | inl none ↦ elim (cases_Bool (room == 0)) [
    | inl nil ↦ (let bad : sets ≡ 0 = is ∙ rw (none, nil) refl in absurd (omega arith))
    | inr left ↦ is ∙ rw (none, left) refl
  ]
  | inr some ↦ (
      let at : sets ≡ min whole (room / each) = is ∙ rw some refl in
      let each_some = eqb-false each 0 some in
      let high : 1 ≤ each = omega arith in
      let next = times_more sets each in
      let above : sets + 1 ≤ room / each = le-div (sets + 1) room each high (omega arith) in
      omega arith)
]

-- where there is room for all, none is cut off
pub all_in_room : (room each whole : ℕ) → max 1 (whole * each) ≤ room → sets_in_room room each whole ≡ whole
all_in_room room each whole fits = elim (cases_Bool (each == 0)) [
  | inl none ↦ elim (cases_Bool (room == 0)) [
    | inl nil ↦ (let zero_room = eqb-true room 0 nil in absurd (omega arith))
    | inr left ↦ rw (none, left) refl
  ]
  | inr some ↦ (
      let each_some = eqb-false each 0 some in
      let high : 1 ≤ each = omega arith in
      let above : whole ≤ room / each = le-div whole room each high (omega arith) in
      rw some (omega arith))
]

-- a bound
pub bounded_few : (bound : Option ℕ) (each wanted sets : ℕ) → bounded_sets bound each wanted sets ≤ sets
bounded_few None each wanted sets = omega arith
bounded_few (Some bound) each wanted sets = omega arith

pub bounded_some : (bound : Option ℕ) (each wanted sets : ℕ) → 1 ≤ wanted → 1 ≤ sets → 1 ≤ bounded_sets bound each wanted sets
bounded_some None each wanted sets wants some = some
bounded_some (Some bound) each wanted sets wants some = omega arith

-- what is below what is still needed wasn't cut to it
pub bounded_whole : (bound : Option ℕ) (each wanted sets size : ℕ) → size ≡ bounded_sets bound each wanted sets → size < wanted → size ≡ sets
bounded_whole None each wanted sets size is short = is
bounded_whole (Some bound) each wanted sets size is short = omega arith
