-- Held sets whose slots turn by their handles, one after another: for the names of `Named`. `n` is how many turned.
use Rattle.descriptor_table.proofs.Common.{common_steps, ◌≡◌, ◌≢◌, ℕ, zero, suc, ◌+◌, ◌<◌, ◌⊎◌, true, List, length, set, is_some, inr, sym, ap, ◌∙◌, arith, rules, length-set}
use Rattle.descriptor_table.proofs.Common.{cases_eq, AreHeldOnce, is_held, slot_at, TurnEach, holds, place_at, SetHandle, Held, Slot}
use Rattle.std.proofs.Math.Bool.{and-false}
use Rattle.descriptor_table.proofs.Chains.{and_true}
use Rattle.descriptor_table.proofs.Listed.{other_slots, slot_set, test_within}

-- a place that a handle of the list has, or none has
pub named_or : (n : ℕ) (place : ℕ → ℕ) (p : ℕ) → ((i : ℕ) × (i < n) × (place i ≡ p)) ⊎ ((i : ℕ) → i < n → place i ≢ p)
named_or zero place p = inr (λ i lt. absurd (omega arith))
named_or (suc n) place p = grind (arith, common_steps, cases_eq (place n) p, named_or n place p)

-- handles with the same three numbers are the same
pub handle_is : (a b : SetHandle) → a.manager ≡ b.manager → a.place ≡ b.place → a.generation ≡ b.generation → a ≡ b
handle_is a b r p g = grind (arith, common_steps)

module _ {T : Type 0} where
  -- what is known of a handle with a held set
  pub record IsHeld (number : ℕ) (slots : List (Slot T)) (h : SetHandle) : Type 0 where
    pub manager : h.manager ≡ number
    pub generation : h.generation ≡ (slot_at slots h.place).generation
    pub used : (slot_at slots h.place).used ≡ Held
    pub holds : holds (slot_at slots h.place) ≡ true
    pub full : is_some (slot_at slots h.place).set ≡ true
    pub within : h.place < length slots

  -- a handle that passes the test `is_held` has all that
  pub held_is : (number : ℕ) (slots : List (Slot T)) (h : SetHandle) → is_held number slots h ≡ true → IsHeld number slots h
  held_is number slots h e = grind (arith, common_steps, and-false, and_true, test_within)

  -- the slots of the first n handles became what the relation says; all others are as they were
  pub record TurnedFirst (handles : List SetHandle) (becomes : List (Slot T) → Slot T → Slot T → Type 0) (n : ℕ) (old now : List (Slot T)) : Type 0 where
    pub long : length now ≡ length old
    pub named : (i : ℕ) → i < n → becomes now (slot_at old (place_at handles i)) (slot_at now (place_at handles i))
    pub rest : (p : ℕ) → ((i : ℕ) → i < n → place_at handles i ≢ p) → slot_at now p ≡ slot_at old p

  module _ (handles : List SetHandle) (becomes : List (Slot T) → Slot T → Slot T → Type 0) where
    -- one slot more turned
    pub first_more : (n p : ℕ) (s : Slot T) (old now new : List (Slot T)) → TurnedFirst handles becomes n old now → ((i : ℕ) → i < n → place_at handles i ≢ p) → place_at handles n ≡ p → p < length now → new ≡ set now p s → ((o x : Slot T) → becomes now o x → becomes new o x) → becomes new (slot_at now p) s → TurnedFirst handles becomes (n + 1) old new
    first_more n p s old now new first apart at within made grows turned = record {
      long = ap length made ∙ length-set now p s ∙ first.long;
      named = λ i less. grind (arith, common_steps, cases_eq, first.rest p apart, other_slots now p s, slot_set now p s within);
      rest = λ q none. ap (λ l. slot_at l q) made ∙ other_slots now p s q (λ e. none n (omega arith) (at ∙ sym e)) ∙ first.rest q (λ i less. none i (omega arith));
    }

    pub first_all : (n : ℕ) (old now : List (Slot T)) → n ≡ length handles → TurnedFirst handles becomes n old now → TurnEach handles becomes old now
    first_all n old now all first = record { long = first.long; named = λ i lt. first.named i (omega arith); rest = λ p none. first.rest p (λ i lt. none i (omega arith)) }

  -- handles with held sets, none of which is in the list twice, have different places
  pub apart_once : (number : ℕ) (slots : List (Slot T)) (handles : List SetHandle) → AreHeldOnce number slots handles → (i j : ℕ) → i < j → j < length handles → place_at handles i ≢ place_at handles j
  apart_once number slots handles once i j less lt e = search (rules, handle_is, held_is)
