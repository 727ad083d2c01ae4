-- Sets that leave their slots, and how many are left. What a slot has by a view is counted by its weight: with weight 1 it is the number of sets,
-- and for the set manager how often an item is among them.
use Rattle.descriptor_table.proofs.Common.{common_steps, ◌≡◌, ℕ, zero, suc, ◌+◌, ◌<◌, ne_eqb, Bool, false, List, [], ◌∷◌, length, set, Option, Some, None, refl, ap, ◌∙◌, arith, rules, is_of, cons_option, filter_map, slot_at, GivesAny, vacated, Group, Slot}

-- what sets weigh
abbrev pub tally : {T : Type 0} → (T → ℕ) → List T → ℕ
tally weight [] = 0
tally weight (x ∷ l) = weight x + tally weight l

-- what the set weighs, if there is one
abbrev pub weight_of : {T : Type 0} → (T → ℕ) → Option T → ℕ
weight_of weight None = 0
weight_of weight (Some x) = weight x

module _ {T : Type 0} (weight : T → ℕ) where
  pub tally_cons : (o : Option T) (l : List T) → tally weight (cons_option o l) ≡ weight_of weight o + tally weight l
  tally_cons x0 l = grind (arith, common_steps)

module _ {T X : Type 0} (weight : X → ℕ) (view : Slot T → Option X) where
  -- a slot changed
  pub tally_set : (slots : List (Slot T)) (p : ℕ) (s : Slot T) → p < length slots → tally weight (filter_map view (set slots p s)) + weight_of weight (view (slot_at slots p)) ≡ tally weight (filter_map view slots) + weight_of weight (view s)
  tally_set [] p s within = absurd (omega arith)
  tally_set (y ∷ slots) zero s within = let a = tally_cons weight (view s) (filter_map view slots) in let b = tally_cons weight (view y) (filter_map view slots) in omega arith
  tally_set (y ∷ slots) (suc p) s within = let h = tally_set slots p s (omega arith) in let a = tally_cons weight (view y) (filter_map view (set slots p s)) in let b = tally_cons weight (view y) (filter_map view slots) in omega arith

  -- without a set that was taken out the others weigh less by its weight
  pub gives_weigh : ((s : Slot T) → view (vacated s) ≡ None) → (test : Slot T → Bool) (x : X) (old new : List (Slot T)) → GivesAny test view (Some x) old new → tally weight (filter_map view old) ≡ weight x + tally weight (filter_map view new)
  gives_weigh gone test x old new g = search (rules, tally_set)

pub tally_length : {T : Type 0} (l : List T) → tally (λ x. 1) l ≡ length l
tally_length [] = refl
tally_length (x ∷ l) = let h = tally_length l in omega arith

module _ {T X : Type 0} where
  -- slots whose sets are the same
  pub same_sets : (view more : Slot T → Option X) (l m : List (Slot T)) → length m ≡ length l → ((p : ℕ) → more (slot_at m p) ≡ view (slot_at l p)) → filter_map more m ≡ filter_map view l
  same_sets view more [] m long same = grind (arith, common_steps)
  same_sets view more (x ∷ l) [] long same = absurd (omega arith)
  same_sets view more (x ∷ l) (y ∷ m) long same = ap (λ o. cons_option o (filter_map more m)) (same 0) ∙ ap (cons_option (view x)) (same_sets view more l m (omega arith) (λ p. same (suc p)))

-- a vacant slot has no set of a group
pub group_out : {T : Type 0} (group : Group) (s : Slot T) → is_of group (vacated s) ≡ false
group_out x0 s = search (rules, ne_eqb)
