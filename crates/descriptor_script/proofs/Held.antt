-- What the steps of a session leave outstanding.
use Rattle.std.proofs.Common.{◌≡◌, OnOk, Result, Ok, Err, is_err, false, ℕ, ◌+◌, ◌≤◌, List, [], ◌∷◌, ◌++◌, length, length-append, map, Option, None, Some, refl, ap, ◌∙◌, arith}
use Rattle.std.proofs.lemmas.Bool.{true≢false}
use Rattle.std.proofs.lemmas.List.Elements.{filter_map-append}
use Rattle.gpu_descriptor.specs.Model.Agreement.{State, count_of}
use Rattle.gpu_descriptor.specs.Model.Promises.{AreOutBesides}
use Rattle.gpu_descriptor.specs.Caller.Sets.{items_of}
use Rattle.gpu_descriptor.specs.declared.set.DescriptorSet.{DescriptorSet}
use Rattle.gpu_descriptor.proofs.callers.HeldSets.{count_parts}
use Rattle.descriptor_script.specs.Sessions.Session.{AreAllHeld}
use Rattle.descriptor_script.specs.Sessions.Tickets.{held_sets}

-- what holds of a call that succeeded
pub is_ok_then : {T E : Type 0} (r : Result T E) (P : Type 0) → is_err r ≡ false → OnOk r P → P
is_ok_then (Ok x) P fine h = h
is_ok_then (Err e) P fine h = absurd (true≢false fine)

module _ {X : Type 0} where
  -- sets that are put after others are held after them
  pub held_more : (slots : List (Option X)) (given : List X) → held_sets (slots ++ map Some given) ≡ held_sets slots ++ given
  held_more slots given = filter_map-append (λ slot. slot) slots (map Some given) ∙ ap (λ l. held_sets slots ++ l) (all_held given)
    where
      all_held : (given : List X) → held_sets (map Some given) ≡ given
      all_held [] = refl
      all_held (x ∷ given) = ap (λ l. x ∷ l) (all_held given)

  pub held_sum : (slots : List (Option X)) (given : List X) → length (held_sets (slots ++ map Some given)) ≡ length (held_sets slots) + length given
  held_sum slots given = ap length (held_more slots given) ∙ length-append (held_sets slots) given

  -- at most as many are held as there are slots
  pub held_few : (slots : List (Option X)) → length (held_sets slots) ≤ length slots
  held_few [] = omega arith
  held_few (None ∷ slots) = let h = held_few slots in omega arith
  held_few (Some x ∷ slots) = let h = held_few slots in omega arith

-- given sets are held besides
pub all_held_more : {S : Type 0} (name : S → ℕ) (slots : List (Option (DescriptorSet S))) (given : List (DescriptorSet S)) (s t : State) → AreAllHeld name slots s → AreOutBesides (items_of name given) s t → AreAllHeld name (slots ++ map Some given) t
all_held_more name slots given s t held besides x = (let h = held x in let b = besides x in let more = ap (λ l. count_of x (items_of name l)) (held_more slots given) ∙ count_parts name (held_sets slots) given x in omega arith)
