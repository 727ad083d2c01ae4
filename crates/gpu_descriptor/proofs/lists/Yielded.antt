-- What an iterator has given, where each step takes the first of what is still to come.
use Rattle.gpu_descriptor.proofs.Common.{◌≡◌, List, [], ◌∷◌, ◌++◌, Option, Some, None, sym, ap, ◌∙◌, append-nil}
use Rattle.std.specs.Iterator.{Yields, YieldsThen}

module _ {T X : Type 0} (steps : T → Option X → T → Type 0) (rest : T → List X) (first : (s t : T) (x : X) → steps s (Some x) t → rest s ≡ x ∷ rest t) where
  pub front_given : (s : T) (xs : List X) (t : T) → Yields steps s xs t → rest s ≡ xs ++ rest t
  front_given s [] t y = ap rest y
  front_given s (x ∷ xs) t y = first s y.0 x y.1 ∙ ap (λ (ys : List X). x ∷ ys) (front_given y.0 xs t y.2)

  pub all_given : ((s t : T) → steps s None t → rest s ≡ []) → (s : T) (xs : List X) (u : T) → YieldsThen steps s xs None u → xs ≡ rest s
  all_given last s xs u y = sym (front_given s xs y.0 y.1 ∙ ap (λ (ys : List X). xs ++ ys) (last y.0 u y.2) ∙ append-nil xs)
