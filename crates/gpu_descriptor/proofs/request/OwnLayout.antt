-- What was put stands behind what was there, and has the layout that was asked for.
use Rattle.gpu_descriptor.proofs.Common.{◌≡◌, ◌+◌, ◌++◌, ◌∙◌, ℕ, List, ap, length-append, length-map, map-append, Appends, items_at, items_of, map, length, All, All-append, arith, subst, sym, DescriptorSet, IsOfLayout, AreOfLayout, Key, Meaning, set_at}
use Rattle.std.proofs.lemmas.List.Elements.{All-map}
use Rattle.gpu_descriptor.specs.Caller.SetLists.{appended}
use Rattle.gpu_descriptor.proofs.lists.Appended.{appended_more, front_more}
use Rattle.gpu_descriptor.proofs.request.Walking.{items_of-sets_at}

-- what a pool gave stands behind what the others gave
module _ {L P S : Type 0} {means : Meaning L P S} {layout : L} {count left : ℕ} {old now new : List (DescriptorSet S)} (was : Appends means layout count left old now) (k : Key) (id number : ℕ) (raws : List S) (is : new ≡ now ++ map (set_at k id number) raws) where
  came : appended old new ≡ appended old now ++ map (set_at k id number) raws
  came = appended_more old now (map (set_at k id number) raws) was.front is

  pub long_more : length (appended old new) ≡ length (appended old now) + length raws
  long_more = ap length came ∙ length-append (appended old now) (map (set_at k id number) raws) ∙ ap (λ (n : ℕ). length (appended old now) + n) (length-map raws (set_at k id number))

  pub items_behind : items_of means.set_name (appended old new) ≡ items_of means.set_name (appended old now) ++ items_at k id number (map means.set_name raws)
  items_behind = ap (items_of means.set_name) came ∙ map-append _ (appended old now) (map (set_at k id number) raws) ∙ ap (λ x. items_of means.set_name (appended old now) ++ x) (items_of-sets_at means.set_name k id number raws)

  pub appends_more : {needed : ℕ} → needed + length raws ≡ left → All (IsOfLayout means layout) raws → Appends means layout count needed old new
  appends_more less own = record { front = front_more old now (map (set_at k id number) raws) was.front is; own = subst (AreOfLayout means layout) (sym came) (All-append (λ x. IsOfLayout means layout x.raw) (appended old now) _ was.own (All-map (λ x. IsOfLayout means layout x.raw) (set_at k id number) raws own)); rest = (let rest = was.rest in let long = long_more in omega arith) }
