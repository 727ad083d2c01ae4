-- What a list has behind another.
use Rattle.gpu_descriptor.proofs.Common.{◌≡◌, List, ◌++◌, sym, ap, ◌∙◌, drop, length, append_assoc}
use Rattle.std.proofs.Math.Seq.{drop-append_seam}
use Rattle.gpu_descriptor.specs.Caller.SetLists.{appended}

module _ {X : Type 0} (old : List X) {new : List X} (put : List X) (is : new ≡ old ++ put) where
  pub appended_is : appended old new ≡ put
  appended_is = ap (drop (length old)) is ∙ drop-append_seam old put

  pub front_stays : new ≡ old ++ appended old new
  front_stays = is ∙ ap (λ (ys : List X). old ++ ys) (sym appended_is)

module _ {X : Type 0} (old now : List X) {new : List X} (put : List X) (front : now ≡ old ++ appended old now) (is : new ≡ now ++ put) where
  joined : new ≡ old ++ (appended old now ++ put)
  joined = is ∙ ap (λ (ys : List X). ys ++ put) front ∙ append_assoc old (appended old now) put

  pub appended_more : appended old new ≡ appended old now ++ put
  appended_more = appended_is old (appended old now ++ put) joined

  pub front_more : new ≡ old ++ appended old new
  front_more = front_stays old (appended old now ++ put) joined
