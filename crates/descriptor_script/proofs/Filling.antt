-- Sets that are put, one after another: for the loop of `fill`. `a` is the first name, `n` how many were put, and `j` the next name.
use Rattle.std.proofs.lemmas.Grind.{common_steps}
use Rattle.std.proofs.Common.{◌≡◌, ℕ, ◌+◌, ◌≤◌, cond, nat_eq, eqb-true, Option, Some, None, List, [], ◌∷◌, ◌++◌, map, replicate, append_assoc, sym, ap, ◌∙◌, arith}
use Rattle.std.specs.Prelude.{Result, IsOk, OnOk}
use Rattle.std.proofs.lemmas.Bool.{cases_Bool, false≢true}
use Rattle.indexmap.specs.IndexMap.{IndexMap, get, insert_entry, Updates}
use Rattle.indexmap.proofs.CallerLemmas.{insert_entry-new}
use Rattle.std.specs.List.{range_with_len}
use Rattle.std.proofs.lemmas.List.{length-replicate, map-append}
use Rattle.std.proofs.lemmas.List.FromFn.{map-range_with_len_more}
use Rattle.descriptor_script.specs.Scripted.Raw.{raw_set, raw_sets}
use Rattle.descriptor_script.specs.declared.raw.RawSet.{RawSet}

-- old and then numbered items, with the next one more
pub grown : {X : Type 0} (f : ℕ → X) (old now new : List X) (x : X) (a n m j : ℕ) → new ≡ now ++ x ∷ [] → now ≡ old ++ map f (range_with_len a n) → a + n ≡ j → x ≡ f j → m ≡ n + 1 → new ≡ old ++ map f (range_with_len a m)
grown f old now new x a n m j pushed before at is more = grind (arith, common_steps, append_assoc, map-range_with_len_more)

-- what is the same value some times, without its first
pub record IsNext {X : Type 0} (l x : X) (a b : ℕ) (z : X) : Type 0 where
  pub more : a ≡ b + 1
  pub same : x ≡ l
  pub rest : replicate b z ≡ replicate b l

-- of a list that has `l` some times `x` is the first, so it is `l`, and so are the others
pub next_same : {X : Type 0} (l x z y : X) (a b : ℕ) → replicate a y ≡ replicate a l → replicate a y ≡ x ∷ replicate b z → IsNext l x a b z
next_same l x z y x4 b all first = grind (arith, common_steps, length-replicate)

-- a name that is given is no longer free
pub none_above : {X : Type 0} (n m : ℕ) (w o : Option X) → n + 1 ≤ m → o ≡ None → cond (nat_eq n m) w o ≡ None
none_above n m w o above h = grind (arith, common_steps, cases_Bool, cond, eqb-true)

-- an entry that was put under a free name
pub put_last : {X S E : Type 0} (m n : IndexMap ℕ X S) (k : ℕ) (v : X) (r : Result (Option X) E) → IsOk r → OnOk r (n.entries ≡ insert_entry nat_eq m.entries k v) → get nat_eq m k ≡ None → n.entries ≡ m.entries ++ (k, v) ∷ []
put_last m n k v x4 ok h free = grind (arith, common_steps, false≢true, insert_entry-new)

pub put_changes : {X S E : Type 0} (m n : IndexMap ℕ X S) (k : ℕ) (v : X) (r : Result (Option X) E) → IsOk r → OnOk r (Updates nat_eq m n k (Some v)) → (q : ℕ) → get nat_eq n q ≡ cond (nat_eq k q) (Some v) (get nat_eq m q)
put_changes m n k v x4 ok h = grind (arith, common_steps, false≢true)

-- what a sink keeps of the sets so far, with the next one more
pub kept_grown : {X : Type 0} (kept_as : RawSet → X) (old now new : List X) (x : X) (pool a n m j : ℕ) → new ≡ now ++ x ∷ [] → now ≡ old ++ map kept_as (raw_sets pool a n) → a + n ≡ j → x ≡ kept_as (raw_set pool j) → m ≡ n + 1 → new ≡ old ++ map kept_as (raw_sets pool a m)
kept_grown kept_as old now new x pool a n m j pushed before at is more =
    let longer : raw_sets pool a m ≡ raw_sets pool a n ++ raw_set pool j ∷ [] = ap (raw_sets pool a) more ∙ map-range_with_len_more (raw_set pool) a n j at in
    pushed ∙ ap (λ l. l ++ x ∷ []) before ∙ append_assoc old (map kept_as (raw_sets pool a n)) (x ∷ []) ∙ ap (λ l. old ++ l) (ap (λ y. map kept_as (raw_sets pool a n) ++ y ∷ []) is ∙ sym (map-append kept_as (raw_sets pool a n) (raw_set pool j ∷ [])) ∙ ap (map kept_as) (sym longer))
