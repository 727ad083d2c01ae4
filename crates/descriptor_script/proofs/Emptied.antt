-- Sets that are taken out of their slots, one by one: for `Session::free` and `mark_each`, and the iterator `Taking`, by which they go
-- to the allocator. `n` and `m` are tickets, `ns` lists of them, `xs` sets; `f` is what a set adds to a `tally`: 1, or how often it is some item.
use Rattle.std.proofs.lemmas.Grind.{common_steps}
use Rattle.std.proofs.Common.{◌≡◌, ◌≢◌, ℕ, zero, suc, ◌+◌, ◌<◌, List, [], ◌∷◌, length, map, get_or, set, Option, None, Some, refl, sym, ap, ◌∙◌, arith}
use Rattle.std.proofs.lemmas.Bool.{cases_eq, eqb-false, ne_eqb, false≢true}
use Rattle.std.proofs.lemmas.List.{get_or-set_other, get_or_default}
use Rattle.std.proofs.lemmas.List.Elements.{All-from_get_or, All-get_or}
use Rattle.std.proofs.lemmas.Map.Keys.{IsDistinct-from_apart, apart_from_distinct}
use Rattle.std.specs.Prelude.{nat_eq}
use Rattle.std.proofs.lemmas.Option.{same_Some, none-some}
use Rattle.std.specs.Iterator.{HoldsAlong, Yields}
use Rattle.std.specs.Option.{IsSome, is_some}
use Rattle.gpu_descriptor_types.proofs.Counting.{count_by-append}
use Rattle.gpu_descriptor.specs.Model.Agreement.{AreOutstanding, Item, State, count_of, item_eq}
use Rattle.gpu_descriptor.specs.Model.Promises.{AreOutBesides}
use Rattle.gpu_descriptor.specs.Caller.Sets.{item_of, items_of}
use Rattle.gpu_descriptor.specs.declared.set.DescriptorSet.{DescriptorSet}
use Rattle.descriptor_script.specs.Sessions.Session.{AreAllHeld}
use Rattle.std.specs.Slice.Iter.{iter_rest}
use Rattle.descriptor_script.specs.Inner.Taking.{TakesNext}
use Rattle.descriptor_script.specs.Sessions.Tickets.{AreHeldOnce, emptied, held_sets, set_at}
use Rattle.descriptor_script.specs.declared.taking.Taking.{Taking}

module _ {X : Type 0} where
  -- the sum of f over the list
  abbrev pub tally : (X → ℕ) → List X → ℕ
  tally f [] = 0
  tally f (x ∷ xs) = f x + tally f xs

  pub tally-length : (xs : List X) → tally (λ _. 1) xs ≡ length xs
  tally-length [] = refl
  tally-length (x ∷ xs) = let h = tally-length xs in omega arith

  pub none_at : (slots : List (Option X)) (n : ℕ) → get_or (set slots n None) n None ≡ None
  none_at [] n = refl
  none_at (o ∷ slots) zero = refl
  none_at (o ∷ slots) (suc n) = none_at slots n

  pub some_at : (o : Option X) → IsSome o → (x : X) × (o ≡ Some x)
  some_at x0 x1 = grind (arith, common_steps, false≢true)

  -- a set lies within the slots
  pub some_within : (slots : List (Option X)) (n : ℕ) → IsSome (get_or slots n None) → n < length slots
  some_within [] n bad = absurd (false≢true bad)
  some_within (o ∷ slots) zero h = omega arith
  some_within (o ∷ slots) (suc n) h = let below = some_within slots n h in omega arith

  -- a set that is taken is held no longer
  pub held_less : (f : X → ℕ) (slots : List (Option X)) (n : ℕ) (x : X) → get_or slots n None ≡ Some x → f x + tally f (held_sets (set slots n None)) ≡ tally f (held_sets slots)
  held_less f [] n x at = absurd (none-some x at)
  held_less f (None ∷ slots) zero x at = absurd (none-some x at)
  held_less f (Some y ∷ slots) zero x at = ap (λ z. f z + tally f (held_sets slots)) (sym (same_Some y x at))
  held_less f (None ∷ slots) (suc n) x at = held_less f slots n x at
  held_less f (Some y ∷ slots) (suc n) x at = let h = held_less f slots n x at in omega arith

  -- one set fewer is held then
  pub held_one_less : (slots : List (Option X)) (n : ℕ) → IsSome (get_or slots n None) → length (held_sets (set slots n None)) + 1 ≡ length (held_sets slots)
  held_one_less slots n h =
      let x = some_at (get_or slots n None) h in
      let less = held_less (λ _. 1) slots n x.0 x.1 in
      let before = tally-length (held_sets slots) in
      let after = tally-length (held_sets (set slots n None)) in
      omega arith

  -- what is held when another is taken was held before
  still : (slots : List (Option X)) (n m : ℕ) (x : X) → get_or (set slots n None) m None ≡ Some x → get_or slots m None ≡ Some x
  still slots n m x h = grind (arith, common_steps, cases_eq, get_or-set_other, none-some, none_at)

  -- so it is for the set of each ticket of a list
  still_each : (slots : List (Option X)) (n : ℕ) (xs : List X) (ns : List ℕ) → map Some xs ≡ map (set_at (set slots n None)) ns → map Some xs ≡ map (set_at slots) ns
  still_each slots n [] [] h = refl
  still_each slots n [] (m ∷ ns) h = absurd (cc)
  still_each slots n (x ∷ xs) [] h = absurd (cc)
  still_each slots n (x ∷ xs) (m ∷ ns) h =
      let here : Some x ≡ get_or (set slots n None) m None = cc in
      let rest : map Some xs ≡ map (set_at (set slots n None)) ns = cc in
      let a : Some x ≡ get_or slots m None = sym (still slots n m x (sym here)) in
      let b = still_each slots n xs ns rest in
      cc

  -- the tickets of a list by their places: each has a set, and no two are the same
  pub held_by_places : (slots : List (Option X)) (tickets : List ℕ) → ((i : ℕ) → i < length tickets → IsSome (set_at slots (get_or tickets i 0))) → ((i j : ℕ) → i < j → j < length tickets → get_or tickets i 0 ≢ get_or tickets j 0) → AreHeldOnce slots tickets
  held_by_places slots tickets held once = record {
    held = All-from_get_or (λ n. IsSome (set_at slots n)) tickets 0 held;
    once = IsDistinct-from_apart nat_eq tickets (λ i j d below lt. ne_eqb (get_or tickets i d) (get_or tickets j d) (λ same. once i j below lt (get_or_default tickets i 0 d (omega arith) ∙ same ∙ get_or_default tickets j d 0 lt)));
  }

  -- and from that: the ticket at each place of the list has a set, and those at two places are not the same
  pub held_at : (slots : List (Option X)) (tickets : List ℕ) → AreHeldOnce slots tickets → (i : ℕ) → i < length tickets → IsSome (set_at slots (get_or tickets i 0))
  held_at slots tickets h i lt = All-get_or (λ n. IsSome (set_at slots n)) tickets i 0 lt h.held

  pub apart_at : (slots : List (Option X)) (tickets : List ℕ) → AreHeldOnce slots tickets → (i j : ℕ) → i < j → j < length tickets → get_or tickets i 0 ≢ get_or tickets j 0
  apart_at slots tickets h i j below lt = eqb-false (get_or tickets i 0) (get_or tickets j 0) (apart_from_distinct nat_eq tickets i j 0 h.once below lt)

  -- the first ticket has a set
  pub first_held : (slots : List (Option X)) (n : ℕ) (ns : List ℕ) → AreHeldOnce slots (n ∷ ns) → IsSome (set_at slots n)
  first_held slots n ns h = held_at slots (n ∷ ns) h 0 (omega arith)

  -- when the first ticket's set is taken, the others are still held once
  pub rest_once : (slots : List (Option X)) (n : ℕ) (ns : List ℕ) → AreHeldOnce slots (n ∷ ns) → AreHeldOnce (set slots n None) ns
  rest_once slots n ns h = held_by_places (set slots n None) ns
      (λ i lt.
      let e = get_or-set_other slots n (get_or ns i 0) None None (λ same. apart_at slots (n ∷ ns) h 0 (suc i) (omega arith) (omega arith) (sym same)) in
      ap (λ o. is_some o) e ∙ held_at slots (n ∷ ns) h (suc i) (omega arith))
      (λ i j below lt. apart_at slots (n ∷ ns) h (suc i) (suc j) (omega arith) (omega arith))

  -- the other tickets have the sets that they had
  same_elsewhere : (slots : List (Option X)) (n : ℕ) (ns : List ℕ) → ((i : ℕ) → i < length ns → get_or ns i 0 ≢ n) → map (set_at (set slots n None)) ns ≡ map (set_at slots) ns
  same_elsewhere slots n [] apart = refl
  same_elsewhere slots n (m ∷ ms) apart =
      let here = get_or-set_other slots n m None None (apart 0 (omega arith)) in
      let rest = same_elsewhere slots n ms (λ i lt. apart (suc i) (omega arith)) in
      λ i. here i ∷ rest i

  -- the sets of a list of tickets and what is held without them make up what is held
  listed_from : (f : X → ℕ) (slots : List (Option X)) (tickets : List ℕ) (xs : List X) → AreHeldOnce slots tickets → map Some xs ≡ map (set_at slots) tickets → tally f xs + tally f (held_sets (emptied slots tickets)) ≡ tally f (held_sets slots)
  listed_from f slots [] [] h each = omega arith
  listed_from f slots [] (x ∷ xs) h each = absurd (cc)
  listed_from f slots (n ∷ ns) [] h each = absurd (cc)
  listed_from f slots (n ∷ ns) (x ∷ xs) h each =
      let here : Some x ≡ get_or slots n None = cc in
      let others : map Some xs ≡ map (set_at slots) ns = cc in
      let same = same_elsewhere slots n ns (λ i lt same. apart_at slots (n ∷ ns) h 0 (suc i) (omega arith) (omega arith) (sym same)) in
      let rest = listed_from f (set slots n None) ns xs (rest_once slots n ns h) (others ∙ sym same) in
      let less = held_less f slots n x (sym here) in
      omega arith

module _ {S : Type 0} where
  -- what was taken and what is held make up what was held
  pub taken_from : (f : DescriptorSet S → ℕ) (xs : List (DescriptorSet S)) (s t : Taking S) → Yields TakesNext s xs t → tally f xs + tally f (held_sets t.slots.sets.items) ≡ tally f (held_sets s.slots.sets.items)
  taken_from f [] s t y = let same = ap (λ (u : Taking S). tally f (held_sets u.slots.sets.items)) y in omega arith
  taken_from f (x ∷ xs) s t y = grind (arith, common_steps, held_less, taken_from f xs y.0 t y.2)

  pub fewer_held : (xs : List (DescriptorSet S)) (s t : Taking S) → Yields TakesNext s xs t → length (held_sets t.slots.sets.items) + length xs ≡ length (held_sets s.slots.sets.items)
  fewer_held xs s t y =
      let all = taken_from (λ _. 1) xs s t y in
      let a = tally-length xs in
      let b = tally-length (held_sets t.slots.sets.items) in
      let c = tally-length (held_sets s.slots.sets.items) in
      omega arith

  -- the set of each ticket came
  pub each_taken : (xs : List (DescriptorSet S)) (s t : Taking S) → Yields TakesNext s xs t → iter_rest t.tickets ≡ [] → map Some xs ≡ map (set_at s.slots.sets.items) (iter_rest s.tickets)
  each_taken [] s t y none = sym (ap (map (set_at s.slots.sets.items)) (ap (λ (u : Taking S). iter_rest u.tickets) y ∙ none))
  each_taken (x ∷ xs) s t y none = grind (arith, common_steps, still_each, each_taken xs y.0 t y.2 none)

  -- the slots of the tickets are empty
  pub all_emptied : (xs : List (DescriptorSet S)) (s t : Taking S) → Yields TakesNext s xs t → iter_rest t.tickets ≡ [] → t.slots.sets.items ≡ emptied s.slots.sets.items (iter_rest s.tickets)
  all_emptied [] s t y none = ap (λ (u : Taking S). u.slots.sets.items) (sym y) ∙ sym (ap (emptied s.slots.sets.items) (ap (λ (u : Taking S). iter_rest u.tickets) y ∙ none))
  all_emptied (x ∷ xs) s t y none = grind (arith, common_steps, all_emptied xs y.0 t y.2 none)

  -- how often an item is among sets, as a tally
  tally-items : (name : S → ℕ) (i : Item) (xs : List (DescriptorSet S)) → tally (λ x. count_of i (item_of name x ∷ [])) xs ≡ count_of i (items_of name xs)
  tally-items name i [] = refl
  tally-items name i (x ∷ xs) = ap (λ n. count_of i (item_of name x ∷ []) + n) (tally-items name i xs) ∙ sym (count_by-append (λ j. item_eq j i) (item_of name x ∷ []) (items_of name xs))

  -- what was taken and what is held are, item by item, what was held
  counted : (name : S → ℕ) (i : Item) (xs : List (DescriptorSet S)) (s t : Taking S) → Yields TakesNext s xs t → count_of i (items_of name xs) + count_of i (items_of name (held_sets t.slots.sets.items)) ≡ count_of i (items_of name (held_sets s.slots.sets.items))
  counted name i xs s t y =
      let all = taken_from (λ x. count_of i (item_of name x ∷ [])) xs s t y in
      let a = tally-items name i xs in
      let b = tally-items name i (held_sets t.slots.sets.items) in
      let c = tally-items name i (held_sets s.slots.sets.items) in
      omega arith

  -- what comes is outstanding
  pub all_out : (name : S → ℕ) (s : Taking S) (state : State) → AreAllHeld name s.slots.sets.items state → HoldsAlong TakesNext s (λ xs. AreOutstanding (items_of name xs) state)
  all_out name s state held xs t y i =
      let all = counted name i xs s t y in
      let h = held i in
      omega arith

  -- the sets of a list of tickets are outstanding
  pub listed_out : (name : S → ℕ) (slots : List (Option (DescriptorSet S))) (tickets : List ℕ) (xs : List (DescriptorSet S)) (state : State) → AreHeldOnce slots tickets → map Some xs ≡ map (set_at slots) tickets → AreAllHeld name slots state → AreOutstanding (items_of name xs) state
  listed_out name slots tickets xs state once each held i =
      let all = listed_from (λ x. count_of i (item_of name x ∷ [])) slots tickets xs once each in
      let a = tally-items name i xs in
      let b = tally-items name i (held_sets slots) in
      let h = held i in
      omega arith

  -- what went back is held no longer
  pub all_held_less : (name : S → ℕ) (xs : List (DescriptorSet S)) (s t : Taking S) (old new : State) → AreAllHeld name s.slots.sets.items old → Yields TakesNext s xs t → AreOutBesides (items_of name xs) new old → AreAllHeld name t.slots.sets.items new
  all_held_less name xs s t old new held y less i =
      let back = less i in
      let all = counted name i xs s t y in
      let h = held i in
      omega arith

  pub held_as : (name : S → ℕ) (a b : List (Option (DescriptorSet S))) (state : State) → a ≡ b → AreAllHeld name b state → AreAllHeld name a state
  held_as name a b state same held i = held i ∙ sym (ap (λ l. count_of i (items_of name (held_sets l))) same)
