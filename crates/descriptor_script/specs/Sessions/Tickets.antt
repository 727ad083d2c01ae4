-- Slots by ticket: the slot of a ticket has its set until that is freed.
use Rattle.std.specs.Prelude.{All, ℕ, nat_eq, List, fold, slice_index_or, slice_set, Option, None, IsSome}
use Rattle.std.specs.List.{IsDistinct, filter_map}

module _ {X : Type 0} where
  -- the set of the ticket
  abbrev pub set_at : List (Option X) → ℕ → Option X
  set_at slots ticket = slice_index_or slots ticket None

  -- the sets that are held, in the order of their tickets
  abbrev pub held_sets : List (Option X) → List X
  held_sets slots = filter_map (λ slot. slot) slots

  -- the slots, once those of these tickets are empty
  abbrev pub emptied : List (Option X) → List ℕ → List (Option X)
  emptied slots tickets = fold (λ slots ticket. slice_set slots ticket None) slots tickets

  -- each ticket has a set, and none is there twice
  pub record AreHeldOnce (slots : List (Option X)) (tickets : List ℕ) : Type 0 where
    pub held : All (λ ticket. IsSome (set_at slots ticket)) tickets
    pub once : IsDistinct nat_eq tickets
