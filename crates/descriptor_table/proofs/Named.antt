-- Names whose held sets are put to another use, one after another, unless one of them doesn't fit its set, or its handle has no held
-- set, or is there twice: for `SlotList::use_each`. Then names of sets that a call has taken: for `settle_each`.
use Rattle.descriptor_table.proofs.Common.{common_steps, ◌≡◌, ◌≢◌, ℕ, ◌+◌, ◌<◌, ◌≤◌, ◌&&◌, true, false, Bool, List, length, map, get_or, set, inl, inr, refl, rules, sym, ap, ◌∙◌, arith, get_or_default, cases_eq, AllFit, AreHeldOnce, is_held, Slot, slot_at, Becomes, HasTaken, TurnEach, may_join, place_at, used_for}
use Rattle.descriptor_table.proofs.Common.{SetHandle, Ghosts, Held, None, Option, Use}
use Rattle.descriptor_table.proofs.Chains.{and_true}
use Rattle.descriptor_table.proofs.Holding.{IsHeld, TurnedFirst, apart_once, first_all, first_more, held_is, named_or}
use Rattle.descriptor_table.proofs.Names.{handle_read, handles_long, place_read}

module _ {N T : Type 0} (n : Ghosts N T) (each : (names : List N) → n.handles_of names ≡ map n.handle_of names) where
  -- whether a name fits, and its handle has a held set that may join the list of the layout
  abbrev pub may_use : ℕ → Option ℕ → List (Slot T) → N → Bool
  may_use number layout slots x = (n.fit x (slot_at slots (n.handle_of x).place).set && is_held number slots (n.handle_of x)) && may_join layout (slot_at slots (n.handle_of x).place)

  -- the first k names had such sets, no two at one place, and these are in the other use
  pub record UsedNames (number : ℕ) (layout : Option ℕ) (u : Use) (names : List N) (k : ℕ) (old now : List (Slot T)) : Type 0 where
    pub held : (i : ℕ) (d : SetHandle) → i < k → is_held number old (get_or (n.handles_of names) i d) ≡ true
    pub fit : (i : ℕ) (d : N) → i < k → n.fit (get_or names i d) (slot_at old (n.handle_of (get_or names i d)).place).set ≡ true
    pub may : (i : ℕ) → i < k → may_join layout (slot_at old (place_at (n.handles_of names) i)) ≡ true
    pub apart : (i j : ℕ) → i < j → j < k → place_at (n.handles_of names) i ≢ place_at (n.handles_of names) j
    pub first : TurnedFirst (n.handles_of names) (Becomes (used_for u)) k old now

  module _ (number : ℕ) (layout : Option ℕ) (u : Use) (names : List N) (k : ℕ) (old now : List (Slot T)) (used : UsedNames number layout u names k old now) where
    module _ (x : N) (lt : k < length names) (is : x ≡ get_or names k x) where
      at : place_at (n.handles_of names) k ≡ (n.handle_of x).place
      at = place_read n each names k x (n.handle_of x) lt is refl

      module _ (off : u ≢ Held) (may : may_use number layout now x ≡ true) where
        held : IsHeld number now (n.handle_of x)
        held = held_is number now (n.handle_of x) (and_true _ _ (and_true _ _ may).0).1

        -- its place is none of those before, as its set is held, so its slot is as it was
        pub other_place : (i : ℕ) → i < k → place_at (n.handles_of names) i ≢ (n.handle_of x).place
        other_place i less e = off (sym (ap (λ (s : Slot T). s.used) (used.first.named i less)) ∙ ap (λ p. (slot_at now p).used) e ∙ held.used)

        before : may_use number layout old x ≡ true
        before = grind (arith, common_steps, used.first.rest (n.handle_of x).place other_place, may)

        pub was_held : IsHeld number old (n.handle_of x)
        was_held = held_is number old (n.handle_of x) (and_true _ _ (and_true _ _ before).0).1

        -- one set more is in the other use
        pub used_more : (new : List (Slot T)) → new ≡ set now (n.handle_of x).place (used_for u (slot_at now (n.handle_of x).place)) → UsedNames number layout u names (k + 1) old new
        used_more new made =
            let both = and_true _ _ before in
            let here : (n.fit x (slot_at old (n.handle_of x).place).set ≡ true) × (is_held number old (n.handle_of x) ≡ true) = and_true _ _ both.0 in
            let may : may_join layout (slot_at old (n.handle_of x).place) ≡ true = both.1 in
            record {
              held = λ i d less. grind (arith, cases_eq i k, handle_read n each names k x (n.handle_of x) lt is refl d, here, used.held i d);
              fit = λ i d less. grind (arith, cases_eq i k, is, get_or_default names k x d lt, here, used.fit i d);
              may = λ i less. grind (arith, cases_eq i k, at, may, used.may i);
              apart = λ i j less within. search (rules, at, other_place, cases_eq);
              first = first_more (n.handles_of names) _ k (n.handle_of x).place (used_for u (slot_at now (n.handle_of x).place)) old now new used.first other_place at held.within made (λ o x is. is) refl;
            }

      -- a name that can't be used now couldn't before, or is in the list twice
      pub used_no : may_use number layout now x ≡ false → layout ≡ None → AreHeldOnce number old (n.handles_of names) × AllFit n.handle_of n.fit old names → ⊥
      used_no not none once =
          let long = handles_long n each names in
          elim (named_or k (place_at (n.handles_of names)) (n.handle_of x).place) [
            | inl found ↦ apart_once number old (n.handles_of names) once.0 found.0 k found.1 (omega arith) (found.2 ∙ sym at)
            | inr other ↦ grind (arith, common_steps, handle_read n each names k x (n.handle_of x) lt is refl (n.handle_of x), once.0.held k (n.handle_of x), once.1 k x lt, used.first.rest (n.handle_of x).place other)
          ]

    -- at the end all are
    pub used_all : length names ≤ k → AreHeldOnce number old (n.handles_of names) × AllFit n.handle_of n.fit old names
    used_all end =
        let z : SetHandle = record { manager = 0; place = 0; generation = 0 } in
        let long = handles_long n each names in (
          record {
            held = λ i d lt. used.held i d (omega arith);
            once = λ i j d less lt same. used.apart i j less (omega arith) (ap (λ (h : SetHandle). h.place) (get_or_default (n.handles_of names) i z d (omega arith) ∙ same ∙ get_or_default (n.handles_of names) j d z lt));
          },
          λ i d lt. used.fit i d (omega arith),
        )

  -- names of sets that a call has taken: the slots of the first k turned
  module _ (names : List N) (becomes : List (Slot T) → Slot T → Slot T → Type 0) (k : ℕ) (old now : List (Slot T)) (first : TurnedFirst (n.handles_of names) becomes k old now) where
    module _ (x : N) (h : SetHandle) (lt : k < length names) (is : x ≡ get_or names k x) (hs : h ≡ n.handle_of x) (apart : (i j : ℕ) → i < j → j < length (n.handles_of names) → place_at (n.handles_of names) i ≢ place_at (n.handles_of names) j) where
      here : place_at (n.handles_of names) k ≡ h.place
      here = place_read n each names k x h lt is hs

      others : (i : ℕ) → i < k → place_at (n.handles_of names) i ≢ h.place
      others i less e = (let long = handles_long n each names in apart i k less (omega arith) (e ∙ sym here))

      -- the call has the next one still
      pub next_taken : ((i : ℕ) → i < length (n.handles_of names) → HasTaken (place_at (n.handles_of names) i) old) → HasTaken h.place now
      next_taken taken = grind (arith, common_steps, here, handles_long n each names, taken k, first.rest h.place others)

      pub next_turned : (s : Slot T) (new : List (Slot T)) → h.place < length now → new ≡ set now h.place s → ((o t : Slot T) → becomes now o t → becomes new o t) → becomes new (slot_at now h.place) s → TurnedFirst (n.handles_of names) becomes (k + 1) old new
      next_turned s new within = first_more (n.handles_of names) becomes k h.place s old now new first others here within

    pub each_turned : length names ≤ k → k ≤ length names → TurnEach (n.handles_of names) becomes old now
    each_turned end le = (let long = handles_long n each names in first_all (n.handles_of names) becomes k old now (omega arith) first)
