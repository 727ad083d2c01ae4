-- Sets that go back: those that are freed are kept, or leave their slots; then kept sets that all go, for `Store::cleanup`,
-- `set_max_kept` and `free_all`; then all sets that leave, for `Store::free_all` and `SetManager::shutdown`.
use Rattle.descriptor_manager.proofs.Common.{common_steps, ◌≡◌, ℕ, ◌+◌, ◌≤◌, ◌&&◌, ◌||◌, nat_lt, ne_eqb, Bool, true, false, List, is_some, ap, arith, rules, refl, ◌∙◌, ◌⊎◌, None, Option, filter_map, Slot, count, goes, is_in, is_kept_of, slot_at, waits, IsBack, Becomes}
use Rattle.descriptor_manager.proofs.Common.{MayBecome, Turns, is_kept, used_for, vacated, aged, holds, Kept, Going, Use, lists_apart, group_out, kept_full, count_same, going_out, count_none, AreCleaned, ◌<◌, get_or, length, AreHeldOnce, TurnEach, place_at, SetHandle, held_is, suc, [], ◌∷◌}
use Rattle.descriptor_manager.proofs.Common.{and-false, cons_option, none_count, is_placed}
use Rattle.descriptor_manager.proofs.Arriving.{ArePlaced, follows_vacated, none_goes, Arrives, same_arrives}

module _ {T : Type 0} where
  -- as many are kept when sets that go are returned
  pub given_kept : (mid new : List (Slot T)) → Turns goes (Becomes vacated) mid new → (k : ℕ) → 2 ≤ k → count (is_in k) new ≡ count (is_in k) mid
  given_kept mid new gives k two = search (rules, count_same, lists_apart, ne_eqb)

  -- a kept set doesn't go
  pub kept_stays : (s : Slot T) → goes (used_for Kept s) ≡ false
  kept_stays s = ap (λ b. b && (nat_lt s.generation 4294967295 && is_some s.set)) (ne_eqb 1 (s.layout + 2) (λ e. omega arith))

  -- sets settled, and those that went were returned
  pub came_back :
      (test : Slot T → Bool) (removed : ℕ → Bool) (max : ℕ) (old mid new : List (Slot T)) → ((s : Slot T) → test s ≡ true → is_some s.set ≡ true) → ((p : ℕ) → goes (slot_at old p) ≡ false) → Turns test (IsBack (used_for Going) removed max) old mid → Turns goes (Becomes vacated) mid new → Turns test (IsBack vacated removed max) old new
  came_back test removed max old mid new full none settles gives = search (rules, given_kept, kept_stays)

  -- kept sets that went were returned
  pub left : (old mid new : List (Slot T)) → ((p : ℕ) → goes (slot_at old p) ≡ false) → Turns is_kept (MayBecome (used_for Going)) old mid → Turns goes (Becomes vacated) mid new → Turns is_kept (MayBecome vacated) old new
  left old mid new none trims gives = search (rules, kept_full)

module _ {T : Type 0} where
  -- no set of a layout is kept once its kept ones left their slots
  pub kept_out : (layout : ℕ) (old new : List (Slot T)) → Turns (is_kept_of layout) (Becomes vacated) old new → (p : ℕ) → is_kept_of layout (slot_at new p) ≡ false
  kept_out layout old new turns p = search (rules, group_out)

  -- all kept sets go, if none is kept later
  all_trimmed : (a b : List (Slot T)) → Turns is_kept (MayBecome (used_for Going)) a b → ((layout : ℕ) → count (is_in (layout + 2)) b ≤ 0) → Turns is_kept (Becomes (used_for Going)) a b
  all_trimmed a b trims few = record {
    long = trims.long;
    rest = trims.rest;
    here = λ p kept. grind (arith, common_steps, trims.here p kept, count_none (is_in ((slot_at a p).layout + 2)) b, few (slot_at a p).layout);
  }

  -- sets that went were returned
  returned : (test : Slot T → Bool) (a b new : List (Slot T)) → ((s : Slot T) → test s ≡ true → is_some s.set ≡ true) → ((p : ℕ) → goes (slot_at a p) ≡ false) → Turns test (Becomes (used_for Going)) a b → Turns goes (Becomes vacated) b new → Turns test (Becomes vacated) a new
  returned test a b new full none went gives = grind (arith, common_steps)

  -- a cleanup in three steps: no set is kept later, the kept ones go, and those that go were returned
  pub cleaned : (old a b new : List (Slot T)) → ArePlaced old → Turns (λ s. true) (Becomes aged) old a → Turns is_kept (MayBecome (used_for Going)) a b → ((layout : ℕ) → count (is_in (layout + 2)) b ≤ 0) → Turns goes (Becomes vacated) b new → AreCleaned old new
  cleaned old a b new placed aged_all trims few gives = (
      let left = returned is_kept a b new kept_full (λ p. ap goes (aged_all.here p refl) ∙ none_goes old placed p) (all_trimmed a b trims few) gives in
      grind (arith, common_steps))

  -- slots turned that pass one test, and then those that pass another
  turned_both : (t u : Slot T → Bool) (f : Slot T → Slot T) (a b c : List (Slot T)) → ((s : Slot T) → u (f s) ≡ false) → Turns t (Becomes f) a b → Turns u (Becomes f) b c → Turns (λ s. t s || u s) (Becomes f) a c
  turned_both t u f a b c out one two = grind (arith, common_steps)

  -- a placed set waits, is held, or is kept
  placed_is : (s : Slot T) → is_placed s ≡ true → ((waits s || holds s) || is_kept s) ≡ is_some s.set
  placed_is s placed = grind (arith, common_steps)

  -- each set of a store at rest left its slot, once those that wait, the held ones, and the kept ones went and were returned
  pub all_leave : (a b c d new : List (Slot T)) → ArePlaced a → Turns waits (Becomes (used_for Going)) a b → Turns holds (Becomes (used_for Going)) b c → Turns is_kept (MayBecome (used_for Going)) c d → ((layout : ℕ) → count (is_in (layout + 2)) d ≤ 0) → Turns goes (Becomes vacated) d new → Turns (λ s. is_some s.set) (Becomes vacated) a new
  all_leave a b c d new placed wait leave trims few gives = (
      let test : Slot T → Bool = λ s. (waits s || holds s) || is_kept s in
      let went = turned_both (λ s. waits s || holds s) is_kept (used_for Going) a c d (λ s. going_out (s.layout + 2) s (omega arith)) (turned_both waits holds (used_for Going) a b c (λ s. refl) wait leave) (all_trimmed c d trims few) in
      let full : (s : Slot T) → test s ≡ true → is_some s.set ≡ true = λ s yes. grind (arith, common_steps) in
      let left = returned test a d new full (none_goes a placed) went gives in
      record { long = left.long; rest = λ p no. left.rest p (placed_is (slot_at a p) (placed p) ∙ no); here = λ p yes. left.here p (placed_is (slot_at a p) (placed p) ∙ yes) })

-- no slot has a set then, and each has its generation
module _ {T : Type 0} (old new : List (Slot T)) (left : Turns (λ s. is_some s.set) (Becomes vacated) old new) (p : ℕ) where
  stays_or : ((slot_at new p ≡ slot_at old p) × ((slot_at old p).set ≡ None)) ⊎ (slot_at new p ≡ vacated (slot_at old p))
  stays_or = grind (arith, common_steps)

  pub left_none : (slot_at new p).set ≡ None
  left_none = grind (arith, common_steps, stays_or)

  pub left_follows : (comes : ℕ → T → Type 0) → Arrives comes (slot_at old p) (slot_at new p)
  left_follows comes = search (rules, same_arrives, follows_vacated, stays_or)

-- Held sets that are freed by their handles: for `Store::wait_each` and `free_each`.

-- those that went were returned
pub back_each :
    {T : Type 0} (handles : List SetHandle) (number : ℕ) (removed : ℕ → Bool) (max : ℕ) (old mid new : List (Slot T)) → AreHeldOnce number old handles → TurnEach handles (IsBack (used_for Going) removed max) old mid → ArePlaced old → Turns goes (Becomes vacated) mid new → TurnEach handles (IsBack vacated removed max) old new
back_each handles number removed max old mid new once settled placed gives = record {
  long = gives.long ∙ settled.long;
  named = λ i lt. grind (arith, common_steps, settled.named i lt, gives.rest (place_at handles i), gives.here (place_at handles i), given_kept mid new gives ((slot_at old (place_at handles i)).layout + 2), kept_stays (slot_at old (place_at handles i)), full i lt);
  rest = λ p apart. (let same = settled.rest p apart in gives.rest p (ap goes same ∙ none_goes old placed p) ∙ same);
}
  where
    full : (i : ℕ) → i < length handles → is_some (slot_at old (place_at handles i)).set ≡ true
    full i lt = (let z : SetHandle = record { manager = 0; place = 0; generation = 0 } in (held_is number old (get_or handles i z) (once.held i z lt)).full)

-- What is left after a cleanup, and if no slot has a set: for `SetManager::cleanup` and `shutdown`.

module _ {T : Type 0} where
  -- no slot has a set
  pub no_sets : {X : Type 0} (view : Slot T → Option X) (slots : List (Slot T)) → ((p : ℕ) → p < length slots → view (slot_at slots p) ≡ None) → filter_map view slots ≡ []
  no_sets view [] none = refl
  no_sets view (s ∷ slots) none = ap (λ o. cons_option o (filter_map view slots)) (none 0 (omega arith)) ∙ no_sets view slots (λ p within. none (suc p) (omega arith))

  -- with none held, and none that waits, no set is left
  pub cleaned_empty : {X : Type 0} (view : Slot T → Option X) → ((s : Slot T) → s.set ≡ None → view s ≡ None) → (old new : List (Slot T)) → ((p : ℕ) → is_placed (slot_at old p) ≡ true) → AreCleaned old new → count holds old ≡ 0 → count waits old ≡ 0 → length (filter_map view new) ≡ 0
  cleaned_empty view empty old new placed cleaned held waiting = search (rules, count_none, no_sets)

  -- without a set none is held, and none waits
  pub none_used : (test : Use → Bool) (slots : List (Slot T)) → ((p : ℕ) → (slot_at slots p).set ≡ None) → count (λ s. test s.used && is_some s.set) slots ≡ 0
  none_used test slots none = none_count (λ s. test s.used && is_some s.set) slots (λ p. ap (λ x. test (slot_at slots p).used && is_some x) (none p) ∙ and-false (test (slot_at slots p).used))
