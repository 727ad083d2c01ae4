-- Slots that pass a test are changed, one after another, as in the loops of `SetTable`: `settle_due`, `age`, `trim` and others.
-- `old` are the slots before a loop, `now` those before a step of it, `new` those after; `Turning` is the loop's invariant, and `Turns`
-- what it leaves at its end. A set that is freed *settles*: it is kept, or goes. `o` is a slot before that, `n` the same slot after.
use Rattle.descriptor_table.proofs.Common.{common_steps, ◌≡◌, ◌≢◌, ℕ, ◌+◌, ◌<◌, ◌≤◌, ◌⊎◌, ◌&&◌, Bool, true, false, List, length, set, ne_eqb, is_some, ap, arith, nat_le, rules, length-set, set-set, cases_eq, ltb-false, true≢false}
use Rattle.descriptor_table.proofs.Common.{IsNowhere, Slot, count, is_due, is_in, slot_at, waits_for, IsBack, MayBecome, Picks, Stays, Turns, is_kept, next_use, used_for, Becomes, SetTable, Use, Going, Taken}
use Rattle.descriptor_table.proofs.Chains.{and_true, lists_apart, nowhere_out}
use Rattle.descriptor_table.proofs.Counts.{count_same, count_set, same_count}
use Rattle.descriptor_table.proofs.Listed.{bit, other_slots, slot_set, with_use}

module _ {T : Type 0} where
  -- some of the slots that pass the test have turned
  pub record Turning (test : Slot T → Bool) (becomes : List (Slot T) → Slot T → Slot T → Type 0) (old now : List (Slot T)) : Type 0 where
    pub long : length now ≡ length old
    pub each : (p : ℕ) → (slot_at now p ≡ slot_at old p) ⊎ ((test (slot_at old p) ≡ true) × becomes now (slot_at old p) (slot_at now p))

  module _ (test : Slot T → Bool) (becomes : List (Slot T) → Slot T → Slot T → Type 0) where
    -- the slot at a place turned, which passed the test
    pub turn_step :
        (old now new : List (Slot T)) (p : ℕ) (s : Slot T) → Turning test becomes old now → p < length now
        → test (slot_at now p) ≡ true → new ≡ set now p s → ((o n : Slot T) → becomes now o n → becomes new o n)
        → ((o n : Slot T) → becomes now o n → test n ≡ false) → becomes new (slot_at now p) s
        → Turning test becomes old new
    turn_step old now new p s turning within was is grows done turned = search (rules, length-set, other_slots, cases_eq, slot_set, true≢false)

  -- a set of a slot that is in no list settled
  module _ (removed : ℕ → Bool) (max : ℕ) (now mid new : List (Slot T)) (p : ℕ) (within : p < length now) (out : (k : ℕ) → is_in k (slot_at now p) ≡ false) (u : Use) (idle : IsNowhere u) (left : mid ≡ with_use p u now) (is : new ≡ with_use p (next_use removed max mid p) mid) where
    -- only the use of its slot changed
    pub settled_set : new ≡ set now p (used_for (next_use removed max mid p) (slot_at now p))
    settled_set = grind (arith, common_steps, set-set, slot_set)

    -- of sets that settled before it `IsBack` still holds, as no fewer sets of any layout are kept than then
    pub settled_grows : (o n : Slot T) → IsBack (used_for Going) removed max now o n → IsBack (used_for Going) removed max new o n
    settled_grows o n x2 = search (rules, count_set, settled_set)

    -- it is kept if it may be, and else goes
    pub settled_here : IsBack (used_for Going) removed max new (slot_at now p) (used_for (next_use removed max mid p) (slot_at now p))
    settled_here = search (rules, and_true, count_set, ltb-false, nowhere_out, same_count, settled_set, slot_set)

  pub due_full : (frame : ℕ) (s : Slot T) → is_due frame s ≡ true → is_some s.set ≡ true
  due_full frame s e = (and_true (waits_for (λ w. nat_le w frame) s.used) (is_some s.set) e).1

  pub stays_more : (a b c : SetTable T) → Stays a b → Stays b c → Stays a c
  stays_more a b c one two = search rules

  -- a step of a loop whose sets go: a slot that passed the test was picked, and goes
  module _ (test : Slot T → Bool) (now mid new : List (Slot T)) (p : ℕ) (picks : Picks test (used_for Taken) p now mid) (goes : new ≡ with_use p Going mid) (out : (s : Slot T) → test (used_for Going s) ≡ false) where
    pub go_step : (old : List (Slot T)) → Turning test (Becomes (used_for Going)) old now → Turning test (Becomes (used_for Going)) old new
    go_step old turning = search (rules, set-set, slot_set, turn_step)

    pub go_less : count test new + 1 ≡ count test now
    go_less = grind (arith, common_steps, bit, count_set, set-set, slot_set)

  -- a set that goes is in no list of kept sets
  pub going_out : (k : ℕ) (s : Slot T) → 2 ≤ k → is_in k (used_for Going s) ≡ false
  going_out k s two = ap (λ b. b && is_some s.set) (ne_eqb k 1 (λ e. omega arith))

  module _ (k : ℕ) (two : 2 ≤ k) (now new : List (Slot T)) (turns : Turns (is_in k) (MayBecome (used_for Going)) now new) where
    -- after kept sets of one list more may have gone
    pub trim_more : (old : List (Slot T)) → Turning is_kept (Becomes (used_for Going)) old now → Turning is_kept (Becomes (used_for Going)) old new
    trim_more old turning = grind (arith, common_steps, going_out)

    -- the other lists have as many kept sets as before
    pub trim_others : (j : ℕ) → 2 ≤ j → j ≢ k → count (is_in j) new ≡ count (is_in j) now
    trim_others j two' ne = search (rules, count_same, lists_apart)
