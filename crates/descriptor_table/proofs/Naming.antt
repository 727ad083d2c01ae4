-- What handles name once slots changed: for `LayoutRegistry`, and for the calls of a set manager by which sets are freed, wait or go.
-- A handle is the *last* of its slot if no later one was given for the place; `shown` is what that one names.
use Rattle.descriptor_table.proofs.Common.{common_steps, arith, ◌≡◌, ◌≢◌, ℕ, ◌<◌, ◌==◌, ◌&&◌, nat_le, nat_lt, Bool, false, List, length, slice_index_or, if◌then◌else◌, Option, None, ap, ◌∙◌, eqb-true, and_left, and_right, rules, get_or_default, AreHeldOnce, LoseNames, is_last, sets_of, is_live, slot_at}
use Rattle.descriptor_table.proofs.Common.{place_at, SetHandle, Slot}
use Rattle.descriptor_table.proofs.Chains.{and_true}
use Rattle.descriptor_table.proofs.Holding.{handle_is, held_is, named_or}

if_out : {T : Type 0} (a b : Bool) (x : Option T) → (a && b) ≡ false → (if a && b then x else None) ≡ None
if_out a b x e = ap (λ c. if c then x else None) e

module _ {T : Type 0} where
  -- what the last handle of a slot names, in this frame if one is open
  abbrev pub shown : ℕ → Bool → Slot T → Option T
  shown frame opened s = if is_live frame opened s.used then s.set else None

  -- the last handle of a slot is the same, and names what it named
  pub record ShowsSame (frame : ℕ) (opened : Bool) (o n : Slot T) : Type 0 where
    pub generation : n.generation ≡ o.generation
    pub set : shown frame opened n ≡ shown frame opened o

  -- if each slot shows what it showed, all handles name what they named
  pub names_kept : (number frame : ℕ) (opened : Bool) (old new : List (Slot T)) → ((p : ℕ) → ShowsSame frame opened (slot_at old p) (slot_at new p)) → sets_of number frame opened new ≡ sets_of number frame opened old
  names_kept number frame opened old new same i = record {
    set = λ h. (let same : (sets_of number frame opened new).set h ≡ (sets_of number frame opened old).set h = grind (arith, common_steps, (same h.place).generation, (same h.place).set) in same i);
    given = λ h. ap (λ g. (h.manager == number) && (nat_lt 0 h.generation && nat_le h.generation g)) (same h.place).generation i;
  }

  -- sets that were held have no handle any more
  module _ (number frame : ℕ) (opened : Bool) (handles : List SetHandle) (old new : List (Slot T))
      (once : AreHeldOnce number old handles)
      (quiet : (i : ℕ) → i < length handles → is_live frame opened (slot_at new (place_at handles i)).used ≡ false)
      (generation :
      (i : ℕ) → i < length handles
      → (slot_at new (place_at handles i)).generation ≡ (slot_at old (place_at handles i)).generation)
      (rest : (p : ℕ) → ((i : ℕ) → i < length handles → place_at handles i ≢ p) → slot_at new p ≡ slot_at old p) where
    removed : (p : ℕ) → (slot_at new p).generation ≡ (slot_at old p).generation
    removed p = search (rules, named_or)

    -- a handle that isn't in the list is not the last one of a place of the list, since that of the list is
    not_last : (other : SetHandle) → ((i : ℕ) (e : SetHandle) → i < length handles → slice_index_or handles i e ≢ other) → (i : ℕ) → i < length handles → place_at handles i ≡ other.place → (b : Bool) → is_last number old other ≡ b → b ≡ false
    not_last other apart i lt e x5 l = search (rules, and_true, eqb-true, handle_is, held_is)

    -- the handles name nothing, and each other one what it named
    pub names_lost : LoseNames handles (sets_of number frame opened old) (sets_of number frame opened new)
    names_lost = record {
      gone = λ i d lt. (let h = slice_index_or handles i d in if_out (is_last number new h) (is_live frame opened (slot_at new h.place).used) (slot_at new h.place).set (and_right (is_last number new h) _ (ap (λ (h : SetHandle). is_live frame opened (slot_at new h.place).used) (get_or_default handles i d (record { manager = 0; place = 0; generation = 0 }) lt) ∙ quiet i lt)));
      others = λ other apart. search (rules, removed, if_out, and_left, named_or, not_last);
      given = λ h. ap (λ g. (h.manager == number) && (nat_lt 0 h.generation && nat_le h.generation g)) (removed h.place);
    }
