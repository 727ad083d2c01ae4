-- What a list of entries says of slots and of their nexts, when an entry changes: for the methods of `SlotList`.
use Rattle.descriptor_table.proofs.Common.{◌≡◌, ℕ, ◌<◌, List, length, get_or, set, map, sym, ap, subst, ◌∙◌, arith, map-set_same, get_or-map, length-map, map-set, Slot, no_slot, slot_at, slot_of}
use Rattle.descriptor_table.specs.declared.slot_list.Entry.{Entry}

-- in the place of two things the same two
pub in_place : {X Y : Type 0} (P : X → Y → Type 0) (x x' : X) (y y' : Y) → x' ≡ x → y' ≡ y → P x y → P x' y'
in_place P x x' y y' one two p = subst (λ x. P x y') (sym one) (subst (P x) (sym two) p)

module _ {T : Type 0} (entries : List (Entry T)) (p : ℕ) (e : Entry T) (within : p < length (map slot_of entries)) (is : e ≡ get_or entries p e) where
  pub slot_is : slot_of e ≡ slot_at (map slot_of entries) p
  slot_is = ap slot_of is ∙ sym (get_or-map slot_of entries p e no_slot (omega (arith, within, length-map entries slot_of)))

  pub written : (y : Entry T) (becomes : Slot T → Slot T) → slot_of y ≡ becomes (slot_of e) → map slot_of (set entries p y) ≡ set (map slot_of entries) p (becomes (slot_at (map slot_of entries) p))
  written y becomes same = map-set slot_of entries p y ∙ ap (set (map slot_of entries) p) (same ∙ ap becomes slot_is)

  pub next_set : (y : Entry T) (x : ℕ) → y.next ≡ x → map (λ (e : Entry T). e.next) (set entries p y) ≡ set (map (λ (e : Entry T). e.next) entries) p x
  next_set y x same = map-set (λ (e : Entry T). e.next) entries p y ∙ ap (set (map (λ (e : Entry T). e.next) entries) p) same

  pub next_stays : (y : Entry T) → y.next ≡ e.next → map (λ (e : Entry T). e.next) (set entries p y) ≡ map (λ (e : Entry T). e.next) entries
  next_stays y same = map-set_same (λ (e : Entry T). e.next) entries p y e (same ∙ ap (λ (e : Entry T). e.next) is)

  pub slot_stays : (y : Entry T) → slot_of y ≡ slot_of e → map slot_of (set entries p y) ≡ map slot_of entries
  slot_stays y same = map-set_same slot_of entries p y e (same ∙ ap slot_of is)
