-- The users of layouts: a number is free once, so the free ones have room; and users are the sets that there are, when a slot changes.
use Rattle.descriptor_table.proofs.Common.{common_steps, ◌≡◌, ◌≢◌, ℕ, ◌+◌, ◌-◌, ◌<◌, ◌≤◌, Bool, true, false, List, [], ◌∷◌, ◌++◌, is_some, not, refl, ◌∙◌, length, set, ap, arith, eq-eqb, ◌&&◌, ◌==◌, nat_eq, if◌then◌else◌, cases_eq, cases_lt, false≢true}
use Rattle.descriptor_table.proofs.Common.{get_or, get_or_default, get_or-map, map, map-set, length-map, sym, get_or-set_other, get_or-set_same, get_or_past, get_or_append_left, get_or_push, length-set, length_push, AreFree, times, users_at, Relisted, layouts_in, removed_in, AreCounted, Slot, no_slot, count, is_set_of, slot_at, HasLayout}
use Rattle.descriptor_table.proofs.Common.{layouts_of, removed_of, removed_as, slots_of, users_in, SetTable, Chain}
use Rattle.std.proofs.lemmas.Map.Steps.{length-le_from_distinct_below}
use Rattle.std.specs.List.{AllByRecursion, IsDistinct, list_any}
use Rattle.descriptor_table.specs.declared.lists.Lists.{Lists}
use Rattle.descriptor_table.specs.declared.users.LayoutUse.{LayoutUse}
use Rattle.descriptor_table.proofs.Counting.{times_append, times_here, times_there}
use Rattle.descriptor_table.proofs.Entries.{in_place}
use Rattle.descriptor_table.proofs.Counts.{count_less, count_set, none_count, same_count, some_count}
use Rattle.descriptor_table.proofs.Listed.{bit}

-- a number that isn't in a list is none of it
apart : (p : ℕ) (l : List ℕ) → times p l ≡ 0 → AllByRecursion (λ q. (p == q) ≡ false) l
apart p [] none = tt
apart p (q ∷ l) none = grind (arith, common_steps, cases_eq p q, times_here p l, times_there p q l, apart p l)

-- numbers that are there once are distinct
distinct : (l : List ℕ) → ((p : ℕ) → times p l ≤ 1) → IsDistinct nat_eq l
unfolding IsDistinct
distinct [] once = tt
distinct (q ∷ l) once = (apart q l (omega (arith, times_here q l, once q)), distinct l (λ p. grind (arith, common_steps, once p)))

-- one that is found is there
found : (p : ℕ) (l : List ℕ) → list_any (nat_eq p) l ≡ true → times p l ≢ 0
found p [] is none = false≢true is
found p (q ∷ l) is none = grind (arith, common_steps, found p l)

-- while a number has users there is room for one more free number
pub free_room : (free counts : List ℕ) → AreFree free counts → (m : ℕ) → m < length counts → users_at counts m ≢ 0 → length free + 1 ≤ length counts
free_room free counts h m lt some =
    let once = distinct (m ∷ free) (λ p. grind (arith, common_steps, h p, h m, cases_eq p m, times_here m free, times_there p m free)) in
    omega (arith, length-le_from_distinct_below (m ∷ free) (length counts) once (λ q is. grind (arith, common_steps, h q, found q (m ∷ free) is, cases_lt q (length counts), get_or_past)))

-- a number that had users has none any more
pub free_more : (free counts : List ℕ) → AreFree free counts → (n : ℕ) → n < length counts → users_at counts n ≢ 0 → AreFree (free ++ n ∷ []) (set counts n 0)
free_more free counts h n lt was p = grind (arith, common_steps, h p, cases_eq p n, get_or-set_same, get_or-set_other, times_append p free (n ∷ []), times_here, times_there)

-- a number that was free last has a user
module _ (all free counts : List ℕ) (n : ℕ) (is : all ≡ free ++ n ∷ []) (h : AreFree all counts) where
  pub last_free : (n < length counts) × (users_at counts n ≡ 0)
  last_free = grind (arith, common_steps, h n, ap (times n) is, times_append n free (n ∷ []), times_here n free, get_or_past, cases_lt n (length counts))

  pub free_less : AreFree free (set counts n 1)
  free_less p = grind (arith, common_steps, h p, h n, last_free, cases_eq p n, get_or-set_same, get_or-set_other, ap (times p) is, times_append p free (n ∷ []), times_here n free, times_there)

-- the users of one layout changed
module _ (uses : List LayoutUse) (n : ℕ) (e : LayoutUse) (within : n < length (map (λ l. l.count) uses)) (is : e ≡ get_or uses n e) where
  pub count_is : e.count ≡ users_at (map (λ l. l.count) uses) n
  count_is = ap (λ (l : LayoutUse). l.count) is ∙ sym (get_or-map (λ (l : LayoutUse). l.count) uses n e 1 (omega (arith, within, length-map uses (λ (l : LayoutUse). l.count))))

  pub counts_set : (y : LayoutUse) (f : ℕ → ℕ) → y.count ≡ f e.count → map (λ l. l.count) (set uses n y) ≡ set (map (λ l. l.count) uses) n (f (users_at (map (λ l. l.count) uses) n))
  counts_set y f same = map-set (λ (l : LayoutUse). l.count) uses n y ∙ ap (set (map (λ l. l.count) uses) n) (same ∙ ap f count_is)

  -- the same numbers are free if it had some before, and has some
  pub free_stays : (free : List ℕ) (y : LayoutUse) → AreFree free (map (λ l. l.count) uses) → e.count ≢ 0 → y.count ≢ 0 → AreFree free (map (λ l. l.count) (set uses n y))
  free_stays free y h was now p = grind (arith, common_steps, h p, cases_eq p n, get_or-set_same, get_or-set_other, map-set (λ (l : LayoutUse). l.count) uses n y, count_is)

  -- each layout has the id that it had if this one has
  id_stays : (y : LayoutUse) → y.id ≡ e.id → (m : ℕ) → (get_or (set uses n y) m (record { count = 1; id = 0 })).id ≡ (get_or uses m (record { count = 1; id = 0 })).id
  id_stays y same m = grind (arith, common_steps, same, cases_eq m n, get_or-set_same, get_or-set_other, get_or_default uses n e (record { count = 1; id = 0 }), length-map uses (λ (l : LayoutUse). l.count))

  pub ids_stay : (y : LayoutUse) → y.id ≡ e.id → ◌≡◌ {A = ℕ → ℕ} (λ m. (get_or (set uses n y) m (record { count = 1; id = 0 })).id) (λ m. (get_or uses m (record { count = 1; id = 0 })).id)
  ids_stay y same = λ i m. id_stays y same m i

module _ {T : Type 0} (slots slots' : List (Slot T)) (layouts : ℕ) (removed : ℕ → Bool) (users : List ℕ) (h : AreCounted slots layouts removed users) (p : ℕ) (s : Slot T) (within : p < length slots) (is : slots' ≡ set slots p s) where
  -- a slot got a set, or lost it
  pub moved_counted : (layout : ℕ) → (if is_some s.set then s.layout else (slot_at slots p).layout) ≡ layout → layout < layouts → is_some (slot_at slots p).set ≡ not (is_some s.set) → AreCounted slots' layouts removed (set users layout (if is_some s.set then users_at users layout + 1 else users_at users layout - 1))
  moved_counted layout at there was = grind (arith, common_steps, h.each, λ (n : ℕ). count_set (is_set_of n) slots p s within, cases_eq, get_or-set_same, get_or-set_other, length-set, bit, h.long)

-- a slot of a table changed, but not its set
module _ {T : Type 0} (t : SetTable T) (slots : List (Slot T)) (p : ℕ) (s : Slot T) (is : slots ≡ set (slots_of t) p s) (within : p < length (slots_of t)) (same : s.layout ≡ (slot_at (slots_of t) p).layout) (full : is_some s.set ≡ is_some (slot_at (slots_of t) p).set) where
  pub slot_counted : AreCounted slots (layouts_of t) (removed_of t) (users_in t.users)
  slot_counted = record { long = t.counted.long; each = λ n lt. grind (arith, common_steps, t.counted.each n, same_count (is_set_of n) (slots_of t) p s within) }

  -- and a list
  pub list_counted : (k : ℕ) (c : Chain) (new : Lists) → Relisted k c t.lists new → AreCounted slots (layouts_in new) (removed_in new) (users_in t.users)
  list_counted k c new r = in_place (λ layouts removed. AreCounted slots layouts removed (users_in t.users)) _ _ _ _ r.layouts r.removed slot_counted

-- the layout of a set has users
pub set_user : {T : Type 0} (t : SetTable T) (p : ℕ) → is_some (slot_at (slots_of t) p).set ≡ true → (slot_at (slots_of t) p).layout < layouts_of t → users_at (users_in t.users) (slot_at (slots_of t) p).layout ≢ 0
set_user t p full there = let n = (slot_at (slots_of t) p).layout in omega (arith, t.counted.each n there, some_count (is_set_of n) (slots_of t) p refl (ap (λ b. b && (n == n)) full ∙ eq-eqb n n refl))

-- a layout that is there has users, and not so many that a set that comes to a slot is one too many
module _ {T : Type 0} (t : SetTable T) (layout : ℕ) (has : HasLayout layout t) where
  pub users_are : users_at (users_in t.users) layout ≡ count (is_set_of layout) (slots_of t) + 1
  users_are = t.counted.each layout has.within ∙ ap (λ b. count (is_set_of layout) (slots_of t) + (if b then 0 else 1)) has.there

  pub few_users : (p : ℕ) → p < length (slots_of t) → is_some (slot_at (slots_of t) p).set ≡ false → users_at (users_in t.users) layout < 4294967295
  few_users p within none = omega (arith, users_are, t.sound.size, count_less (is_set_of layout) (slots_of t) p within (ap (λ b. b && ((slot_at (slots_of t) p).layout == layout)) none))

-- a number without users has no set, and its layout was removed
pub free_is : {T : Type 0} (t : SetTable T) (layout : ℕ) → layout < length (users_in t.users) → users_at (users_in t.users) layout ≡ 0 → (layout < layouts_of t) × (removed_of t layout ≡ true) × (count (is_set_of layout) (slots_of t) ≡ 0)
free_is t layout within free = grind (arith, common_steps, t.counted.long, t.counted.each layout)

-- a layout was removed, or its number has another one
pub relayout_counted : {T : Type 0} (t : SetTable T) (layout users : ℕ) (removed : Bool) → layout < layouts_of t → users ≡ count (is_set_of layout) (slots_of t) + (if removed then 0 else 1) → AreCounted (slots_of t) (layouts_of t) (removed_as removed layout (removed_of t)) (set (users_in t.users) layout users)
relayout_counted t layout users removed within are = grind (arith, common_steps, t.counted.each, cases_eq, get_or-set_same, get_or-set_other, length-set, t.counted.long)

-- one layout more, of which there is no set
pub added_counted : {T : Type 0} (t : SetTable T) → AreCounted (slots_of t) (layouts_of t + 1) (removed_of t) (users_in t.users ++ 1 ∷ [])
added_counted {T} t = record {
  long = length_push (users_in t.users) 1 ∙ ap (λ n. n + 1) t.counted.long;
  each = λ n lt. (
      let none : n ≡ layouts_of t → count (is_set_of n) (slots_of t) ≡ 0 = λ e. none_count (is_set_of n) (slots_of t) (λ p. grind (arith, common_steps, cases_lt p (length (slots_of t)), t.sound.known p, get_or_past (slots_of t) p no_slot)) in
      grind (arith, common_steps, cases_eq n (layouts_of t), none, t.counted.long, t.counted.each n, get_or_push (users_in t.users) 1 1 n, get_or_append_left (users_in t.users) (1 ∷ []) 1 n, get_or_past t.lists.kept.items n (record { first = 0; count = 0 })));
}
