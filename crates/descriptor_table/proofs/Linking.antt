-- Held sets that are put to another use by their names, each linked before that of the name before it: for `SlotList::use_each`.
use Rattle.descriptor_table.proofs.Common.{common_steps, ext_get_or, no_slot, ◌≡◌, ◌≢◌, ℕ, zero, suc, ◌+◌, ◌<◌, ◌≤◌, true, List, [], ◌∷◌, length, get_or, set, map, take, refl, ap, ◌∙◌, arith, rules, cases_eq, get_or-set_other, get_or-set_same, length-set, map-append, times, walk, Becomes, SetHandle, Slot, Use, Held, is_held, place_at, slot_at, used_for}
use Rattle.std.specs.Prelude.{reverse}
use Rattle.std.proofs.Common.{add-one}
use Rattle.std.proofs.Math.Seq.{take-suc}
use Rattle.std.proofs.lemmas.List.{reverse-append, take_all}
use Rattle.descriptor_table.proofs.Counting.{times_here, times_there, walk_other}
use Rattle.descriptor_table.proofs.Holding.{TurnedFirst, held_is, named_or}

-- the places of the first n handles, the last one first
abbrev pub places_back : List SetHandle → ℕ → List ℕ
places_back handles zero = []
places_back handles (suc n) = place_at handles n ∷ places_back handles n

-- a place that is none of those isn't in their list
pub back_other : (handles : List SetHandle) (n p : ℕ) → ((i : ℕ) → i < n → place_at handles i ≢ p) → times p (places_back handles n) ≡ 0
back_other handles zero p other = refl
back_other handles (suc n) p other = search (rules, times_there, back_other handles n p)

back_reverse : (handles : List SetHandle) (n : ℕ) → n ≤ length handles → places_back handles n ≡ reverse (map (λ (h : SetHandle). h.place) (take n handles))
back_reverse handles zero le = refl
back_reverse handles (suc n) le = (
    let lt : n < length handles = omega arith in
    rw (take-suc handles n (record { manager = 0; place = 0; generation = 0 }), map-append, reverse-append) (ap (λ l. place_at handles n ∷ l) (back_reverse handles n (omega arith))))

pub back_all : (handles : List SetHandle) (n : ℕ) → n ≡ length handles → places_back handles n ≡ reverse (map (λ (h : SetHandle). h.place) handles)
back_all handles n all = rw (take_all n handles (omega arith)) at (back_reverse handles n (omega arith))

-- a place of these, of handles with different places, is there once
pub back_once : (handles : List SetHandle) (n i : ℕ) → ((i j : ℕ) → i < j → j < n → place_at handles i ≢ place_at handles j) → i < n → times (place_at handles i) (places_back handles n) ≡ 1
back_once handles zero i apart lt = absurd (omega arith)
back_once handles (suc n) i apart lt = grind (arith, cases_eq i n, times_here, times_there, apart, back_other handles n (place_at handles n), back_once handles n i)

module _ {T : Type 0} where
  -- once held sets that came to another use are held again, the slots are as they were
  pub held_back : (number : ℕ) (handles : List SetHandle) (u : Use) (n : ℕ) (old now back : List (Slot T)) → ((i : ℕ) (d : SetHandle) → i < n → is_held number old (get_or handles i d) ≡ true) → TurnedFirst handles (Becomes (used_for u)) n old now → TurnedFirst handles (Becomes (used_for Held)) n now back → back ≡ old
  held_back number handles u n old now back was first again =
      ext_get_or no_slot back old (again.long ∙ first.long) (λ p lt. grind (arith, common_steps, named_or n (place_at handles) p, again.named, again.rest p, first.named, first.rest p, was, held_is))

  -- the slots of the first n handles are linked, that of the last one first, and then comes `end`. Each slot whose set wasn't held has
  -- the next that it had
  pub record LinkedSome (handles : List SetHandle) (n first end : ℕ) (slots : List (Slot T)) (old now : List ℕ) : Type 0 where
    pub long : length now ≡ length old
    pub places : walk n now first ≡ places_back handles n
    pub none : n ≡ 0 → first ≡ end
    pub ends : 0 < n → get_or now (place_at handles 0) 0 ≡ end
    pub rest : (p : ℕ) → (slot_at slots p).used ≢ Held → get_or now p 0 ≡ get_or old p 0

  -- one slot more is linked
  pub linked_more : (handles : List SetHandle) (n p first end : ℕ) (slots : List (Slot T)) (old now new : List ℕ) → (slot_at slots p).used ≡ Held → ((i : ℕ) → i < n → place_at handles i ≢ p) → place_at handles n ≡ p → p < length slots → length old ≡ length slots → new ≡ set now p first → LinkedSome handles n first end slots old now → LinkedSome handles (n + 1) p end slots old new
  linked_more handles n p first end slots old now new held apart at there long made linked = (
      let within : p < length now = omega (arith, linked.long) in
      let other = back_other handles n p apart in
      record {
        long = grind (arith, length-set);
        places = rw add-one (search (rules, get_or-set_same, walk_other));
        none = λ e. absurd (omega (arith, e));
        ends = λ more. grind (arith, cases_eq n 0, get_or-set_same now p first 0, get_or-set_other now p (place_at handles 0) first 0, apart 0, linked.none, linked.ends);
        rest = λ q ne. search (rules, held, get_or-set_other, linked.rest q);
      })
