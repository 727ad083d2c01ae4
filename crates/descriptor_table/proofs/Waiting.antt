-- The queue of the sets that wait, when sets come to it or leave it: for `insert` and those that call it, and for `SetTable::take_first`.
use Rattle.descriptor_table.proofs.Common.{common_steps, ◌≡◌, ◌≢◌, ℕ, suc, ◌+◌, ◌-◌, ◌<◌, ◌≤◌, true, false, List, [], ◌∷◌, ◌++◌, length, get_or, set, refl, sym, ap, subst, ◌∙◌, arith, rules, cases_eq, ◌⊎◌, last_or}
use Rattle.descriptor_table.proofs.Common.{last_up_to, nat_le, Lists, IsNonDecreasingBy, times, IsQueue, Slot, frame_at, frame_of, is_due, None, Option, Some, nexts_in, slot_at, slots_of, waits, waits_for, is_some, length-set, places_in, walk, Queue, Use, SetTable}
use Rattle.std.proofs.lemmas.List.{append-nil, length-append}
use Rattle.descriptor_table.proofs.Counting.{cut_past, passed_cut, passed_same, last_in, last_rest, last_some, past_first, rises_first, rises_last, rises_parts, rises_same, times_append, times_here, times_there, walk_length}
use Rattle.std.specs.List.{filter}
use Rattle.descriptor_table.proofs.Counts.{lists_few}
use Rattle.descriptor_table.proofs.Listed.{first_passes, lists_other, lists_pop, not_listed, other_slots, slot_set, test_within}

module _ {T : Type 0} where
  -- a slot changed that isn't in a list: the frames along the list stay
  other_rises : (slots : List (Slot T)) (p : ℕ) (s : Slot T) (l : List ℕ) → times p l ≡ 0 → IsNonDecreasingBy (frame_at slots) l → IsNonDecreasingBy (frame_at (set slots p s)) l
  other_rises slots p s l none = rises_same (frame_at slots) (frame_at (set slots p s)) l (λ q some. ap (λ (s : Slot T). frame_of s.used) (other_slots slots p s q (λ e. some (ap (λ q. times q l) e ∙ none))))

  -- where a set comes that waits for this frame
  module _ (slots : List (Slot T)) (places : List ℕ) (f : ℕ) (rises : IsNonDecreasingBy (frame_at slots) places) where
    abbrev pub Found : Option ℕ → Type 0
    Found near = (before after : List ℕ) × (places ≡ before ++ after) × (last_or None before ≡ near) × ((p : ℕ) → times p before ≢ 0 → frame_at slots p ≤ f) × ((p : ℕ) → times p after ≢ 0 → f < frame_at slots p)

    -- the place after which it comes, as contracts say it
    abbrev pub Comes : Option ℕ → Type 0
    Comes near = near ≡ last_up_to slots f places

    pub found_comes : (near : Option ℕ) → Found near → Comes near
    found_comes near found = sym found.3 ∙ ap (last_or None) (sym (ap (filter (λ p. nat_le (frame_at slots p) f)) found.2 ∙ passed_cut (frame_at slots) f found.0 found.1 found.4 found.5))

    pub comes_found : (near : Option ℕ) → Comes near → Found near
    comes_found near comes =
        let cut = cut_past (frame_at slots) f places rises in
        (cut.0, cut.1, cut.2, sym (comes ∙ ap (last_or None) (ap (filter (λ p. nat_le (frame_at slots p) f)) cut.2 ∙ passed_cut (frame_at slots) f cut.0 cut.1 cut.3 cut.4)), cut.3, cut.4)

    -- after the last place of a set that waits up to the frame
    pub found_after : (before after : List ℕ) (near : ℕ) → places ≡ before ++ after → last_or None before ≡ Some near → frame_at slots near ≤ f → ((q : ℕ) (rest : List ℕ) → after ≡ q ∷ rest → f < frame_at slots q) → Comes (Some near)
    found_after before after near is last below later =
        let parts = rises_parts (frame_at slots) before after (subst (IsNonDecreasingBy (frame_at slots)) is rises) in
        found_comes (Some near) (before, after, is, last, λ p some. omega (arith, below, rises_last (frame_at slots) None before near p parts.0 last some), past_first (frame_at slots) f after parts.1 later)

    -- the last place is that of such a set
    pub found_last : (near last : ℕ) → length places ≢ 0 → last_or (Some last) places ≡ Some last → near ≡ last → frame_at slots near ≤ f → Comes (Some near)
    found_last near last some ends is below = found_after places [] near (sym (append-nil places)) (last_some places last some ends ∙ ap Some (sym is)) below (λ q rest is. absurd (cc is))

    -- or first
    pub found_first : ((q : ℕ) (rest : List ℕ) → places ≡ q ∷ rest → f < frame_at slots q) → Comes None
    found_first later = found_comes None ([], places, refl, refl, λ p some. absurd (some refl), past_first (frame_at slots) f places rises later)

  module _ (slots : List (Slot T)) (l : List ℕ) (last : ℕ) (queue : IsQueue slots l last) where
    -- the sets of the queue wait
    pub in_waits : (p : ℕ) → times p l ≢ 0 → waits (slot_at slots p) ≡ true
    in_waits p some = grind (arith, common_steps, queue.has p)

    -- a slot changed that isn't in the queue
    pub out_queue : (p : ℕ) (s : Slot T) → p < length slots → waits (slot_at slots p) ≡ false → waits s ≡ false → IsQueue (set slots p s) l last
    out_queue p s within was now = grind (arith, common_steps, lists_other waits slots p s l queue.has within (now ∙ sym was), other_rises slots p s l (not_listed waits slots l p queue.has was) queue.rises)

  -- a slot is as it was, or its set came to wait for a frame, and its place is in a list
  abbrev pub ComesAt : List (Slot T) → List (Slot T) → List ℕ → ℕ → ℕ → Type 0
  ComesAt old new b f q = ((times q b ≡ 0) × (slot_at new q ≡ slot_at old q)) ⊎ ((times q b ≡ 1) × (waits (slot_at old q) ≡ false) × (waits (slot_at new q) ≡ true) × (frame_at new q ≡ f))

  module _ (old new : List (Slot T)) (l b : List ℕ) (last f : ℕ) (queue : IsQueue old l last) (comes : (q : ℕ) → ComesAt old new b f q) where
    -- both lists together have the sets that wait
    pub comes_has : Lists waits new (l ++ b)
    comes_has q = grind (arith, common_steps, times_append q l b, comes q, queue.has q)

    pub comes_few : length l + length b ≤ length new
    comes_few = omega (arith, lists_few waits new (l ++ b) refl comes_has, length-append l b)

    pub still : (p : ℕ) → times p l ≢ 0 → (waits (slot_at new p) ≡ true) × (frame_at new p ≡ frame_at old p)
    still p some = search (rules, comes p, in_waits old l last queue p some)

    pub still_rises : IsNonDecreasingBy (frame_at new) l
    still_rises = rises_same (frame_at old) (frame_at new) l (λ p some. (still p some).1) queue.rises

    -- their place in the queue is the one that was found before they came
    pub still_near : (near : Option ℕ) → near ≡ last_up_to old f l → Comes new l f still_rises near
    still_near near is = is ∙ ap (last_or None) (sym (passed_same (frame_at old) (frame_at new) f l (λ p some. (still p some).1)))

  -- one set came to this use, and waits
  pub set_comes : (old new : List (Slot T)) (p : ℕ) (s : Slot T) (u : Use) → new ≡ set old p s → p < length new → waits (slot_at old p) ≡ false → s.used ≡ u → is_some s.set ≡ true → waits_for (λ f. true) u ≡ true → (q : ℕ) → ComesAt old new (p ∷ []) (frame_of u) q
  set_comes old new p s u made within was used full now q = search (rules, cases_eq q p, times_here p [], times_there q p [], slot_set old p s, other_slots old p s q, length-set, made)

  -- the first set leaves the queue
  module _ (slots : List (Slot T)) (p : ℕ) (l : List ℕ) (last : ℕ) (queue : IsQueue slots (p ∷ l) last) where
    pub first_waits : (p < length slots) × (waits (slot_at slots p) ≡ true)
    first_waits = (let is = (first_passes waits slots p l queue.has).1 in (test_within waits slots p refl is, is))

    pub pop_queue : (s : Slot T) → waits s ≡ false → IsQueue (set slots p s) l last
    pop_queue s now = grind (arith, common_steps, lists_pop waits slots p s l queue.has first_waits.0 now, other_rises slots p s l (first_passes waits slots p l queue.has).0 (rises_parts (frame_at slots) (p ∷ []) l queue.rises).1, last_rest p last l queue.ends)

    -- no set is due if the first one waits for a later frame
    pub none_due : (f : ℕ) → f < frame_at slots p → (q : ℕ) → is_due f (slot_at slots q) ≡ false
    none_due f late q = grind (arith, common_steps, rises_first (frame_at slots) p q l queue.rises, queue.has q)

  -- the list of a queue with places is its first one, and then what begins with the next of that
  pub head_queue : (slots : List (Slot T)) (next : List ℕ) (q : Queue) → q.list.count ≢ 0 → IsQueue slots (places_in next q) q.last → IsQueue slots (q.list.first ∷ walk (q.list.count - 1) next (get_or next q.list.first 0)) q.last
  head_queue slots next q some queue = (let more : q.list.count ≡ suc (q.list.count - 1) = omega arith in subst (λ n. IsQueue slots (walk n next q.list.first) q.last) more queue)

  pub head_waits : (t : SetTable T) → t.waiting.list.count ≢ 0 → (t.waiting.list.first < length (slots_of t)) × (waits (slot_at (slots_of t) t.waiting.list.first) ≡ true)
  head_waits t some = first_waits (slots_of t) t.waiting.list.first _ t.waiting.last (head_queue (slots_of t) (nexts_in t.slots) t.waiting some t.sound.queue)

  -- the last set of a table's queue waits, so it is there
  pub last_waits : (t : SetTable T) → t.waiting.list.count ≢ 0 → (t.waiting.last < length (slots_of t)) × (waits (slot_at (slots_of t) t.waiting.last) ≡ true)
  last_waits t some =
      let places = places_in (nexts_in t.slots) t.waiting in
      grind (arith, common_steps, t.sound.queue.ends, last_in t.waiting.last places, last_some places t.waiting.last, walk_length t.waiting.list.count (nexts_in t.slots) t.waiting.list.first, in_waits (slots_of t) places t.waiting.last t.sound.queue t.waiting.last, test_within waits (slots_of t) t.waiting.last refl)
