-- The lists of slots, by the code's chains: for `SetTable::pick`, `link`, `settle` and others. No slot is in two lists (`lists_apart`),
-- and one that waits is in none. `pick` takes a slot out of a list, `link` puts it into one.
use Rattle.descriptor_table.proofs.Common.{common_steps, ◌≡◌, ◌≢◌, ℕ, suc, ◌+◌, ◌-◌, ◌<◌, ◌≤◌, ◌&&◌, Bool, true, false, List, ◌∷◌, length, get_or, set, is_some, refl, sym, ap, subst, ◌∙◌, arith, rules, get_or-set_same, length-set, false≢true, true≢false, walk, AreLinked, IsListed, IsNowhere, Lists}
use Rattle.descriptor_table.proofs.Common.{Slot, chain_at, frame_of, in_list, is_in, is_live, slot_at, waits, is_held_use, Use, Held, Chain}
use Rattle.descriptor_table.proofs.Counting.{walk_after, walk_agree, walk_length, walk_other}
use Rattle.descriptor_table.proofs.Counts.{lists_few}
use Rattle.descriptor_table.proofs.Listed.{first_passes, lists_other, lists_pop, lists_push, not_listed, test_within}

pub and_true : (a b : Bool) → (a && b) ≡ true → (a ≡ true) × (b ≡ true)
and_true x0 x1 e = grind (arith, common_steps)

-- a set in such a use isn't held
pub unheld : (u : Use) {X : Type 0} → is_held_use u ≡ false → u ≡ Held → X
unheld u out held = absurd (false≢true (sym out ∙ ap is_held_use held))

module _ {T : Type 0} where
  -- a slot is in one list
  pub lists_apart : (j k : ℕ) (s : Slot T) → is_in k s ≡ true → j ≢ k → is_in j s ≡ false
  lists_apart j k s e ne = grind (arith, common_steps)

  -- a slot that is in a list doesn't wait
  pub listed_out : (k : ℕ) (s : Slot T) → is_in k s ≡ true → waits s ≡ false
  listed_out k s e = search rules

  -- a slot that has a handle is in no list
  pub live_no_list : (s : Slot T) → is_live (frame_of s.used) true s.used ≡ true → (k : ℕ) → is_in k s ≡ false
  live_no_list s e k = search rules

  -- a set in such a use is in no list, and waits for no frame
  pub nowhere_out : (s : Slot T) → IsNowhere s.used → (waits s ≡ false) × ((k : ℕ) → is_in k s ≡ false)
  nowhere_out s n = search rules

  -- a held set is in no list
  pub held_nowhere : (s : Slot T) (k : ℕ) → is_in k s ≡ true → s.used ≢ Held
  held_nowhere s k e held = true≢false (sym e ∙ ap (λ u. in_list k u s.layout s.generation (is_some s.set)) held)

-- a list of kept sets got shorter, or another list longer
pub few_set : (max : ℕ) (chains : List Chain) (k : ℕ) (c : Chain) → ((j : ℕ) → 2 ≤ j → (chain_at chains j).count ≤ max) → k < length chains → (2 ≤ k → c.count ≤ max) → (j : ℕ) → 2 ≤ j → (chain_at (set chains k c) j).count ≤ max
few_set max chains k c few within le j two = grind (arith, common_steps, length-set)

module _ {T : Type 0} where
  -- each slot has its list
  abbrev pub HasLists : List (Slot T) → ℕ → Type 0
  HasLists slots layouts = (p : ℕ) → p < length slots → IsListed layouts (slot_at slots p)

  -- the nexts of slots that don't wait are as they were
  abbrev pub Agree : List (Slot T) → List ℕ → List ℕ → Type 0
  Agree slots next next' = (q : ℕ) → waits (slot_at slots q) ≡ false → get_or next' q 0 ≡ get_or next q 0

module _ {T : Type 0} (slots : List (Slot T)) (next : List ℕ) (chains : List Chain) (h : AreLinked slots next chains) where
  -- the places of a list
  abbrev places : ℕ → List ℕ
  places k = walk (chain_at chains k).count next (chain_at chains k).first

  -- a slot that is in no list comes to none
  pub out_linked : (p : ℕ) (s : Slot T) → p < length slots → ((k : ℕ) → is_in k (slot_at slots p) ≡ false) → ((k : ℕ) → is_in k s ≡ false) → AreLinked (set slots p s) next chains
  out_linked p s within was now k = lists_other (is_in k) slots p s (places k) (h k) within (now k ∙ sym (was k))

  -- nothing but the nexts of slots that wait changed
  pub linked_still : (next' : List ℕ) → Agree slots next next' → AreLinked slots next' chains
  linked_still next' agree k = subst (Lists (is_in k) slots) (sym (walk_agree (chain_at chains k).count next next' (chain_at chains k).first (λ q has. agree q (grind (arith, common_steps, listed_out k (slot_at slots q), h k q))))) (h k)

  module _ (p : ℕ) (s : Slot T) (within : p < length slots) (idle : IsNowhere (slot_at slots p).used) where
    -- a list that the slot isn't in stays, whatever its next is
    other_places : (k x : ℕ) → walk (chain_at chains k).count (set next p x) (chain_at chains k).first ≡ places k
    other_places k x = search (rules, walk_other, not_listed, nowhere_out)

  -- one list changed
  pub chain_changed : (slots' : List (Slot T)) (next' : List ℕ) (k : ℕ) (d : Chain) → k < length chains → Lists (is_in k) slots' (walk d.count next' d.first) → ((j : ℕ) → j ≢ k → Lists (is_in j) slots' (walk (chain_at chains j).count next' (chain_at chains j).first)) → AreLinked slots' next' (set chains k d)
  chain_changed slots' next' k d within here others j = grind (arith, common_steps)

  module _ (k : ℕ) (c : Chain) (is : chain_at chains k ≡ c) where
    -- a list that isn't empty is its first place, and then what begins with the next of that
    parts : c.count ≢ 0 → Lists (is_in k) slots (c.first ∷ walk (c.count - 1) next (get_or next c.first 0))
    parts some = (let more : c.count ≡ suc (c.count - 1) = omega arith in search rules)

    -- the first slot of a list, as the code has it
    pub picked : c.count ≢ 0 → (c.first < length slots) × (is_in k (slot_at slots c.first) ≡ true)
    picked some = grind (arith, common_steps, first_passes (is_in k) slots c.first (walk (c.count - 1) next (get_or next c.first 0)) (parts some), test_within)

    -- it left the list
    pub pick_linked : (s : Slot T) (after : ℕ) → c.count ≢ 0 → k < length chains → after ≡ get_or next c.first 0 → ((j : ℕ) → is_in j s ≡ false) → AreLinked (set slots c.first s) next (set chains k (record { first = after; count = c.count - 1 }))
    pick_linked s after some within told out = grind (arith, common_steps, chain_changed, picked some, lists_pop (is_in k) slots c.first s (walk (c.count - 1) next (get_or next c.first 0)) (parts some), lists_other, lists_apart)

    module _ (p : ℕ) (s : Slot T) (within : p < length slots) (idle : IsNowhere (slot_at slots p).used) (goes : is_in k s ≡ true) where
      pushed : Lists (is_in k) (set slots p s) (p ∷ places k)
      pushed = search (rules, lists_push, nowhere_out)

      -- a slot that was in no list came first in this one
      pub link_linked : length next ≡ length slots → k < length chains → AreLinked (set slots p s) (set next p c.first) (set chains k (record { first = p; count = c.count + 1 }))
      link_linked long there =
          chain_changed (set slots p s) (set next p c.first) k (record { first = p; count = c.count + 1 }) there
          (search (rules, get_or-set_same, other_places p s within idle, pushed))
          (grind (arith, common_steps, other_places p s within idle, lists_other, lists_apart, nowhere_out))

      -- which has no more places then than there are slots
      pub link_more : c.count + 1 ≤ length slots
      link_more = grind (arith, common_steps, lists_few (is_in k) (set slots p s) (p ∷ places k) refl pushed, length-set, walk_length)

      -- a slot that was in no list came after one of this list
      pub after_linked : (near : ℕ) → is_in k (slot_at slots near) ≡ true → length next ≡ length slots → k < length chains → AreLinked (set slots p s) (set (set next p (get_or next near 0)) near p) (set chains k (record { first = c.first; count = c.count + 1 }))
      after_linked near has long there =
          chain_changed (set slots p s) (set (set next p (get_or next near 0)) near p) k (record { first = c.first; count = c.count + 1 }) there
          (λ q. grind (arith, h k near, pushed q, test_within (is_in k) slots near refl has, walk_after c.count next c.first near p q, not_listed (is_in k) slots (places k) p (h k), (nowhere_out (slot_at slots p) idle).1 k))
          (grind (arith, common_steps, other_places p s within idle, lists_other, lists_apart, nowhere_out, walk_other, not_listed))
