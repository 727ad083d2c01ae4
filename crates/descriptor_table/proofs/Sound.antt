-- What a table says of its lists stays when a slot comes to a list or leaves one, or comes to the table: for all methods that write slots.
-- `l` are the slots before, `l'` after.
use Rattle.descriptor_table.proofs.Common.{common_steps, ◌≡◌, ◌≢◌, ℕ, ◌+◌, ◌-◌, ◌<◌, ◌≤◌, true, false, List, [], ◌∷◌, ◌++◌, is_some, length, get_or, set, sym, ap, subst, ◌∙◌, arith, rules, length-map, length-set, length_push, cases_eq, get_or_append_left, get_or_push, AreLinked, AreSound, IsListed, IsNowhere, IsQueue, Slot, chain_at}
use Rattle.descriptor_table.proofs.Common.{is_in, nexts_in, slot_at, slots_in, waits, places_in, walk, Chain, Queue, Held, Taken, SlotList}
use Rattle.descriptor_table.proofs.Chains.{Agree, HasLists, chain_changed, few_set, listed_out, linked_still, nowhere_out, out_linked, pick_linked, picked}
use Rattle.descriptor_table.proofs.Growing.{grown, linked_grown, queue_grown, walk_grown}
use Rattle.descriptor_table.proofs.Waiting.{first_waits, head_queue, out_queue, pop_queue}

-- there are as many nexts as slots
pub same_long : {T : Type 0} (l : SlotList T) → length (nexts_in l) ≡ length (slots_in l)
same_long l = search (rules, length-map)

module _ {T : Type 0} (l l' : SlotList T) (chains : List Chain) (layouts : ℕ) (waiting : Queue) (keep : ℕ) (h : AreSound l chains layouts waiting keep) where
  -- a slot with another use keeps its layout
  pub listed : (p : ℕ) (s : Slot T) → p < length (slots_in l) → s.layout ≡ (slot_at (slots_in l) p).layout → (s.used ≡ Held → is_some s.set ≡ true) → IsListed layouts s
  listed p s within layout full = search rules

  module _ (p : ℕ) (s : Slot T) (slots : slots_in l' ≡ set (slots_in l) p s) where
    -- there are as many slots as before
    long : length (slots_in l') ≡ length (slots_in l)
    long = ap length slots ∙ length-set (slots_in l) p s

    known : p < length (slots_in l) → IsListed layouts s → HasLists (slots_in l') layouts
    known within here = grind (arith, common_steps, h.known, length-set)

    -- a slot that is in no list, and not in the queue, came to neither
    pub out_sound : p < length (slots_in l) → nexts_in l' ≡ nexts_in l → (waits (slot_at (slots_in l) p) ≡ false) × ((k : ℕ) → is_in k (slot_at (slots_in l) p) ≡ false) → (waits s ≡ false) × ((k : ℕ) → is_in k s ≡ false) → s.layout ≡ (slot_at (slots_in l) p).layout → (s.used ≡ Held → is_some s.set ≡ true) → AreSound l' chains layouts waiting keep
    out_sound within nexts was now layout full = grind (arith, common_steps, known, long, listed, out_linked, out_queue (slots_in l) (places_in (nexts_in l) waiting) waiting.last h.queue p s within)

    -- the first slot of a list left it, perhaps for the queue
    pub pick_sound : (k : ℕ) (c : Chain) (after : ℕ) (waiting' : Queue) → chain_at chains k ≡ c → c.count ≢ 0 → k < length chains → after ≡ get_or (nexts_in l) p 0 → p ≡ c.first → Agree (set (slots_in l) p s) (nexts_in l) (nexts_in l') → ((j : ℕ) → is_in j s ≡ false) → IsListed layouts s → IsQueue (set (slots_in l) p s) (places_in (nexts_in l') waiting') waiting'.last → AreSound l' (set chains k (record { first = after; count = c.count - 1 })) layouts waiting' keep
    pick_sound k c after waiting' is some there told at agree out here queue =
        let left : Chain = record { first = after; count = c.count - 1 } in
        let linked = subst (λ x. AreLinked (set (slots_in l) x s) (nexts_in l) (set chains k left)) (sym at) (pick_linked (slots_in l) (nexts_in l) chains h.linked k c is s after some there (subst (λ x. after ≡ get_or (nexts_in l) x 0) at told) out) in
        let first = picked (slots_in l) (nexts_in l) chains h.linked k c is some in
        grind (arith, common_steps, few_set, known, length-set, long, linked_still (set (slots_in l) p s) (nexts_in l) (set chains k left) linked (nexts_in l') agree)

    -- a slot that a call had came to a list, first or after another one
    pub link_sound : (k first : ℕ) (c : Chain) (next : List ℕ) → chain_at chains k ≡ c → nexts_in l' ≡ next → AreLinked (set (slots_in l) p s) next (set chains k (record { first = first; count = c.count + 1 })) → k < length chains → p < length (slots_in l) → IsNowhere (slot_at (slots_in l) p).used → is_in k s ≡ true → IsListed layouts s → (2 ≤ k → c.count < keep) → places_in next waiting ≡ places_in (nexts_in l) waiting → AreSound l' (set chains k (record { first = first; count = c.count + 1 })) layouts waiting keep
    link_sound k first c next is nexts linked there within idle goes here few still = grind (arith, common_steps, few_set, known, length-set, long, out_queue (slots_in l) (places_in (nexts_in l) waiting) waiting.last h.queue p s within (nowhere_out (slot_at (slots_in l) p) idle).0 (listed_out k s goes))

    -- the first set that waits leaves the queue
    pub leave_sound : waiting.list.count ≢ 0 → p ≡ waiting.list.first → nexts_in l' ≡ nexts_in l → ((k : ℕ) → is_in k s ≡ false) → waits s ≡ false → IsListed layouts s → AreSound l' chains layouts (record waiting { list = record { first = get_or (nexts_in l) p 0; count = waiting.list.count - 1 } }) keep
    leave_sound some at nexts out now here =
        let rest = walk (waiting.list.count - 1) (nexts_in l) (get_or (nexts_in l) p 0) in
        let queue = subst (λ f. IsQueue (slots_in l) (f ∷ walk (waiting.list.count - 1) (nexts_in l) (get_or (nexts_in l) f 0)) waiting.last) (sym at) (head_queue (slots_in l) (nexts_in l) waiting some h.queue) in
        grind (arith, common_steps, known, long, out_linked, pop_queue (slots_in l) p rest waiting.last queue s, first_waits (slots_in l) p rest waiting.last)

  -- a slot came at the end, whose set a call has
  pub push_sound : (s : Slot T) → s.used ≡ Taken → slots_in l' ≡ slots_in l ++ s ∷ [] → nexts_in l' ≡ nexts_in l ++ 0 ∷ [] → IsListed layouts s → length (slots_in l) + 1 < 4294967295 → AreSound l' chains layouts waiting keep
  push_sound s taken slots nexts here few = grind (arith, common_steps, length_push, walk_grown waiting.list.count (nexts_in l) waiting.list.first, linked_grown (slots_in l) (nexts_in l) chains s taken h.linked, queue_grown (slots_in l) (places_in (nexts_in l) waiting) waiting.last s taken h.queue, cases_eq, get_or_append_left, get_or_push)

  -- a list without slots became another one
  pub emptied_sound : (k : ℕ) (c : Chain) → (chain_at chains k).count ≡ 0 → c.count ≡ 0 → k < length chains → AreSound l (set chains k c) layouts waiting keep
  emptied_sound k c none empty there = grind (arith, common_steps, few_set, length-set, chain_changed (slots_in l) (nexts_in l) chains h.linked (slots_in l) (nexts_in l) k c there)

  -- one layout more
  pub layout_sound : layouts < 2147483648 → AreSound l (chains ++ record { first = 0; count = 0 } ∷ []) (layouts + 1) waiting keep
  layout_sound few = grind (arith, common_steps, grown (λ (c : Chain). c) chains (record { first = 0; count = 0 }) (record { first = 0; count = 0 }))
