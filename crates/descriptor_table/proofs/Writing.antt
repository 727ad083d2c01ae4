-- A slot came to a list: for the methods of `SetTable`. `t` is the table before.
use Rattle.descriptor_table.proofs.Common.{◌≡◌, ℕ, ◌+◌, ◌<◌, ◌≤◌, false, true, List, get_or, length, set, refl, ap, ◌∙◌, arith, AreLinked, AreSound, IsNowhere, Slot, chain_at, is_in, nexts_in, slot_at, slots_in, times, waits, places_in, layouts_of, slots_of}
use Rattle.descriptor_table.proofs.Common.{chains_in, SetTable, SlotList}
use Rattle.descriptor_table.proofs.Chains.{after_linked, held_nowhere, link_linked, link_more, listed_out, nowhere_out}
use Rattle.descriptor_table.proofs.Counting.{walk_other}
use Rattle.descriptor_table.proofs.Listed.{not_listed}
use Rattle.descriptor_table.proofs.Sound.{link_sound, listed, same_long}

-- a slot that is in no list came to one
module _ {T : Type 0} (t : SetTable T) (k p : ℕ) (s : Slot T) (within : p < length (slots_of t)) (idle : IsNowhere (slot_at (slots_of t) p).used) (goes : is_in k s ≡ true) where
  -- which has no more then than there are slots
  pub few_more : (chain_at (chains_in t.lists) k).count + 1 < 4294967295
  few_more = omega (arith, link_more (slots_of t) (nexts_in t.slots) (chains_in t.lists) t.sound.linked k (chain_at (chains_in t.lists) k) refl p s within idle goes, t.sound.size)

  module _ (l : SlotList T) (slots : slots_in l ≡ set (slots_of t) p s) (there : k < length (chains_in t.lists)) (layout : s.layout ≡ (slot_at (slots_of t) p).layout) (few : 2 ≤ k → (chain_at (chains_in t.lists) k).count < t.keep) where
    -- the queue stays, whatever the next of the slot, or of one of a list, is
    still : (q x : ℕ) (next : List ℕ) → waits (slot_at (slots_of t) q) ≡ false → places_in next t.waiting ≡ places_in (nexts_in t.slots) t.waiting → places_in (set next q x) t.waiting ≡ places_in (nexts_in t.slots) t.waiting
    still q x next out same = walk_other t.waiting.list.count next t.waiting.list.first q x (ap (times q) same ∙ not_listed waits (slots_of t) _ q t.sound.queue.has out) ∙ same

    came_sound : (first : ℕ) (next : List ℕ) → places_in next t.waiting ≡ places_in (nexts_in t.slots) t.waiting → nexts_in l ≡ next → AreLinked (set (slots_of t) p s) next (set (chains_in t.lists) k (record { first = first; count = (chain_at (chains_in t.lists) k).count + 1 })) → AreSound l (set (chains_in t.lists) k (record { first = first; count = (chain_at (chains_in t.lists) k).count + 1 })) (layouts_of t) t.waiting t.keep
    came_sound first next same nexts linked = link_sound t.slots l (chains_in t.lists) (layouts_of t) t.waiting t.keep t.sound p s slots k first (chain_at (chains_in t.lists) k) next refl nexts linked there within idle goes (listed t.slots l (chains_in t.lists) (layouts_of t) t.waiting t.keep t.sound p s within layout (λ held. absurd (held_nowhere s k goes held))) few same

    -- first
    pub front_sound : nexts_in l ≡ set (nexts_in t.slots) p (chain_at (chains_in t.lists) k).first → AreSound l (set (chains_in t.lists) k (record { first = p; count = (chain_at (chains_in t.lists) k).count + 1 })) (layouts_of t) t.waiting t.keep
    front_sound nexts = came_sound p _ (still p _ (nexts_in t.slots) (nowhere_out (slot_at (slots_of t) p) idle).0 refl) nexts (link_linked (slots_of t) (nexts_in t.slots) (chains_in t.lists) t.sound.linked k (chain_at (chains_in t.lists) k) refl p s within idle goes (same_long t.slots) there)

    -- or after another slot of the list
    pub after_sound : (near : ℕ) → is_in k (slot_at (slots_of t) near) ≡ true → nexts_in l ≡ set (set (nexts_in t.slots) p (get_or (nexts_in t.slots) near 0)) near p → AreSound l (set (chains_in t.lists) k (record { first = (chain_at (chains_in t.lists) k).first; count = (chain_at (chains_in t.lists) k).count + 1 })) (layouts_of t) t.waiting t.keep
    after_sound near has nexts = came_sound _ _ (still near p _ (listed_out k (slot_at (slots_of t) near) has) (still p _ (nexts_in t.slots) (nowhere_out (slot_at (slots_of t) p) idle).0 refl)) nexts (after_linked (slots_of t) (nexts_in t.slots) (chains_in t.lists) t.sound.linked k (chain_at (chains_in t.lists) k) refl p s within idle goes near has (same_long t.slots) there)
