-- The first slot of a list gets a handle: for `SetTable::fill` and `hold_kept`.
use Rattle.descriptor_table.proofs.Common.{common_steps, ◌≡◌, ◌≢◌, ℕ, ◌-◌, ◌<◌, true, length, get_or, set, is_some, refl, sym, ap, subst, arith, cases_lt, AreSound, IsQueue, Slot, chain_at, count, frame_of, is_in, is_live, nexts_in, slot_at, slots_in, layouts_of, places_in}
use Rattle.descriptor_table.proofs.Common.{slots_of, used_for, chains_in, Taken, SetTable, Chain, Queue, SlotList}
use Rattle.descriptor_table.proofs.Chains.{Agree, listed_out, live_no_list, picked, unheld}
use Rattle.descriptor_table.proofs.Counts.{chain_counts}
use Rattle.descriptor_table.proofs.Listed.{with_use}
use Rattle.descriptor_table.proofs.Sound.{listed, pick_sound}
use Rattle.descriptor_table.proofs.Waiting.{out_queue}

module _ {T : Type 0} (s : SetTable T) (k : ℕ) (some : 0 < count (is_in k) (slots_of s)) where
  -- a list that has a slot is there
  pub there : k < length (chains_in s.lists)
  there = grind (arith, common_steps, chain_counts s k, cases_lt k (length (chains_in s.lists)))

  module _ (c : Chain) (is : chain_at (chains_in s.lists) k ≡ c) where
    pub more : c.count ≢ 0
    more = grind (arith, common_steps, chain_counts s k)

    -- its first slot is there, and in it
    pub first : (c.first < length (slots_of s)) × (is_in k (slot_at (slots_of s) c.first) ≡ true)
    first = picked (slots_of s) (nexts_in s.slots) (chains_in s.lists) s.sound.linked k c is more

    module _ (l : SlotList T) (new : Slot T) (slots : slots_in l ≡ set (slots_of s) c.first new) where
      -- it left the list, perhaps for the queue
      pub left_sound : {after : ℕ} {waiting : Queue} → after ≡ get_or (nexts_in s.slots) c.first 0 → Agree (set (slots_of s) c.first new) (nexts_in s.slots) (nexts_in l) → is_live (frame_of new.used) true new.used ≡ true → new.layout < layouts_of s → is_some new.set ≡ true → IsQueue (slots_in l) (places_in (nexts_in l) waiting) waiting.last → AreSound l (set (chains_in s.lists) k (record { first = after; count = c.count - 1 })) (layouts_of s) waiting s.keep
      left_sound {after} {waiting} next agree live layout full queue =
          grind (arith, common_steps, live_no_list new live, pick_sound s.slots l (chains_in s.lists) (layouts_of s) s.waiting s.keep s.sound c.first new slots k c after waiting is more there next refl agree (live_no_list new live))

    -- or a call has it
    pub taken_sound : (l : SlotList T) {after : ℕ} → slots_in l ≡ with_use c.first Taken (slots_of s) → after ≡ get_or (nexts_in s.slots) c.first 0 → nexts_in l ≡ nexts_in s.slots → AreSound l (set (chains_in s.lists) k (record { first = after; count = c.count - 1 })) (layouts_of s) s.waiting s.keep
    taken_sound l {after} slots next nexts =
        let new = used_for Taken (slot_at (slots_of s) c.first) in
        let out = listed_out k (slot_at (slots_of s) c.first) first.1 in
        pick_sound s.slots l (chains_in s.lists) (layouts_of s) s.waiting s.keep s.sound c.first new slots k c after s.waiting is more there next refl (λ q out. ap (λ n. get_or n q 0) nexts) (λ j. refl)
        (listed s.slots l (chains_in s.lists) (layouts_of s) s.waiting s.keep s.sound c.first new first.0 refl (unheld Taken refl))
        (subst (λ n. IsQueue (set (slots_of s) c.first new) (places_in n s.waiting) s.waiting.last) (sym nexts) (out_queue (slots_of s) (places_in (nexts_in s.slots) s.waiting) s.waiting.last s.sound.queue c.first new first.0 out refl))
