-- What a table says of its lists and its queue stays when held sets are put to another use: for `SetTable::take_each`, `keep_each` and
-- `wait_each`.
use Rattle.descriptor_table.proofs.Common.{common_steps, ◌≡◌, ◌≢◌, ℕ, ◌<◌, ◌≤◌, ◌⊎◌, Bool, true, false, List, [], map, is_some, Option, None, Some, length, get_or, inl, inr, refl, sym, ap, ◌∙◌, arith, times, AreCounted, AreHeldOnce, AreLinked, AreSound, Lists, Taken, Slot, Use, Held, Chain, Queue, SlotList, SetHandle, Becomes, TurnEach}
use Rattle.descriptor_table.proofs.Common.{chain_at, frame_at, is_in, is_set_of, may_join, nexts_in, place_at, places_in, slot_at, slots_in, used_for, waits, walk}
use Rattle.std.specs.Option.{IsSome}
use Rattle.std.specs.Prelude.{reverse}
use Rattle.descriptor_table.proofs.Chains.{HasLists, held_nowhere, nowhere_out, unheld}
use Rattle.descriptor_table.proofs.Counting.{rises_same, walk_agree}
use Rattle.descriptor_table.proofs.Counts.{count_same}
use Rattle.descriptor_table.proofs.Holding.{apart_once, held_is, named_or}
use Rattle.descriptor_table.proofs.Linking.{back_all, back_once, back_other}
use Rattle.descriptor_table.proofs.Waiting.{in_waits}

module _ {T : Type 0} where
  -- each slot is as it was, or had a held set that might join the list of the layout, and that is in this use. Such slots are listed
  pub record Reused (layout : Option ℕ) (u : Use) (b : List ℕ) (old new : List (Slot T)) : Type 0 where
    pub long : length new ≡ length old
    pub each : (p : ℕ) → ((slot_at new p ≡ slot_at old p) × (times p b ≡ 0)) ⊎ ((may_join layout (slot_at old p) ≡ true) × ((slot_at old p).used ≡ Held) × (slot_at new p ≡ used_for u (slot_at old p)) × (is_some (slot_at old p).set ≡ true) × (times p b ≡ 1))

  pub reused_each : (number : ℕ) (handles : List SetHandle) (layout : Option ℕ) (u : Use) (b : List ℕ) (old new : List (Slot T)) → AreHeldOnce number old handles → ((i : ℕ) → i < length handles → may_join layout (slot_at old (place_at handles i)) ≡ true) → TurnEach handles (Becomes (used_for u)) old new → b ≡ reverse (map (λ (h : SetHandle). h.place) handles) → Reused layout u b old new
  reused_each number handles layout u b old new once may turned is =
      let back = is ∙ sym (back_all handles (length handles) refl) in
      record {
        long = turned.long;
        each = λ p. elim (named_or (length handles) (place_at handles) p) [
          | inl found ↦ inr (grind (arith, common_steps, held_is number old _ (once.held found.0 (record { manager = 0; place = 0; generation = 0 }) found.1), may found.0, turned.named found.0, back, back_once handles (length handles) found.0 (apart_once number old handles once)))
          | inr none ↦ inl (turned.rest p none, ap (times p) back ∙ back_other handles (length handles) p none)
        ];
      }

  pub reused_none : (old new : List (Slot T)) → new ≡ old → Reused None Taken [] old new
  reused_none old new same = record { long = ap length same; each = λ p. inl (ap (λ l. slot_at l p) same, refl) }

  -- perhaps no set was taken
  pub reused_any : (r : Option ℕ) (number : ℕ) (handles : List SetHandle) (old new : List (Slot T)) → (IsSome r → AreHeldOnce number old handles) → (IsSome r → TurnEach handles (Becomes (used_for Taken)) old new) → (r ≡ None → new ≡ old) → (b : List ℕ) × Reused None Taken b old new
  reused_any None number handles old new once turned none = ([], reused_none old new (none refl))
  reused_any (Some first) number handles old new once turned none = (_, reused_each number handles None Taken _ old new (once refl) (λ i lt. refl) (turned refl) refl)

  module _ (layout : Option ℕ) (u : Use) (off : u ≢ Held) (l l' : SlotList T) (chains : List Chain) (layouts : ℕ) (waiting : Queue) (keep : ℕ) (h : AreSound l chains layouts waiting keep) (b : List ℕ) (reused : Reused layout u b (slots_in l) (slots_in l')) (nexts : (p : ℕ) → (slot_at (slots_in l) p).used ≢ Held → get_or (nexts_in l') p 0 ≡ get_or (nexts_in l) p 0) where
    -- the places of a list stay
    pub same_walk : (k : ℕ) → walk (chain_at chains k).count (nexts_in l') (chain_at chains k).first ≡ walk (chain_at chains k).count (nexts_in l) (chain_at chains k).first
    same_walk k = walk_agree (chain_at chains k).count (nexts_in l) (nexts_in l') (chain_at chains k).first (λ q some. nexts q (held_nowhere (slot_at (slots_in l) q) k (grind (arith, common_steps, h.linked k q))))

    -- and it has its slots, if none in this use is in it
    pub same_lists : (k : ℕ) → ((s : Slot T) → may_join layout s ≡ true → is_in k (used_for u s) ≡ false) → Lists (is_in k) (slots_in l') (walk (chain_at chains k).count (nexts_in l') (chain_at chains k).first)
    same_lists k out q = grind (arith, common_steps, same_walk k, h.linked k q, reused.each q, out (slot_at (slots_in l) q), nowhere_out (slot_at (slots_in l) q))

    pub reused_known : HasLists (slots_in l') layouts
    reused_known p lt = grind (arith, common_steps, reused.each p, reused.long, h.known p, off)

    -- the queue's places stay
    pub same_places : places_in (nexts_in l') waiting ≡ places_in (nexts_in l) waiting
    same_places = walk_agree waiting.list.count (nexts_in l) (nexts_in l') waiting.list.first (λ q some. nexts q (grind (arith, common_steps, in_waits (slots_in l) (places_in (nexts_in l) waiting) waiting.last h.queue q some)))

    -- if the new use isn't waiting, the queue stays
    pub reused_sound : ((s : Slot T) → waits (used_for u s) ≡ false) → (chains' : List Chain) → AreLinked (slots_in l') (nexts_in l') chains' → ((k : ℕ) → 2 ≤ k → (chain_at chains' k).count ≤ keep) → AreSound l' chains' layouts waiting keep
    reused_sound out chains' linked few =
        let rises = rises_same (frame_at (slots_in l)) (frame_at (slots_in l')) (places_in (nexts_in l) waiting) (λ q some. grind (arith, common_steps, reused.each q, in_waits (slots_in l) (places_in (nexts_in l) waiting) waiting.last h.queue q some)) h.queue.rises in
        grind (arith, common_steps, reused.long, same_places, rises, h.queue.has, reused.each, out, nowhere_out, reused_known)

    pub reused_counted : (removed : ℕ → Bool) (users : List ℕ) → AreCounted (slots_in l) layouts removed users → AreCounted (slots_in l') layouts removed users
    reused_counted removed users counted = grind (arith, common_steps, counted.each, λ (n : ℕ). count_same (is_set_of n) (slots_in l) (slots_in l') reused.long (λ p. grind (arith, common_steps, reused.each p)))

  -- a call took sets, or none
  pub took_sound : (l l' : SlotList T) (chains : List Chain) (layouts : ℕ) (waiting : Queue) (keep : ℕ) → AreSound l chains layouts waiting keep → (b : List ℕ) → Reused None Taken b (slots_in l) (slots_in l') → ((p : ℕ) → (slot_at (slots_in l) p).used ≢ Held → get_or (nexts_in l') p 0 ≡ get_or (nexts_in l) p 0) → AreSound l' chains layouts waiting keep
  took_sound l l' chains layouts waiting keep h b reused nexts = reused_sound None Taken (unheld Taken refl) l l' chains layouts waiting keep h b reused nexts (λ s. refl) chains (λ k. same_lists None Taken (unheld Taken refl) l l' chains layouts waiting keep h b reused nexts k (λ s may. refl)) h.few
