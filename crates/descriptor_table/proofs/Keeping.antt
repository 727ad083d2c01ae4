-- Held sets that are kept at once, first in the list of their layout: for `SetTable::keep_each`.
use Rattle.descriptor_table.proofs.Common.{common_steps, ◌≡◌, ◌≢◌, ℕ, ◌+◌, ◌<◌, ◌≤◌, ◌++◌, List, length, last_or, None, get_or, set, refl, sym, ap, subst, ◌∙◌, arith, AreSound, Lists, Some, SlotList, Chain, Queue, Held, Kept}
use Rattle.descriptor_table.proofs.Common.{chain_at, is_in, nexts_in, slot_at, slots_in, times, walk}
use Rattle.std.proofs.lemmas.List.{length-append}
use Rattle.descriptor_table.proofs.Chains.{chain_changed, few_set, nowhere_out, unheld}
use Rattle.descriptor_table.proofs.Counting.{Leads, leads_on, leads_walk, times_append, walk_leads, walk_length}
use Rattle.descriptor_table.proofs.Counts.{lists_few}
use Rattle.descriptor_table.proofs.Reusing.{Reused, reused_sound, same_lists, same_walk}

module _ {T : Type 0} (layout first many place : ℕ) (l l' : SlotList T) (chains : List Chain) (layouts : ℕ) (waiting : Queue) (keep : ℕ) (h : AreSound l chains layouts waiting keep)
    (reused : Reused (Some layout) Kept (walk many (nexts_in l') first) (slots_in l) (slots_in l')) (nexts : (p : ℕ) → (slot_at (slots_in l) p).used ≢ Held → get_or (nexts_in l') p 0 ≡ get_or (nexts_in l) p 0)
    (last : last_or None (walk many (nexts_in l') first) ≡ Some place) (ends : get_or (nexts_in l') place 0 ≡ (chain_at chains (layout + 2)).first) where
  abbrev k : ℕ
  k = layout + 2

  abbrev was : Chain
  was = chain_at chains k

  -- the list goes on from the last of them
  places : walk (was.count + many) (nexts_in l') first ≡ walk many (nexts_in l') first ++ walk was.count (nexts_in l) was.first
  places =
      let front = walk many (nexts_in l') first in
      let rest = walk was.count (nexts_in l') was.first in
      let long : length (front ++ rest) ≡ was.count + many = omega (arith, length-append front rest, walk_length many (nexts_in l') first, walk_length was.count (nexts_in l') was.first) in
      let goes = leads_on front rest (nexts_in l') first place (walk_leads many (nexts_in l') first) last (subst (λ f. Leads (nexts_in l') f rest) (sym ends) (walk_leads was.count (nexts_in l') was.first)) in
      subst (λ n. walk n (nexts_in l') first ≡ front ++ rest) long (leads_walk (front ++ rest) (nexts_in l') first goes)
      ∙ ap (λ m. front ++ m) (same_walk (Some layout) Kept (unheld Kept refl) l l' chains layouts waiting keep h _ reused nexts k)

  lists : Lists (is_in k) (slots_in l') (walk (was.count + many) (nexts_in l') first)
  lists q =
      let all = ap (times q) places ∙ times_append q (walk many (nexts_in l') first) (walk was.count (nexts_in l) was.first) in
      grind (arith, common_steps, all, h.linked k q, reused.each q, nowhere_out (slot_at (slots_in l) q))

  -- the list has no more slots then than there are
  pub few_kept : was.count + many ≤ length (slots_in l')
  few_kept = omega (arith, lists_few (is_in k) (slots_in l') _ refl lists, walk_length (was.count + many) (nexts_in l') first)

  pub kept_sound : was.count + many ≤ keep → k < length chains → AreSound l' (set chains k (record { first = first; count = was.count + many })) layouts waiting keep
  kept_sound few there =
      reused_sound (Some layout) Kept (unheld Kept refl) l l' chains layouts waiting keep h _ reused nexts (λ s. refl) _
      (chain_changed (slots_in l) (nexts_in l) chains h.linked (slots_in l') (nexts_in l') k _ there lists (λ j ne. same_lists (Some layout) Kept (unheld Kept refl) l l' chains layouts waiting keep h _ reused nexts j (λ s may. grind (arith, common_steps))))
      (few_set keep chains k _ h.few there (λ two. few))
