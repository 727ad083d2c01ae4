-- The lists of slots, when a slot without a set comes at the end: for `SetTable::add_place`.
use Rattle.descriptor_table.proofs.Common.{common_steps, ◌≡◌, ℕ, zero, suc, ◌+◌, Bool, true, if◌then◌else◌, List, [], ◌∷◌, ◌++◌, length, get_or, refl, sym, ap, subst, ◌∙◌, arith, get_or-append_seam, set-append_seam, get_or_append_left, get_or_past, get_or_push, length_push, cases_eq, cases_lt, times, walk, AreLinked}
use Rattle.descriptor_table.proofs.Common.{IsNowhere, IsQueue, Slot, chain_at, count, filled, frame_at, frame_of, is_in, no_slot, slot_at, waits, At, Changes, HasRoom, Puts, is_usable, slots_of, used_for, SetTable, Taken, Vacant, Chain}
use Rattle.descriptor_table.proofs.Chains.{nowhere_out}
use Rattle.descriptor_table.proofs.Counting.{rises_same}
use Rattle.descriptor_table.proofs.Counts.{count_none}
use Rattle.descriptor_table.proofs.Listed.{test_within}

-- what `f` says of each place stays, if it says of what comes at the end what it says of what is past the end
pub grown : {X Y : Type 0} (f : X → Y) (xs : List X) (x d : X) (q : ℕ) → f x ≡ f d → f (get_or (xs ++ x ∷ []) q d) ≡ f (get_or xs q d)
grown f xs x d q same = grind (arith, common_steps, cases_lt q (length xs), cases_eq q (length xs), get_or_append_left xs (x ∷ []) d q, get_or_push xs x d q, get_or_past xs q d, get_or_past (xs ++ x ∷ []) q d, length_push xs x)

-- each list stays with a 0 at the end of the nexts
pub walk_grown : (n : ℕ) (next : List ℕ) (first : ℕ) → walk n (next ++ 0 ∷ []) first ≡ walk n next first
walk_grown zero next first = refl
walk_grown (suc n) next first = ap (λ y. first ∷ walk n (next ++ 0 ∷ []) y) (grown (λ x. x) next 0 0 first refl) ∙ ap (λ l. first ∷ l) (walk_grown n next (get_or next first 0))

module _ {T : Type 0} where
  -- the lists and the queue stay, as the slot that comes at the end is in none, and the slot past the end is in none
  pub linked_grown : (slots : List (Slot T)) (next : List ℕ) (chains : List Chain) (s : Slot T) → s.used ≡ Taken → AreLinked slots next chains → AreLinked (slots ++ s ∷ []) (next ++ 0 ∷ []) chains
  linked_grown slots next chains s taken h k q = ap (times q) (walk_grown (chain_at chains k).count next (chain_at chains k).first) ∙ h k q ∙ ap (λ b. if b then 1 else 0) (sym (grown (is_in k) slots s no_slot q ((nowhere_out s (subst IsNowhere (sym taken) tt)).1 k)))

  pub queue_grown : (slots : List (Slot T)) (l : List ℕ) (last : ℕ) (s : Slot T) → s.used ≡ Taken → IsQueue slots l last → IsQueue (slots ++ s ∷ []) l last
  queue_grown slots l last s taken h = grind (arith, common_steps, grown waits slots s no_slot, rises_same (frame_at slots) (frame_at (slots ++ s ∷ [])) l (λ q some. grown (λ (s : Slot T). frame_of s.used) slots s no_slot q (ap frame_of taken)) h.rises)

  -- what a slot at the end counts
  pub count_grown : (test : Slot T → Bool) (slots : List (Slot T)) (s : Slot T) → count test (slots ++ s ∷ []) ≡ count test slots + (if test s then 1 else 0)
  count_grown test [] s = omega arith
  count_grown test (x ∷ slots) s = let h = count_grown test slots s in omega arith

  pub puts_end : (layout : ℕ) (x : T) (p : ℕ) (old mid : List (Slot T)) → p ≡ length old → mid ≡ old ++ filled layout x no_slot ∷ [] → Puts layout x p old mid
  puts_end layout x p old mid at is = grind (arith, common_steps)

  module _ (a b : SetTable T) (none : count is_usable (slots_of a) ≡ 0) (grows : Changes (λ old new. new ≡ old ++ used_for Vacant no_slot ∷ []) a b) where
    -- a set came to the slot at the end
    pub puts_last : (layout : ℕ) (x : T) (p : ℕ) (mid : List (Slot T)) → is_usable (slot_at (slots_of b) p) ≡ true → At p (filled layout x) (slots_of b) mid → Puts layout x p (slots_of a) mid
    puts_last layout x p mid usable is =
        let l = slots_of a in
        let last : Slot T = used_for Vacant no_slot in
        let at : p ≡ length l = grind (arith, common_steps, get_or_append_left l (last ∷ []) no_slot p, length_push, test_within is_usable (l ++ last ∷ []) p refl, count_none is_usable l refl none p) in
        grind (arith, common_steps, puts_end layout x p l mid at, set-append_seam l last [], get_or-append_seam l last [] no_slot)

    -- and there is room for as many sets as before
    pub room_grown : (n : ℕ) → HasRoom (n + 1) a → HasRoom (n + 1) b
    room_grown n room = grind (arith, common_steps, count_grown, length_push)
