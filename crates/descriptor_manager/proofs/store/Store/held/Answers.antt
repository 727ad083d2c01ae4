use Rattle.descriptor_manager.proofs.Common.{common_steps, ◌≡◌, ℕ, suc, ◌+◌, ◌&&◌, true, List, [], ◌∷◌, length, is_some, refl, arith, and_right, outstanding_of, filter_map, Slot, count, in_list, slot_at, waits, waits_for, holds, is_held_use, is_kept, Use, bit, is_placed, slots_in, whole_in, CompactDescriptorSet}
use Rattle.descriptor_manager.proofs.Arriving.{placed_in}
use Rattle.descriptor_manager.proofs.store.Store.held.Goals.{After-waiting}
use Rattle.descriptor_manager.proofs.store.Store.held.Goals as goal

-- How many sets there are if each is held, waits or is kept.

-- a set is held, waits or is kept, and only one of these
one_of : (u : Use) (l g : ℕ) → placed_in u true l g ≡ true → 1 ≡ bit (is_held_use u && true) + (bit (waits_for (λ w. true) u && true) + bit (in_list (l + 2) u l g true))
one_of u l g e = grind (arith, common_steps)

module _ {S : Type 0} where
  -- a slot of a store at rest counts once if it has a set, by whichever of the three its set is
  placed_bits : (s : Slot (CompactDescriptorSet S)) → is_placed s ≡ true → bit (is_some s.set) ≡ bit (holds s) + (bit (waits s) + bit (is_kept s))
  placed_bits s e = grind (arith, common_steps, and_right, bit, one_of, placed_in)

  -- the sets are those that are held, those that wait, and those that are kept
  placed_count : (ids : ℕ → ℕ) (slots : List (Slot (CompactDescriptorSet S))) → ((p : ℕ) → is_placed (slot_at slots p) ≡ true) → length (filter_map (whole_in ids) slots) ≡ count holds slots + (count waits slots + count is_kept slots)
  placed_count ids [] placed = refl
  placed_count ids (s ∷ slots) placed = grind (arith, common_steps, placed_bits s (placed 0), placed_count ids slots (λ p. placed (suc p)))

-- as many sets are live in the allocator as are held, wait and are kept
all : (g : _) (c : After-waiting g) → outstanding_of c.args.self.now.allocator ≡ count holds (slots_in c.args.self.now) + (count waits (slots_in c.args.self.now) + count is_kept (slots_in c.args.self.now))
all g c = grind (arith, common_steps, placed_count)

pub overflow_sub-result : goal.overflow_sub-result
overflow_sub-result g c = let n = all g c in omega arith

pub overflow_sub-result-2 : goal.overflow_sub-result-2
overflow_sub-result-2 g c = let n = all g (goal.at.overflow_sub-result-2 g c).After-waiting in omega arith

pub returns : goal.returns
returns g c = let n = all g (goal.at.returns g c).After-waiting in omega arith
