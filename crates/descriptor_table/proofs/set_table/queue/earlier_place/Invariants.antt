use Rattle.descriptor_table.proofs.Common.{◌≡◌, ◌≤◌, ℕ, List, ◌++◌, Some, None, length, last_or, frame_at, nexts_in, places_in, slots_in}
use Rattle.descriptor_table.proofs.set_table.queue.earlier_place.Given as goal

-- at least so many places were passed, of sets that wait up to the frame
abbrev pub invariant-loop : goal.invariant-loop
invariant-loop g l = record {
  at : (before after : List ℕ) × (places_in (nexts_in l.fn.slots) l.fn.queue ≡ before ++ after) × (last_or None before ≡ Some l.near) × (l.counter ≤ length before);
  below : frame_at (slots_in l.fn.slots) l.near ≤ l.fn.frame;
}
