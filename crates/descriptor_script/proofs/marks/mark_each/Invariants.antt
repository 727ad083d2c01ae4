use Rattle.std.proofs.Common.{◌≡◌, ◌≢◌, ℕ, ◌<◌, true, false, get_or}
use Rattle.std.specs.Prelude.{IsSome}
use Rattle.descriptor_script.specs.Sessions.Tickets.{set_at}
use Rattle.descriptor_script.proofs.marks.mark_each.Given as goal

-- the tickets so far have sets and are distinct, and exactly they are marked
abbrev pub invariant-loop-ticket : goal.invariant-loop-ticket
invariant-loop-ticket g l = record {
  held : (j : ℕ) → j < l.ticket-index → IsSome (set_at l.sets (get_or l.tickets j 0));
  marked : (j : ℕ) → j < l.ticket-index → get_or l.marks (get_or l.tickets j 0) false ≡ true;
  once : (i j : ℕ) → i < j → j < l.ticket-index → get_or l.tickets i 0 ≢ get_or l.tickets j 0;
  only : (n : ℕ) → get_or l.marks n false ≡ true → (j : ℕ) × (j < l.ticket-index) × (get_or l.tickets j 0 ≡ n);
}
