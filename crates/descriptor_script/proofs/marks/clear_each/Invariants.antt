use Rattle.std.proofs.Common.{◌≡◌, ℕ, ◌<◌, ◌≤◌, true, false, length, get_or}
use Rattle.descriptor_script.proofs.marks.clear_each.Given as goal

-- what is still marked are tickets to come
abbrev pub invariant-loop-ticket : goal.invariant-loop-ticket
invariant-loop-ticket l = (n : ℕ) → get_or l.marks n false ≡ true → (j : ℕ) × (l.ticket-index ≤ j) × (j < length l.tickets) × (get_or l.tickets j 0 ≡ n)
