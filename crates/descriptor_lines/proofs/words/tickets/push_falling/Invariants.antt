use Rattle.std.proofs.Common.{◌≡◌, ◌+◌, ◌-◌, ◌≤◌, ◌++◌, reverse, vec_len, vec_capacity}
use Rattle.std.specs.List.{range_with_len}
use Rattle.descriptor_lines.proofs.words.tickets.push_falling.Given as goal

abbrev pub invariant-loop-step : goal.invariant-loop-step
invariant-loop-step l = record {
  items : l.tickets.items ≡ l.initial.tickets.items ++ reverse (range_with_len (l.first + 1 - l.step) l.step);
  filled : vec_len l.tickets ≡ vec_len l.initial.tickets + l.step;
  reserve : vec_len l.initial.tickets + l.count ≤ vec_capacity l.tickets;
}
