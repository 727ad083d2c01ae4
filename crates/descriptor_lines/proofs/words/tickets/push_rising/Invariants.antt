use Rattle.std.proofs.Common.{◌≡◌, ◌+◌, ◌≤◌, ◌++◌, vec_len, vec_capacity}
use Rattle.std.specs.List.{range_with_len}
use Rattle.descriptor_lines.proofs.words.tickets.push_rising.Given as goal

abbrev pub invariant-loop-step : goal.invariant-loop-step
invariant-loop-step l = record {
  items : l.tickets.items ≡ l.initial.tickets.items ++ range_with_len l.first l.step;
  filled : vec_len l.tickets ≡ vec_len l.initial.tickets + l.step;
  reserve : vec_len l.initial.tickets + l.count ≤ vec_capacity l.tickets;
}
