use Rattle.std.proofs.Common.{◌≡◌, ◌+◌, ◌-◌, ◌*◌, ◌^◌, ◌<◌, ◌≤◌, ◌++◌, length, replicate}
use Rattle.std.specs.String.{string_bytes, string_capacity}
use Rattle.descriptor_script.specs.Sessions.Session.{value_of}
use Rattle.descriptor_lines.specs.ReplyTexts.{pools_from, stretches_text}
use Rattle.descriptor_lines.proofs.answer.reply.stretches_answer.Given as goal

-- the text lacks the stretch so far and those of the tickets that are left, and has memory for them
abbrev pub invariant-loop-ticket : goal.invariant-loop-ticket
invariant-loop-ticket l = record {
  some : 0 < l.stretch.length;
  named : l.stretch.pool < 2 ^ 64;
  short : l.stretch.length + l.fn.first ≤ l.ticket;
  said : string_bytes l.answer ++ stretches_text (replicate l.stretch.length l.stretch.pool ++ pools_from (value_of l.session).sets l.ticket (l.fn.first + l.fn.count - l.ticket)) ≡ string_bytes l.initial.answer ++ stretches_text (pools_from (value_of l.session).sets l.fn.first l.fn.count);
  few : length (string_bytes l.answer) + 23 * (l.stretch.length + l.fn.first) ≤ length (string_bytes l.initial.answer) + 23 * l.ticket;
  reserve : string_capacity l.initial.answer ≤ string_capacity l.answer;
}
