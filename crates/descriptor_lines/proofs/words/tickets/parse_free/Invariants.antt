use Rattle.std.proofs.Common.{◌≡◌, ◌≤◌, vec_len}
use Rattle.descriptor_lines.specs.Tickets.{joined, max_tickets, tickets_in, tickets_of}
use Rattle.descriptor_lines.specs.Fault.{◌>>=◌}
use Rattle.descriptor_lines.specs.Words.{in_turn, words_left}
use Rattle.descriptor_lines.proofs.words.tickets.parse_free.Given as goal

abbrev pub invariant-loop-word : goal.invariant-loop-word
invariant-loop-word l = record {
  rest : tickets_in (words_left l.fn.words) ≡ in_turn (λ tickets word. tickets_of word >>= joined tickets) l.tickets.items (words_left l.word-iterator);
  few : vec_len l.tickets ≤ max_tickets;
}
