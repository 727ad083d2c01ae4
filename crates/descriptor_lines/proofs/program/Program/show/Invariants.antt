use Rattle.std.proofs.Common.{◌≡◌, ◌++◌, string_bytes}
use Rattle.descriptor_script.specs.Sessions.Session.{value_of}
use Rattle.descriptor_lines.proofs.ShownLemmas.{said_of_told}
use Rattle.descriptor_lines.proofs.program.Program.show.Given as goal

-- with what is still to be said the text has the pools of all layouts
abbrev pub invariant-loop-name : goal.invariant-loop-name
invariant-loop-name g l =
    let table = (value_of l.self.session).allocator.table in
    string_bytes l.answer ++ said_of_told table l.name-iterator ≡ string_bytes l.initial.answer ++ said_of_told table l.self.layouts.by_name.entries
