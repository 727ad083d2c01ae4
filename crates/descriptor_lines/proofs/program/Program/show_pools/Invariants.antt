use Rattle.std.proofs.Common.{◌≡◌, ◌++◌, string_bytes}
use Rattle.descriptor_script.specs.Sessions.Session.{value_of}
use Rattle.descriptor_lines.proofs.ShownLemmas.{pools_so_far}
use Rattle.descriptor_lines.proofs.program.Program.show_pools.Given as goal

-- the pools before the next one are said
abbrev pub invariant-loop-index : goal.invariant-loop-index
invariant-loop-index g l =
    string_bytes l.answer ≡ string_bytes l.initial.answer ++ pools_so_far l.index (value_of l.self.session).allocator.table (l.name, l.layout)
