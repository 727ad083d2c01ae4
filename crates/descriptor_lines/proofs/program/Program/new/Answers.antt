use Rattle.std.proofs.Common.{rules}
use Rattle.descriptor_lines.proofs.SessionLemmas.{new_is_ready, none_counted}
use Rattle.descriptor_lines.proofs.program.Program.new.Goals as goal

pub returns-clause-ready : goal.returns-clause-ready
returns-clause-ready g c = search (rules, new_is_ready, none_counted)
