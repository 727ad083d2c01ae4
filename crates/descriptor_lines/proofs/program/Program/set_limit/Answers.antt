use Rattle.std.proofs.Common.{rules}
use Rattle.descriptor_lines.proofs.SessionLemmas.{new_is_ready, none_in}
use Rattle.descriptor_lines.proofs.program.Program.set_limit.Goals as goal

pub returns : goal.returns
returns g c = search (rules, new_is_ready, none_in)
