use Rattle.std.proofs.Common.{refl}
use Rattle.descriptor_lines.specs.LineStates.{line_state}
use Rattle.descriptor_lines.proofs.EndLemmas.{unread_first}
use Rattle.descriptor_lines.proofs.program.run_lines_on.Goals as goal

pub returns-clause-runs : goal.returns-clause-runs
returns-clause-runs g c = record {
  writes = λ bytes known ran. (let wrote = c.run_to_end-exit.ensures.writes bytes (unread_first c.in-Ok.lines _ bytes c.in-Ok.ensures.empty c.in-Ok.ensures.open known) in (
    line_state g.D.DescriptorDevice.ledger g.D.LineDevice.script c.new-program.result,
    line_state g.D.DescriptorDevice.ledger g.D.LineDevice.script c.run_to_end-exit.new.program,
    c.new-program.ensures.fresh,
    wrote.0,
    wrote.1,
    wrote.2,
    refl,
    refl,
  ));
  done = c.run_to_end-exit.ensures.done;
  bad_line = c.run_to_end-exit.ensures.bad_line;
  no_memory = λ is. absurd (c.run_to_end-exit.ensures.memory is);
}
