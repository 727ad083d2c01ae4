-- What the lines so far made, as a run goes on from it.
use Rattle.std.specs.Prelude.{Bool, List}
use Rattle.gpu_descriptor_types.specs.Ledger.{Ledger}
use Rattle.gpu_descriptor_types.specs.Side.{Side, side}
use Rattle.descriptor_script.specs.declared.answer.Answer.{Answer}
use Rattle.descriptor_script.specs.Sessions.Session.{value_of}
use Rattle.descriptor_lines.specs.Replies.{LineSession}
use Rattle.descriptor_lines.specs.declared.layouts.LayoutTable.{LayoutTable}
use Rattle.descriptor_lines.specs.declared.program.Program.{Program}

-- a state between two lines
pub record LineState : Type 0 where
  pub layouts : LayoutTable
  -- the session, and what the device owes
  pub session : Side LineSession
  -- the words that the device has still to read
  pub script : List Answer
  -- whether a line had a command
  pub has_begun : Bool

-- what the lines of a program made, whose device has this ledger and this script
abbrev pub line_state : {D : Type 0} → (D → Ledger) → (D → List Answer) → Program D → LineState
line_state ledger_of script_of p = record {
  layouts = p.layouts;
  session = side (value_of p.session) (ledger_of p.device);
  script = script_of p.device;
  has_begun = p.has_begun;
}
