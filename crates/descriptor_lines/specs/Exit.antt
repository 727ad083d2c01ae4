-- The exit codes of the program.
use Rattle.std.specs.Prelude.{ℕ}
use Rattle.descriptor_lines.specs.declared.exit.Exit.{Exit}
use Rattle.descriptor_lines.specs.declared.exit.Exit.TheVariants.{Done, BadLine, ReadFault, WriteFault, NoMemory}

-- the exit code that a program ends with
abbrev pub code_of : Exit → ℕ
code_of Done = 0
code_of BadLine = 2
code_of ReadFault = 3
code_of WriteFault = 4
code_of NoMemory = 5
