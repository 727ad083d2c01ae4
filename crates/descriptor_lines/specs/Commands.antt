-- What the parser knows of the command of a line.
use Rattle.std.specs.Prelude.{◌≡◌, ℕ, None, length}
use Rattle.descriptor_lines.specs.LayoutTables.{layout_named}
use Rattle.descriptor_lines.specs.declared.command.Command.{Command}
use Rattle.descriptor_lines.specs.declared.command.Command.TheVariants.{Limit, Layout}
use Rattle.descriptor_lines.specs.declared.layouts.LayoutTable.{LayoutTable}

-- the greatest number of sets that a line asks for
abbrev pub max_sets : ℕ
max_sets = 1000000

-- the command can be run with these layouts
abbrev pub IsRunnable : LayoutTable → Command → Type 0
IsRunnable layouts (Limit max) = length layouts.by_name.entries ≡ 0
IsRunnable layouts (Layout name layout) = layout_named layouts name.now ≡ None
IsRunnable layouts _ = Unit {0}
