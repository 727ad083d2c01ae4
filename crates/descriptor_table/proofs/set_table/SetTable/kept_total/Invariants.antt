use Rattle.descriptor_table.proofs.Common.{◌≡◌, count, slots_of}
use Rattle.descriptor_table.proofs.Totals.{kept_before}
use Rattle.descriptor_table.proofs.set_table.SetTable.kept_total.Given as goal

-- the kept sets of the layouts before this one
abbrev pub invariant-loop-layout : goal.invariant-loop-layout
invariant-loop-layout g l = l.total ≡ count (kept_before l.layout) (slots_of l.self)
