-- Sessions that are ready: for `Program::new`, `add_layout` and `set_limit`.
use Rattle.std.proofs.lemmas.Grind.{common_steps}
use Rattle.std.proofs.Common.{All, ◌≡◌, ℕ, List, [], length, refl, sym, ap, ◌∙◌, arith}
use Rattle.std.proofs.lemmas.List.{length-map, nil_from_length}
use Rattle.gpu_descriptor_types.specs.Ledger.{Ledger}
use Rattle.gpu_descriptor.specs.Caller.SetLayouts.{IsMeant}
use Rattle.gpu_descriptor.specs.declared.layout.SetLayout.{SetLayout}
use Rattle.descriptor_script.specs.declared.raw.ScriptLayout.{ScriptLayout}
use Rattle.gpu_descriptor.proofs.callers.NewAllocators.{new_agrees}
use Rattle.gpu_descriptor.proofs.release.Places.{none_out}
use Rattle.descriptor_script.specs.Scripted.Raw.{script_meaning}
use Rattle.descriptor_script.specs.Sessions.Session.{IsReady, new_session}
use Rattle.descriptor_lines.specs.LayoutTables.{layouts_in}
use Rattle.descriptor_lines.specs.Replies.{LineSession}
use Rattle.descriptor_lines.specs.declared.layouts.LayoutTable.{LayoutTable}
use Rattle.gpu_descriptor_types.specs.Side.{side}

-- a new session can make a step on any device
pub new_is_ready : (l : Ledger) (max : ℕ) → IsReady script_meaning (side (new_session max) l)
new_is_ready l max = grind (arith, common_steps, new_agrees, none_out)

-- and so can one that was ready, with other layouts that are as the device means them
pub same_is_ready : (s : LineSession) (layouts : List (SetLayout ScriptLayout)) (l : Ledger) → IsReady script_meaning (side s l) → All (IsMeant script_meaning) layouts → IsReady script_meaning (side (record s { layouts = layouts }) l)
same_is_ready s layouts l ready meant = record { agree = ready.agree; held = ready.held; meant = meant }

-- no layout is in a table of none
pub none_in : (layouts : LayoutTable) → length layouts.by_name.entries ≡ 0 → layouts_in layouts ≡ []
none_in layouts none = rw (nil_from_length layouts.by_name.entries none) refl

pub none_counted : (layouts : LayoutTable) → layouts_in layouts ≡ [] → length layouts.by_name.entries ≡ 0
none_counted layouts none = sym (length-map layouts.by_name.entries _) ∙ ap length none
