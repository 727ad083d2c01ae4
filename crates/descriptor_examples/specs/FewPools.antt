-- A device around the scripted one: what it owes.
use Rattle.std.specs.Prelude.{ℕ}
use Rattle.gpu_descriptor_types.specs.Ledger.{Ledger}
use Rattle.descriptor_script.specs.Scripted.Device.{ledger_of}
use Rattle.descriptor_examples.specs.declared.few_pools.FewPools.{FewPools}

-- the ledger of the scripted device in it
abbrev pub few_ledger : {MAX : ℕ} → FewPools MAX → Ledger
few_ledger d = ledger_of d.device
