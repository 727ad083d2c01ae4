-- What a call begins with, and what it leaves.
use Rattle.gpu_descriptor_types.specs.Ledger.{Ledger}

-- a value, and the ledger of the device with which its calls are made
pub record Side (X : Type 0) : Type 0 where
  pub value : X
  pub ledger : Ledger

-- a value and a ledger, as a side
abbrev pub side : {X : Type 0} → X → Ledger → Side X
side value ledger = record { value = value; ledger = ledger }
