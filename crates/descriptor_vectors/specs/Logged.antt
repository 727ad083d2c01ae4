-- What a logging device owes, the calls that it listed, and its next name.
use Rattle.std.specs.Prelude.{◌≡◌, ℕ, zero, suc, List, [], ◌∷◌, ◌++◌, length, Option, None}
use Rattle.std.specs.Iterator.{YieldsThen}
use Rattle.gpu_descriptor_types.specs.Ledger.{Ledger}
use Rattle.descriptor_script.specs.Scripted.Device.{empty_ledger, ledger_of, names_given}
use Rattle.descriptor_vectors.specs.declared.log.Call.{Call}
use Rattle.descriptor_vectors.specs.declared.log.Call.TheVariants.{Release}
use Rattle.descriptor_vectors.specs.declared.log_device.LogDevice.{LogDevice}

-- the ledger of the scripted device in it
abbrev pub ledger_logged : LogDevice → Ledger
ledger_logged d = ledger_of d.device

-- the name of the pool that is created next
abbrev pub next_pool : LogDevice → ℕ
next_pool d = (names_given d.device).pools

-- the calls in their order
abbrev pub calls_of : LogDevice → List Call
calls_of d = d.log.calls.items

-- a new device: no pool, no call, and names begin at 0
pub record IsNewLogDevice (d : LogDevice) : Type 0 where
  pub ledger : ledger_logged d ≡ empty_ledger
  pub calls : calls_of d ≡ []
  pub named : next_pool d ≡ 0

-- a release of no set is not listed
abbrev pub release_of : ℕ → ℕ → List Call
release_of pool zero = []
release_of pool (suc n) = Release pool (suc n) ∷ []

-- the iterator gave its items, up to its end, and their number is listed
pub record ListsRelease {I S : Type 0} (steps : I → Option S → I → Type 0) (pool : ℕ) (old new : I) (before after : List Call) : Type 0 where
  pub items : List S
  pub drained : YieldsThen steps old items None new
  pub calls : after ≡ before ++ release_of pool (length items)
