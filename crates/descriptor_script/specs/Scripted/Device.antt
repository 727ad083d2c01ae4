-- What a scripted device owes, and what it is to return.
use Rattle.std.specs.Prelude.{◌≡◌, drop, List, None, Result, OnOk, IfErr}
use Rattle.std.specs.Vec.Iter.{into_iter_items}
use Rattle.gpu_descriptor_types.specs.Ledger.{Ledger, no_rise}
use Rattle.descriptor_script.specs.Inner.Counters.{counters_of}
use Rattle.descriptor_script.specs.Inner.Pools.{next_names, owed}
use Rattle.descriptor_script.specs.Scripted.Raw.{Names}
use Rattle.descriptor_script.specs.Scripted.Script.{next_word}
use Rattle.descriptor_script.specs.declared.answer.Answer.{Answer}
use Rattle.descriptor_script.specs.declared.answer.Answer.TheVariants.{Ok}
use Rattle.descriptor_script.specs.declared.device.ScriptedDevice.{ScriptedDevice}

-- the ledger of a device: its pools and its counters
abbrev pub ledger_of : ScriptedDevice → Ledger
ledger_of d = owed d.pools (counters_of d.counters)

-- the words that are still to be read
abbrev pub script_of : ScriptedDevice → List Answer
script_of d = into_iter_items d.script.words

-- how many names were given to pools and to sets
abbrev pub names_given : ScriptedDevice → Names
names_given d = next_names d.pools

-- no pool, and nothing done
abbrev pub empty_ledger : Ledger
empty_ledger = record { pools = λ _. None; counters = no_rise }

-- a new device: no pool, this script, and these names come next
pub record IsNewDevice (script : List Answer) (names : Names) (d : ScriptedDevice) : Type 0 where
  pub ledger : ledger_of d ≡ empty_ledger
  pub script_is : script_of d ≡ script
  pub names_are : names_given d ≡ names

-- one word is read: a granted call read Ok, and a refused one returns the error of its word, which at Ok is that of memory or names
pub record ReadsWord {R E : Type 0} (error_of : Answer → E) (result : Result R E) (old new : ScriptedDevice) : Type 0 where
  pub rest : script_of new ≡ drop 1 (script_of old)
  pub granted : OnOk result (next_word (script_of old) ≡ Ok)
  pub refused : IfErr result (λ e. e ≡ error_of (next_word (script_of old)))

-- no word is read, and no name is given
pub record ReadsNone (old new : ScriptedDevice) : Type 0 where
  pub script : script_of new ≡ script_of old
  pub names : names_given new ≡ names_given old
