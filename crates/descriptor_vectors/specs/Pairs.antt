-- Sessions that can make a step on a device, alone and two on one device.
use Rattle.std.specs.Prelude.{◌≡◌, ◌≢◌, ℕ, All, [], slice_get, Some}
use Rattle.std.proofs.Props.{props}
use Rattle.gpu_descriptor.proofs.callers.OneAgreement.{Agrees-prop}
use Rattle.gpu_descriptor_types.specs.Ledger.{Ledger}
use Rattle.gpu_descriptor.specs.Caller.Values.{all_ids, without_keys}
use Rattle.gpu_descriptor.specs.Model.Agreement.{State}
use Rattle.gpu_descriptor.specs.Model.Books.{Key, Entry}
use Rattle.gpu_descriptor.specs.Caller.SetLayouts.{IsMeant}
use Rattle.descriptor_script.specs.Scripted.Raw.{script_meaning}
use Rattle.descriptor_script.specs.Sessions.Session.{IsReady, SessionValue, state_on}
use Rattle.descriptor_script.specs.declared.raw.RawPool.{RawPool}
use Rattle.descriptor_script.specs.declared.raw.RawSet.{RawSet}
use Rattle.descriptor_script.specs.declared.raw.ScriptLayout.{ScriptLayout}
use Rattle.gpu_descriptor_types.specs.Side.{side}

-- no key came, and no set is held
pub record IsNewSession (s : SessionValue ScriptLayout RawPool RawSet) : Type 0 where
  pub limit : ℕ
  pub allocator : s.allocator ≡ without_keys limit all_ids
  pub sets : s.sets ≡ []
  pub meant : All (IsMeant script_meaning) s.layouts

-- no pool of the device is in both books
abbrev pub AreApart : State → State → Type 0
AreApart s t = (k l : Key) (i j : ℕ) (d e : Entry) → slice_get (s.books k).pools i ≡ Some d → slice_get (t.books l).pools j ≡ Some e → d.pool ≢ e.pool

-- each of two sessions on one device can make a step
pub record ArePaired (x y : SessionValue ScriptLayout RawPool RawSet) (l : Ledger) : Type 0 where
  pub one : IsReady script_meaning (side x l)
  pub other : IsReady script_meaning (side y l)
  pub apart : AreApart (state_on script_meaning (side x l)) (state_on script_meaning (side y l))

-- that two sessions are paired has one proof at most, so a struct can keep it as a ghost field
pub paired-prop : (x y : SessionValue ScriptLayout RawPool RawSet) (l : Ledger) → IsProp (ArePaired x y l)
paired-prop x y l = Prim.hlevel (Agrees-prop, props)
