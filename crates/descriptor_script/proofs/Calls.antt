-- What a call leaves of the ledger, from what it leaves of the pools and the counters: for `ScriptedDevice::alloc_descriptor_sets`.
use Rattle.std.proofs.lemmas.Grind.{common_steps}
use Rattle.std.proofs.Common.{◌≡◌, ℕ, ◌+◌, ◌++◌, map, ap, ◌∙◌, arith}
use Rattle.std.proofs.lemmas.List.FromFn.{length-map-range_with_len}
use Rattle.gpu_descriptor_types.specs.Counts.{kinds}
use Rattle.gpu_descriptor_types.specs.Ledger.{Ledger, Sink, Puts, PutsNone, live_sets, on_pool, alloc_refused, pool_refusals}
use Rattle.gpu_descriptor_types.specs.Multiset.{times}
use Rattle.gpu_descriptor_types.specs.declared.errors.DeviceAllocationError.{DeviceAllocationError}
use Rattle.descriptor_script.specs.Inner.Table.{pools_in}
use Rattle.descriptor_script.specs.Inner.Counters.{counters_of}
use Rattle.descriptor_script.specs.Scripted.Device.{ledger_of}
use Rattle.descriptor_script.specs.Inner.Pools.{next_names}
use Rattle.descriptor_script.specs.Scripted.Raw.{raw_sets, script_meaning, set_id}
use Rattle.descriptor_script.specs.declared.device.ScriptedDevice.{ScriptedDevice}
use Rattle.descriptor_script.specs.declared.raw.RawSet.{RawSet}
use Rattle.descriptor_script.specs.declared.raw.ScriptLayout.{ScriptLayout}

-- a ledger is its pools and its counters
pub same_ledger : (a b : Ledger) → a.pools ≡ b.pools → a.counters ≡ b.counters → a ≡ b
same_ledger a b pools counters = λ i. record { pools = pools i; counters = counters i }

module _ {K X : Type 0} (sink : Sink K RawSet X) (before after : K) where
  -- pools that grant, and a call counted as asked
  pub puts : (old new : ScriptedDevice) (layout : ScriptLayout) (name many : ℕ) → sink.kept after ≡ sink.kept before ++ map (sink.kept_as before) (raw_sets name (next_names old.pools).sets many) → sink.kept_as after ≡ sink.kept_as before → sink.room after + many ≡ sink.room before
      → pools_in new.pools.live ≡ on_pool name (λ pool. record pool { live = λ x. pool.live x + times (live_sets (kinds layout.counts) (map set_id (raw_sets name (next_names old.pools).sets many))) x }) (pools_in old.pools.live)
      → counters_of new.counters ≡ record (counters_of old.counters) { asked = (counters_of old.counters).asked + 1 } → Puts sink script_meaning layout name many before after (ledger_of old) (ledger_of new)
  puts old new layout name many kept alike room pools asked = grind (arith, common_steps, length-map-range_with_len, same_ledger)

  -- nothing was done but a word read
  pub record IsUntouched (old new : ScriptedDevice) : Type 0 where
    pub pools : pools_in new.pools.live ≡ pools_in old.pools.live
    pub counters : counters_of new.counters ≡ counters_of old.counters
    pub same_sink : after ≡ before

  -- a refusal that is counted
  pub puts_none : (old middle new : ScriptedDevice) (name : ℕ) (e : DeviceAllocationError) → IsUntouched old middle
      → counters_of new.counters ≡ alloc_refused e (counters_of middle.counters) → pools_in new.pools.live ≡ on_pool name (λ p. record p { refusals = p.refusals + pool_refusals e }) (pools_in middle.pools.live)
      → PutsNone sink name e before after (ledger_of old) (ledger_of new)
  puts_none old middle new name e untouched counted refused = record {
    kept = ap sink.kept untouched.same_sink;
    alike = ap sink.kept_as untouched.same_sink;
    room = ap sink.room untouched.same_sink;
    ledger = same_ledger _ _ (refused ∙ ap (on_pool name (λ p. record p { refusals = p.refusals + pool_refusals e })) untouched.pools) (counted ∙ ap (alloc_refused e) untouched.counters);
  }
