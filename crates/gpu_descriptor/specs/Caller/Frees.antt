-- What freeing sets leaves of an allocator and of the ledger, and how often it calls the device.
use Rattle.std.specs.Prelude.{◌≡◌, ℕ, ◌+◌, ◌≤◌, List, [], length, sum_by, Option, None}
use Rattle.std.specs.Iterator.{YieldsThen}
use Rattle.gpu_descriptor_types.specs.Meaning.{Meaning}
use Rattle.gpu_descriptor_types.specs.Side.{Side}
use Rattle.gpu_descriptor.specs.declared.set.DescriptorSet.{DescriptorSet}
use Rattle.gpu_descriptor.specs.Model.Agreement.{Item}
use Rattle.gpu_descriptor.specs.Caller.Comparisons.{run_digits}
use Rattle.gpu_descriptor.specs.Model.Load.{set_descriptors}
use Rattle.gpu_descriptor.specs.Model.Release.{more_released, more_destroyed, released, pools_gone}
use Rattle.gpu_descriptor.specs.Model.Promises.{AreOutBesides}
use Rattle.gpu_descriptor.specs.Model.Runs.{runs}
use Rattle.gpu_descriptor.specs.Caller.Sets.{items_of}
use Rattle.gpu_descriptor.specs.Caller.States.{state_of, keys_of, outstanding_of, marked_load_of}
use Rattle.gpu_descriptor.specs.Caller.Values.{Allocations}

-- the descriptors of the marked sets of a list
abbrev pub marked_descriptors : List Item → ℕ
marked_descriptors m = sum_by (λ t. set_descriptors t.key 1) m

module _ {L P S : Type 0} (means : Meaning L P S) where
  -- these sets are freed, in this many release calls
  pub record GivesBack (sets : List (DescriptorSet S)) (calls : ℕ) (old new : Side (Allocations P)) : Type 0 where
    -- the state is released of exactly these sets, whatever their order
    pub state : state_of means.pool_name new.value new.ledger ≡ released (items_of means.set_name sets) (state_of means.pool_name old.value old.ledger)
    -- all other counters stay
    pub counters : new.ledger.counters ≡ more_destroyed (pools_gone (keys_of old.value) (items_of means.set_name sets) (state_of means.pool_name old.value old.ledger)) (more_released calls old.ledger.counters)
    -- the number of outstanding sets falls by that of these sets
    pub outstanding : outstanding_of new.value + length sets ≡ outstanding_of old.value
    -- the marked load falls by the descriptors of the marked sets among them
    pub marked : marked_load_of new.value + marked_descriptors (items_of means.set_name sets) ≡ marked_load_of old.value
    -- exactly these were outstanding in addition to those that still are
    pub returned : AreOutBesides (items_of means.set_name sets) (state_of means.pool_name new.value new.ledger) (state_of means.pool_name old.value old.ledger)
    -- if there were none, all is as it was
    pub none : sets ≡ [] → (new.value ≡ old.value) × (new.ledger ≡ old.ledger)

  -- these sets are freed, in one release call for each run
  pub record Returns (sets : List (DescriptorSet S)) (old new : Side (Allocations P)) : Type 0 where
    -- in as many calls as the list has runs
    pub back : GivesBack sets (runs (items_of means.set_name sets)) old new
    -- the keys keep their order
    pub keys : keys_of new.value ≡ keys_of old.value
    -- no pool is looked at
    pub looks_stay : new.value.looks ≡ old.value.looks
    -- each run takes at most as many comparisons as the number of its key's open pools has binary digits, once the runs before it are freed. If the numbers of its pools then have gaps, the digits of the number of all its pools are added
    pub comparisons : new.value.comparisons ≤ old.value.comparisons + run_digits (state_of means.pool_name old.value old.ledger) (items_of means.set_name sets)
    -- the number of comparisons never falls
    pub compared : old.value.comparisons ≤ new.value.comparisons

  -- the iterator yielded sets up to its end, and these are freed
  pub record Frees {T : Type 0} (steps : T → Option (DescriptorSet S) → T → Type 0) (given left : T) (old new : Side (Allocations P)) : Type 0 where
    -- what the iterator yielded
    pub sets : List (DescriptorSet S)
    -- it yielded these, and then its end
    pub drained : YieldsThen steps given sets None left
    pub returns : Returns sets old new
