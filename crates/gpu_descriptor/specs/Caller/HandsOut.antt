-- What a request for sets leaves of an allocator, of the ledger, and of the list to which its sets are appended.
use Rattle.gpu_descriptor.specs.Model.Grants.{granted, items_in}
use Rattle.std.specs.Prelude.{◌≡◌, ℕ, ◌+◌, ◌<◌, ◌≤◌, ◌++◌, List, length, IfOk, IfErr, MatchOption, None, OnOk, OnErr, Result, if◌then◌else◌, is_some}
use Rattle.gpu_descriptor_types.specs.Meaning.{Meaning}
use Rattle.gpu_descriptor_types.specs.Side.{Side}
use Rattle.gpu_descriptor.specs.declared.errors.AllocationError.{AllocationError}
use Rattle.gpu_descriptor.specs.declared.set.DescriptorSet.{DescriptorSet}
use Rattle.gpu_descriptor.specs.Model.Agreement.{Item, count_of}
use Rattle.gpu_descriptor.specs.Model.Books.{Key}
use Rattle.gpu_descriptor.specs.Model.Load.{set_descriptors}
use Rattle.gpu_descriptor.specs.Model.Outcomes.{Allocates, taken_by}
use Rattle.gpu_descriptor.specs.Model.Promises.{AreOfKey, AreOutBesides, CreatesOnlyWhereShort, KeepsOtherKeys, KeepsOutstanding}
use Rattle.gpu_descriptor.specs.Caller.Call.{call_of, layout_key, map_ok}
use Rattle.gpu_descriptor.specs.Caller.Causes.{HasCause}
use Rattle.gpu_descriptor.specs.Caller.Comparisons.{run_digits}
use Rattle.gpu_descriptor.specs.Caller.Keys.{with_key}
use Rattle.gpu_descriptor.specs.Caller.SetLists.{appended}
use Rattle.gpu_descriptor.specs.Caller.Sets.{AreOfLayout, items_of}
use Rattle.gpu_descriptor.specs.Caller.States.{keys_of, marked_load_of, outstanding_of, state_of}
use Rattle.gpu_descriptor.specs.Caller.Values.{Allocations, IsIdOf}

-- the sets of a list have ids of this range
abbrev pub HaveIdsOf : ℕ × ℕ → List Item → Type 0
HaveIdsOf ids items = (t : Item) → 0 < count_of t items → IsIdOf ids t.id

-- a request for count sets of a key returned
pub record HandsOut {L P S : Type 0} (means : Meaning L P S) (k : Key) (count : ℕ) (answer : Result (List (DescriptorSet S)) AllocationError) (old new : Side (Allocations P)) : Type 0 where
  -- which of its outcomes the request had; all other fields follow from this
  pub outcome : Allocates (call_of means k count old new (map_ok (items_of means.set_name) answer))
  -- as many sets as were requested
  pub many : IfOk answer (λ sets. length sets ≡ count)
  -- exactly the sets of the result are outstanding in addition to those before
  pub given : IfOk answer (λ sets. AreOutBesides (items_of means.set_name sets) (state_of means.pool_name old.value old.ledger) (state_of means.pool_name new.value new.ledger))
  -- each has the counts and the mark of the layout
  pub of_key : IfOk answer (λ sets. AreOfKey k (items_of means.set_name sets))
  -- and an id of the allocator's range
  pub ids : IfOk answer (λ sets. HaveIdsOf old.value.ids (items_of means.set_name sets))
  -- the number of outstanding sets and the marked load rise by what was allocated
  pub totals : IfOk answer (λ sets. (outstanding_of new.value ≡ outstanding_of old.value + count) × (marked_load_of new.value ≡ marked_load_of old.value + set_descriptors k count))
  -- a failed request frees what it took
  pub totals_stay : OnErr answer ((outstanding_of new.value ≡ outstanding_of old.value) × (marked_load_of new.value ≡ marked_load_of old.value))
  -- the same sets are outstanding as before
  pub back : OnErr answer (KeepsOutstanding (state_of means.pool_name old.value old.ledger) (state_of means.pool_name new.value new.ledger))
  -- the error has one of its causes
  pub cause : IfErr answer (HasCause means k count old new)
  -- a new pool is created only if the key's existing pools fall short, and their number is bounded
  pub creates : CreatesOnlyWhereShort outcome
  -- the pools of other keys are untouched, in the books and on the device
  pub other_keys : KeepsOtherKeys k (state_of means.pool_name old.value old.ledger) (state_of means.pool_name new.value new.ledger)
  -- a request that reached the walk has its key in the table, even if it stopped; any other leaves the keys
  pub keys : keys_of new.value ≡ (if is_some (taken_by outcome) then with_key k (keys_of old.value) else keys_of old.value)
  -- each call that asks a pool is a look
  pub looks : new.value.looks + old.ledger.counters.asked ≡ old.value.looks + new.ledger.counters.asked
  -- a request that ended before the walk changes nothing, and so does one for no sets
  pub declined : taken_by outcome ≡ None → (new.value ≡ old.value) × (new.ledger ≡ old.ledger)
  -- a rollback compares no more than a release of its sets does; no other request compares
  pub searches : OnErr answer (MatchOption (taken_by outcome) (new.value.comparisons ≡ old.value.comparisons) (λ g. new.value.comparisons ≤ old.value.comparisons + run_digits (granted k count g (state_of means.pool_name old.value old.ledger)) (items_in k g.id g.parts)))
  -- a request that succeeded compares nothing
  pub comparisons_stay : OnOk answer (new.value.comparisons ≡ old.value.comparisons)
  -- the number of comparisons never falls
  pub compared : old.value.comparisons ≤ new.value.comparisons

-- a request for count sets of a layout appended them to a list
pub record HandsInto {L P S : Type 0} (means : Meaning L P S) (layout : L) (count : ℕ) (answer : Result (Unit {0}) AllocationError) (had has : List (DescriptorSet S)) (old new : Side (Allocations P)) : Type 0 where
  -- what a request leaves of the allocator and the ledger, with the appended sets as its result
  pub hands_out : HandsOut means (layout_key means layout) count (map_ok (λ done. appended had has) answer) old new
  -- what was in the list stays, in front
  pub front : OnOk answer (has ≡ had ++ appended had has)
  -- the appended sets were made with the layout
  pub own : OnOk answer (AreOfLayout means layout (appended had has))
  -- a failed request leaves the list
  pub sets_stay : OnErr answer (has ≡ had)
