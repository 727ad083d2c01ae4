-- A request to an allocator over a device, in terms of the books.
use Rattle.std.specs.Prelude.{ℕ, List, Result, Ok, Err}
use Rattle.gpu_descriptor_types.specs.Meaning.{Meaning}
use Rattle.gpu_descriptor_types.specs.Side.{Side}
use Rattle.gpu_descriptor.specs.declared.errors.AllocationError.{AllocationError}
use Rattle.gpu_descriptor.specs.Model.Books.{Key}
use Rattle.gpu_descriptor.specs.Model.Agreement.{Item}
use Rattle.gpu_descriptor.specs.Caller.States.{marked_load_of, outstanding_of, pool_load_of, state_of}
use Rattle.gpu_descriptor.specs.Caller.Values.{Allocations}
use Rattle.gpu_descriptor.specs.Model.Outcomes.{Call}

-- what f makes of the value of a result, or the same error
abbrev pub map_ok : {A B : Type 0} → (A → B) → Result A AllocationError → Result B AllocationError
map_ok f (Ok x) = Ok (f x)
map_ok f (Err e) = Err e

module _ {L P S : Type 0} (means : Meaning L P S) where
  -- a request for count sets of a key, and what it left
  abbrev pub call_of : Key → ℕ → Side (Allocations P) → Side (Allocations P) → Result (List Item) AllocationError → Call
  call_of k count old new answer = record {
    key = k;
    count = count;
    limit = old.value.limit;
    bound = old.value.bound;
    out = outstanding_of old.value;
    load = marked_load_of old.value;
    pooled = pool_load_of old.value;
    old = state_of means.pool_name old.value old.ledger;
    new = state_of means.pool_name new.value new.ledger;
    before = old.ledger.counters;
    after = new.ledger.counters;
    answer = answer;
  }

  -- the key of a layout
  abbrev pub layout_key : L → Key
  layout_key layout = record { counts = means.counts layout; marked = means.mark layout }
