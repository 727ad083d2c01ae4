-- What a session is, and what it keeps.
use Rattle.std.specs.Prelude.{◌≡◌, ℕ, [], All, List, length, Option}
use Rattle.gpu_descriptor.specs.Model.Agreement.{HasNoGaps, Item, State, count_of, outstanding}
use Rattle.gpu_descriptor_types.specs.Meaning.{Meaning}
use Rattle.gpu_descriptor_types.specs.Side.{Side, side}
use Rattle.gpu_descriptor.specs.Caller.Keeps.{Keeps}
use Rattle.gpu_descriptor.specs.Caller.States.{Agrees, outstanding_of, state_of}
use Rattle.gpu_descriptor.specs.Caller.SetLayouts.{IsMeant}
use Rattle.gpu_descriptor.specs.Caller.Sets.{items_of}
use Rattle.gpu_descriptor.specs.Caller.Values.{Allocations, all_ids, without_keys}
use Rattle.gpu_descriptor.specs.declared.layout.SetLayout.{SetLayout}
use Rattle.gpu_descriptor.specs.declared.set.DescriptorSet.{DescriptorSet}
use Rattle.descriptor_script.specs.Sessions.Tickets.{held_sets}
use Rattle.descriptor_script.specs.declared.session.Session.{Session}

-- what callers see of a session
pub record SessionValue (L P S : Type 0) : Type 0 where
  pub allocator : Allocations P
  -- which commands name by their places
  pub layouts : List (SetLayout L)
  -- a slot for each ticket that was given, with its set if that is held. The next ticket is their number
  pub sets : List (Option (DescriptorSet S))

abbrev pub value_of : {L P S : Type 0} → Session L P S → SessionValue L P S
value_of s = record { allocator = s.allocator; layouts = s.layouts.items; sets = s.slots.sets.items }

-- a session without layouts and sets, whose allocator has this limit
abbrev pub new_session : {L P S : Type 0} → ℕ → SessionValue L P S
new_session max = record { allocator = without_keys max all_ids; layouts = []; sets = [] }

-- its allocator, and the ledger of the device
abbrev pub allocator_on : {L P S : Type 0} → Side (SessionValue L P S) → Side (Allocations P)
allocator_on s = side s.value.allocator s.ledger

-- the held sets are exactly the outstanding sets
abbrev pub AreAllHeld : {S : Type 0} → (S → ℕ) → List (Option (DescriptorSet S)) → State → Type 0
AreAllHeld name slots s = (t : Item) → outstanding s t ≡ count_of t (items_of name (held_sets slots))

module _ {L P S : Type 0} (means : Meaning L P S) where
  -- the books of the allocator, and the ledger
  abbrev pub state_on : Side (SessionValue L P S) → State
  state_on s = state_of means.pool_name s.value.allocator s.ledger

  -- the next command may be run
  pub record IsReady (s : Side (SessionValue L P S)) : Type 0 where
    -- books and ledger agree
    pub agree : Agrees means.pool_name s.value.allocator s.ledger
    -- the held sets are exactly the outstanding ones. This is no ghost field, since it is read off the ledger, and a session keeps no device
    pub held : AreAllHeld means.set_name s.value.sets (state_on s)
    -- the layouts have the counts and the marks that the device gives to them
    pub meant : All (IsMeant means) s.value.layouts

  -- what every command keeps
  pub record KeepsSession (old new : Side (SessionValue L P S)) : Type 0 where
    -- the next command may be run
    pub ready : IsReady new
    -- what every call of the allocator keeps
    pub allocator : Keeps means (allocator_on old) (allocator_on new)
    -- the layouts stay
    pub layouts : new.value.layouts ≡ old.value.layouts
    -- the allocator counts as many sets as are held
    pub count : length (held_sets new.value.sets) ≡ outstanding_of new.value.allocator
    -- the numbers of a key's pools get no gaps, as a session never trims
    pub no_gaps : HasNoGaps (state_on old) → HasNoGaps (state_on new)
