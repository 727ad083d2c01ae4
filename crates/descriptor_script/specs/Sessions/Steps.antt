-- What a command does to a session, and what it replies.
use Rattle.std.specs.Prelude.{◌≡◌, ℕ, ◌<◌, ◌≤◌, List, ◌++◌, length, map, slice_get, false, Some, Result, Ok, Err}
use Rattle.gpu_descriptor_types.specs.Meaning.{Meaning}
use Rattle.gpu_descriptor_types.specs.Side.{Side}
use Rattle.gpu_descriptor.specs.Caller.CleansUp.{Sweeps}
use Rattle.gpu_descriptor.specs.Caller.Frees.{Returns, marked_descriptors}
use Rattle.gpu_descriptor.specs.Model.Agreement.{Item}
use Rattle.gpu_descriptor.specs.Model.Outcomes.{Allocates, Call}
use Rattle.gpu_descriptor.specs.Caller.Call.{call_of, layout_key}
use Rattle.gpu_descriptor.specs.Caller.Causes.{IsBecause}
use Rattle.gpu_descriptor.specs.Caller.Sets.{AreOfLayout, items_of}
use Rattle.gpu_descriptor.specs.declared.errors.AllocationError.{AllocationError}
use Rattle.gpu_descriptor.specs.declared.layout.SetLayout.{SetLayout}
use Rattle.gpu_descriptor.specs.declared.set.DescriptorSet.{DescriptorSet}
use Rattle.descriptor_script.specs.Sessions.Session.{allocator_on, SessionValue}
use Rattle.descriptor_script.specs.Sessions.Tickets.{AreHeldOnce, emptied, held_sets, set_at}
use Rattle.descriptor_script.specs.declared.command.Command.{Command}
use Rattle.descriptor_script.specs.declared.command.Command.TheVariants.{Allocate, Free, Cleanup}
use Rattle.descriptor_script.specs.declared.command.Reply.{Reply}
use Rattle.descriptor_script.specs.declared.command.Reply.TheVariants.{Sets, Refused, Freed, BadTicket, BadLayout, NoMemory, Clean}

-- the reply of a command that was turned away before the device was asked
abbrev pub IsTurnedAway : Reply → Type 0
IsTurnedAway BadTicket = Unit {0}
IsTurnedAway BadLayout = Unit {0}
IsTurnedAway NoMemory = Unit {0}
IsTurnedAway _ = ⊥

-- what may be said of a command, its reply, and the session before it and after it
abbrev pub OfStep : (L P S : Type 0) → Type 1
OfStep L P S = Command → Reply → Side (SessionValue L P S) → Side (SessionValue L P S) → Type 0

module _ {L P S : Type 0} (means : Meaning L P S) where
  -- the sets that are held, as the books see them
  abbrev pub held_items : Side (SessionValue L P S) → List Item
  held_items s = items_of means.set_name (held_sets s.value.sets)

  module _ (layout count : ℕ) (old new : Side (SessionValue L P S)) where
    -- the session's request to its allocator, and what it left
    abbrev pub request_of : SetLayout L → Result (List Item) AllocationError → Call
    request_of known answer = call_of means (layout_key means known.layout) count (allocator_on old) (allocator_on new) answer

    -- a request was met: its sets are held under the next tickets
    pub record IsMet (first many : ℕ) : Type 0 where
      pub known : SetLayout L
      -- the layout at the command's place
      pub at : slice_get old.value.layouts layout ≡ Some known
      pub given : List (DescriptorSet S)
      -- as many sets as were asked for
      pub asked : many ≡ count
      pub all_given : length given ≡ count
      -- each is of the layout
      pub own : AreOfLayout means known.layout given
      -- they are in the next slots, in their order
      pub next : first ≡ length old.value.sets
      pub sets : new.value.sets ≡ old.value.sets ++ map Some given

    -- a request was refused: the same sets are held
    pub record IsRefused (error : AllocationError) : Type 0 where
      pub known : SetLayout L
      pub at : slice_get old.value.layouts layout ≡ Some known
      -- the error has one of its causes. The number of outstanding sets before, and that of the descriptors of marked ones, is read from the held sets
      pub cause : IsBecause means (layout_key means known.layout) count (length (held_items old)) (marked_descriptors (held_items old)) (allocator_on old) (allocator_on new) error
      pub sets : new.value.sets ≡ old.value.sets

    -- what a request for count sets of the layout at a place may reply. A request for none is not refused for memory
    abbrev pub AllocatesTo : Reply → Type 0
    AllocatesTo (Sets first many) = (met : IsMet first many) × Allocates (request_of met.known (Ok (items_of means.set_name met.given)))
    AllocatesTo (Refused error) = (refused : IsRefused error) × Allocates (request_of refused.known (Err error))
    AllocatesTo BadLayout = (length old.value.layouts ≤ layout) × (new ≡ old)
    AllocatesTo NoMemory = (layout < length old.value.layouts) × (0 < count) × (new ≡ old)
    AllocatesTo _ = ⊥

  module _ (tickets : List ℕ) (old new : Side (SessionValue L P S)) where
    -- the sets of these tickets are held no longer
    pub record GivesUp (many : ℕ) : Type 0 where
      pub good : AreHeldOnce old.value.sets tickets
      pub all : many ≡ length tickets
      -- their sets, in the order of the list
      pub given : List (DescriptorSet S)
      pub each : map Some given ≡ map (set_at old.value.sets) tickets
      pub sets : new.value.sets ≡ emptied old.value.sets tickets

    -- what a free of these tickets may reply: they are freed, by one release call for each run, or one is bad, exactly if it isn't held or is there twice
    abbrev pub FreesTo : Reply → Type 0
    FreesTo (Freed many) = (gone : GivesUp many) × Returns means gone.given (allocator_on old) (allocator_on new)
    FreesTo BadTicket = (¬ AreHeldOnce old.value.sets tickets) × (new ≡ old)
    FreesTo _ = ⊥

  -- what a command may reply, and what it leaves
  abbrev pub StepsTo : OfStep L P S
  StepsTo (Allocate layout count) reply old new = AllocatesTo layout count old new reply
  StepsTo (Free tickets) reply old new = FreesTo tickets.items old new reply
  -- the empty pools at the front of each key are gone, and the sets stay
  StepsTo Cleanup Clean old new = Sweeps false means (allocator_on old) (allocator_on new) × (new.value.sets ≡ old.value.sets)
  StepsTo Cleanup _ old new = ⊥
