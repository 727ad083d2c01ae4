-- The headline: what holds after each command of a run.
use Rattle.std.specs.Prelude.{◌≡◌, ℕ, ◌+◌, ◌<◌, ◌≤◌, ◌&&◌, All, List, count_by, length, slice_get, Some}
use Rattle.gpu_descriptor_types.specs.Meaning.{Meaning}
use Rattle.gpu_descriptor_types.specs.Multiset.{LiveSet, set_eq}
use Rattle.gpu_descriptor_types.specs.Side.{Side}
use Rattle.gpu_descriptor.specs.Caller.Call.{layout_key}
use Rattle.gpu_descriptor.specs.Caller.Frees.{marked_descriptors}
use Rattle.gpu_descriptor.specs.Caller.Others.{others_of}
use Rattle.gpu_descriptor.specs.Caller.Sets.{items_of}
use Rattle.gpu_descriptor.specs.Caller.States.{pool_load_of}
use Rattle.gpu_descriptor.specs.Model.Agreement.{Item, count_of, live_in, outstanding, set_of}
use Rattle.gpu_descriptor.specs.Model.Books.{Entry, Key}
use Rattle.gpu_descriptor.specs.Model.OneByOne.{freed_each}
use Rattle.gpu_descriptor.specs.Model.Release.{lies_in}
use Rattle.gpu_descriptor.specs.Model.Runs.{runs}
use Rattle.descriptor_script.specs.Sessions.Session.{state_on, SessionValue}
use Rattle.descriptor_script.specs.Sessions.Steps.{GivesUp, IsMet, IsRefused, OfStep, held_items}
use Rattle.descriptor_script.specs.Sessions.Tickets.{AreHeldOnce}
use Rattle.descriptor_script.specs.declared.command.Command.{Command}
use Rattle.descriptor_script.specs.declared.command.Command.TheVariants.{Allocate, Free, Cleanup}
use Rattle.descriptor_script.specs.declared.command.Reply.{Reply}
use Rattle.descriptor_script.specs.declared.command.Reply.TheVariants.{Sets, Refused, Freed, BadTicket, BadLayout, NoMemory, Clean}

module _ {L P S : Type 0} (means : Meaning L P S) where
  -- the sets of these tickets were freed, and are held no longer
  pub record GoBack (tickets : List ℕ) (many : ℕ) (old new : Side (SessionValue L P S)) : Type 0 where
    pub gone : GivesUp means tickets old new many
    -- by one release call for each run
    pub one_call_a_run : new.ledger.counters.released ≡ old.ledger.counters.released + runs (items_of means.set_name gone.given)
    -- books and pools are left as by freeing the sets one by one, in whatever order
    pub one_by_one : (order : List Item) → ((t : Item) → count_of t order ≡ count_of t (items_of means.set_name gone.given)) → state_on means new ≡ freed_each order (state_on means old)

  -- what is held is what the replies gave, less what was freed, and a request fails only for a named cause
  abbrev pub HoldsWhatIsOut : OfStep L P S
  -- the sets of a request that was met have the key of its layout, and only one for some sets is refused
  HoldsWhatIsOut (Allocate layout count) (Sets first many) old new =
      (met : IsMet means layout count old new first many) × All (λ t. t.key ≡ layout_key means met.known.layout) (items_of means.set_name met.given)
  HoldsWhatIsOut (Allocate layout count) (Refused error) old new = (0 < count) × IsRefused means layout count old new error
  HoldsWhatIsOut (Allocate layout count) BadLayout old new = (length old.value.layouts ≤ layout) × (new ≡ old)
  HoldsWhatIsOut (Allocate layout count) NoMemory old new = (layout < length old.value.layouts) × (0 < count) × (new ≡ old)
  HoldsWhatIsOut (Free tickets) (Freed many) old new = GoBack tickets.items many old new
  HoldsWhatIsOut (Free tickets) BadTicket old new = (¬ AreHeldOnce old.value.sets tickets.items) × (new ≡ old)
  HoldsWhatIsOut Cleanup Clean old new = new.value.sets ≡ old.value.sets
  HoldsWhatIsOut _ _ old new = ⊥

  -- the parts of the headline, at one step
  pub record KeepsAll (command : Command) (reply : Reply) (old new : Side (SessionValue L P S)) : Type 0 where
    -- the pools hold exactly the sets that are held: each is outstanding as often as it is held
    pub exactly : (t : Item) → outstanding (state_on means new) t ≡ count_of t (held_items means new)
    -- and nothing else: the live sets of each pool in the books are the held sets that lie in it, and have the counts of its key
    pub nothing_else : (k : Key) (i : ℕ) (e : Entry) (x : LiveSet) → slice_get ((state_on means new).books k).pools i ≡ Some e → (0 < live_in new.ledger.pools e.pool x → x.counts ≡ k.counts) × (live_in new.ledger.pools e.pool x ≡ count_by (λ t. lies_in (state_on means new).books e.pool t && set_eq (set_of t) x) (held_items means new))
    -- and these are the sets that were allocated and not freed
    pub handed_out : HoldsWhatIsOut command reply old new
    -- neither the held marked sets nor the marked pools have more descriptors than the limit, which stays
    pub sets_within : marked_descriptors (held_items means new) ≤ new.value.allocator.limit
    pub pools_within : pool_load_of new.value.allocator ≤ new.value.allocator.limit
    pub limit : new.value.allocator.limit ≡ old.value.allocator.limit
    -- the layouts stay, and so do the live pools that the books don't name: no pool of others is touched, and none of the allocator's is lost
    pub layouts : new.value.layouts ≡ old.value.layouts
    pub others : others_of means.pool_name new.value.allocator new.ledger ≡ others_of means.pool_name old.value.allocator old.ledger
