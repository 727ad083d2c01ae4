-- Two sessions on one device: what a step of one leaves of the other, for `Pair`. `x` makes the step, and is `x'` then; `y` is the other.
use Rattle.std.proofs.Common.{◌≡◌, ℕ, List, [], slice_get, Option, None, Some, refl, sym, ap, ◌∙◌}
use Rattle.gpu_descriptor_types.specs.Ledger.{Ledger}
use Rattle.gpu_descriptor.specs.Model.Promises.{IsUntouched}
use Rattle.gpu_descriptor.specs.Model.Agreement.{count_of, outstanding, State}
use Rattle.gpu_descriptor.specs.Model.Books.{Key, Entry}
use Rattle.gpu_descriptor.specs.Model.Foreign.{IsForeign}
use Rattle.gpu_descriptor.specs.Caller.Others.{others_of}
use Rattle.gpu_descriptor.specs.Caller.Sets.{items_of}
use Rattle.gpu_descriptor.specs.Caller.States.{state_of}
use Rattle.gpu_descriptor.specs.Caller.Values.{Allocations, all_ids}
use Rattle.gpu_descriptor.specs.declared.set.DescriptorSet.{DescriptorSet}
use Rattle.gpu_descriptor.proofs.foreign.NoneLost.{nothing_at}
use Rattle.gpu_descriptor.proofs.foreign.Others.{own_agrees, own_outstanding}
use Rattle.gpu_descriptor.proofs.foreign.OthersStay.{from_others}
use Rattle.gpu_descriptor.proofs.callers.NewAllocators.{new_agrees}
use Rattle.gpu_descriptor.proofs.release.Places.{none_out}
use Rattle.descriptor_script.specs.Scripted.Raw.{pool_id, script_meaning, set_id}
use Rattle.descriptor_script.specs.Sessions.Session.{IsReady, SessionValue, state_on}
use Rattle.descriptor_script.specs.Sessions.Tickets.{held_sets}
use Rattle.descriptor_script.specs.declared.raw.RawPool.{RawPool}
use Rattle.descriptor_script.specs.declared.raw.RawSet.{RawSet}
use Rattle.descriptor_script.specs.declared.raw.ScriptLayout.{ScriptLayout}
use Rattle.descriptor_vectors.specs.Pairs.{AreApart, ArePaired, IsNewSession}
use Rattle.gpu_descriptor_types.specs.Side.{side}

abbrev Held : Type 0
Held = SessionValue ScriptLayout RawPool RawSet

-- books and ledger of the session's allocator
abbrev session_state : Held → Ledger → State
session_state s l = state_on script_meaning (side s l)

-- what stands in one's books is foreign to the other
module _ (x x' y : Held) (l m : Ledger) (same : others_of pool_id x'.allocator m ≡ others_of pool_id x.allocator l) (pair : ArePaired x y l) where
  not_touched : (k : Key) (i : ℕ) (e : Entry) → slice_get ((session_state y l).books k).pools i ≡ Some e → (m.pools e.pool ≡ l.pools e.pool) × IsForeign (session_state x' m) e.pool
  not_touched k n e at =
      let b = pair.other.agree.books.booked k n e at in
      let after = from_others pool_id x.allocator x'.allocator l m same e.pool b.0 (λ j i d there. pair.apart j k i n d e there at) b.1 in
      (after.0 ∙ sym b.1, after.1)

  -- so each key of the other is untouched
  keeps : (k : Key) → IsUntouched k (session_state y l) (session_state y m)
  keeps k = record { books = refl; pools = λ n e at. (not_touched k n e at).0 }

  -- after a step of one session both can make the next, and no pool stands in both books
  pub stepped : IsReady script_meaning (side x' m) → ArePaired x' y m
  stepped ready = record {
    one = ready;
    other = record {
      agree = record { rows = pair.other.agree.rows; books = own_agrees (session_state y l) (session_state y m) keeps pair.other.agree.books };
      held = λ t. own_outstanding (session_state y l) (session_state y m) keeps t ∙ pair.other.held t;
      meant = pair.other.meant;
    };
    apart = λ j k i n d e there at. (not_touched k n e at).1 j i d there;
  }

pub turned : (x y : Held) (l : Ledger) → ArePaired x y l → ArePaired y x l
turned x y l pair = record {
  one = pair.other;
  other = pair.one;
  apart = λ j k i n d e there at same. pair.apart k j n i e d at there (sym same);
}

-- an allocator without keys shares no pool
pub none_shared : (x y : Held) (l : Ledger) (limit : ℕ) → x.allocator ≡ record { limit = limit; bound = None; ids = all_ids; table = []; looks = 0; comparisons = 0 } → AreApart (session_state x l) (session_state y l)
none_shared x y l limit empty k j m n d e there at same =
    nothing_at ((session_state x l).books k) m d (ap (λ (a : Allocations RawPool). ((state_of pool_id a l).books k).pools) empty) there

-- a session without keys and sets can make a step on any device
pub new_ready : (s : Held) (l : Ledger) → IsNewSession s → IsReady script_meaning (side s l)
new_ready s l new = record {
  agree = new_agrees new.allocator pool_id l;
  held = λ t.
      ap (λ (a : Allocations RawPool). outstanding (state_of pool_id a l) t) new.allocator
      ∙ none_out (state_of pool_id (record { limit = new.limit; bound = None; ids = all_ids; table = []; looks = 0; comparisons = 0 }) l) t refl
      ∙ sym (ap (λ (slots : List (Option (DescriptorSet RawSet))). count_of t (items_of set_id (held_sets slots))) new.sets);
  meant = new.meant;
}
