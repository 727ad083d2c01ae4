-- The parts of the headline hold at each step of a run: for `headline`. They follow from what the reply says of the step (`StepsTo`),
-- and from what every command keeps (`KeepsSession`), as `IsStep` has both.
use Rattle.std.proofs.lemmas.Grind.{common_steps}
use Rattle.std.proofs.Common.{ℕ, List, [], ◌∷◌, refl, sym, ap, ◌∙◌, arith, inl, inr, true}
use Rattle.std.specs.Prelude.{◌<◌, slice_get, Option, Some}
use Rattle.std.specs.Option.{option_map_or}
use Rattle.std.proofs.lemmas.Bool.{cases_Bool, cases_lt}
use Rattle.gpu_descriptor_types.specs.Ledger.{Counters, Pool}
use Rattle.gpu_descriptor_types.proofs.Counting.{set_exact}
use Rattle.gpu_descriptor_types.specs.Meaning.{Meaning}
use Rattle.gpu_descriptor_types.specs.Multiset.{LiveSet, set_eq}
use Rattle.gpu_descriptor_types.specs.Side.{Side}
use Rattle.gpu_descriptor.proofs.Common.{◌≡◌, ◌≤◌, descriptors_out, length, marked_descriptors, marked_load_of, outstanding_of, sets_out}
use Rattle.gpu_descriptor.proofs.sums.OutSets.{load_is_descriptors, out_is_length}
use Rattle.gpu_descriptor.proofs.sums.TableSums.{adds_up, marked_load_of-table, outstanding_of-table}
use Rattle.gpu_descriptor.specs.Caller.Causes.{HasCause, IsBecause}
use Rattle.gpu_descriptor.specs.Model.Agreement.{AreOutstanding, Item, live_in}
use Rattle.gpu_descriptor.specs.Model.Books.{Entry, Key}
use Rattle.gpu_descriptor.specs.Caller.Sets.{items_of}
use Rattle.gpu_descriptor.specs.Caller.States.{state_of}
use Rattle.gpu_descriptor.specs.Caller.Values.{Allocations}
use Rattle.gpu_descriptor.specs.declared.errors.AllocationError.{AllocationError}
use Rattle.gpu_descriptor.proofs.lists.Numbers.{entry_at-from}
use Rattle.gpu_descriptor.proofs.release.Places.{back_named, back_named-is, outstanding_at, part_fits}
use Rattle.gpu_descriptor.proofs.release.ReleaseAgrees.{one_by_one}
use Rattle.descriptor_script.specs.Sessions.Headline.{GoBack, HoldsWhatIsOut, KeepsAll}
use Rattle.descriptor_script.specs.Sessions.Session.{IsReady, allocator_on, state_on, SessionValue}
use Rattle.descriptor_script.specs.Sessions.SessionRun.{IsStep, Runs}
use Rattle.descriptor_script.specs.Sessions.Steps.{FreesTo, OfStep, StepsTo, held_items}
use Rattle.descriptor_script.specs.declared.command.Command.{Command}
use Rattle.descriptor_script.specs.declared.command.Command.TheVariants.{Allocate, Free, Cleanup}
use Rattle.descriptor_script.specs.declared.command.Reply.{Reply}
use Rattle.descriptor_script.specs.declared.command.Reply.TheVariants.{Sets, Refused, Freed, BadTicket, BadLayout, NoMemory, Clean}
use Rattle.gpu_descriptor.proofs.request.Causes.{request_own, wants_some}
use Rattle.descriptor_script.proofs.Emptied.{listed_out}

module _ {L P S : Type 0} (means : Meaning L P S) where
  -- as many sets are outstanding as are held
  held_count : (s : Side (SessionValue L P S)) → IsReady means s → length (held_items means s) ≡ outstanding_of s.value.allocator
  held_count s ready = out_is_length (state_on means s) _ ready.agree.books (adds_up means.pool_name s.value.allocator sets_out ready.agree.rows (outstanding_of-table means.pool_name s.value.allocator)) (held_items means s) (λ t. sym (ready.held t))

  -- the marked load is that of the held sets
  held_load : (s : Side (SessionValue L P S)) → IsReady means s → marked_descriptors (held_items means s) ≡ marked_load_of s.value.allocator
  held_load s ready = load_is_descriptors (state_on means s) _ ready.agree.books (adds_up means.pool_name s.value.allocator descriptors_out ready.agree.rows (marked_load_of-table means.pool_name s.value.allocator)) (held_items means s) (λ t. sym (ready.held t))

  -- the cause of a refusal, with the numbers of held sets in the place of the allocator's
  pub cause_from_held : (old : Side (SessionValue L P S)) → IsReady means old → (key : Key) (count : ℕ) (error : AllocationError) (new : Side (Allocations P)) → HasCause means key count (allocator_on old) new error → IsBecause means key count (length (held_items means old)) (marked_descriptors (held_items means old)) (allocator_on old) new error
  cause_from_held old ready key count error new cause = rw (held_count old ready, held_load old ready) cause

  -- the live sets of a pool in the books are the held sets that lie in it, and have the counts of its key
  nothing_else :
      (s : Side (SessionValue L P S)) → IsReady means s → (k : Key) (i : ℕ) (e : Entry) (x : LiveSet)
      → slice_get ((state_on means s).books k).pools i ≡ Some e
      → (0 < live_in s.ledger.pools e.pool x → x.counts ≡ k.counts)
      × (live_in s.ledger.pools e.pool x ≡ back_named (held_items means s) (state_on means s) e.pool x)
  nothing_else s ready k i e x at =
      let state = state_on means s in
      let agree = ready.agree.books in
      let held = held_items means s in
      let out : AreOutstanding held state = λ t. (let is = ready.held t in omega arith) in
      let booked = agree.booked k i e at in
      let pool = booked.0 in
      let live : live_in s.ledger.pools e.pool x ≡ pool.live x = ap (λ (o : Option Pool). option_map_or (λ (p : Pool). p.live x) o 0) booked.1 in
      let here = entry_at-from (state.books k) i e (agree.rising k) at in
      let own : LiveSet = record { name = x.name; counts = k.counts } in (
        λ lives. booked.2.sets x (omega arith),
        elim (cases_Bool (set_eq x own)) [
          | inl same ↦ (
              let t : Item = record { key = k; id = (state.books k).id; number = e.number; name = x.name } in
              let is : x ≡ own = set_exact.same x own same in
              let counted = back_named-is held state agree out k e.number e here x.name in
              let had = outstanding_at state t e pool refl here booked.1 in
              live ∙ ap pool.live is ∙ sym had ∙ ready.held t ∙ sym counted ∙ ap (back_named held state e.pool) (sym is))
          | inr other ↦ (
              let fits = part_fits held state agree out k e.number e pool here booked.1 x in
              let none : pool.live x ≤ 0 = elim (cases_lt 0 (pool.live x)) [
                | inl lives ↦ absurd (let is : x ≡ own = ap (λ (c : List ℕ). let y : LiveSet = record { name = x.name; counts = c } in y) (booked.2.sets x lives) in let yes : set_eq x own ≡ true = ap (λ (y : LiveSet). set_eq y own) is ∙ set_exact.self own in cc)
                | inr none ↦ none
              ] in
              omega arith)
        ],
      )

  module _ (old new : Side (SessionValue L P S)) (ready : IsReady means old) where
    -- a free that was done, as the headline says it
    gone_back : (tickets : List ℕ) (many : ℕ) → FreesTo means tickets old new (Freed many) → GoBack means tickets many old new
    gone_back tickets many (gone, returns) =
        let start = state_of means.pool_name old.value.allocator old.ledger in
        let out = listed_out means.set_name old.value.sets tickets gone.given start gone.good gone.each ready.held in
        let back = returns.back in
        record {
          gone = gone;
          one_call_a_run = ap (λ (c : Counters). c.released) back.counters;
          one_by_one = λ order alike. back.state ∙ sym (one_by_one (items_of means.set_name gone.given) order start ready.agree.books out alike);
        }

    -- so it is for each command and reply
    replied : (command : Command) (reply : Reply) → StepsTo means command reply old new → HoldsWhatIsOut means command reply old new
    replied (Allocate layout count) (Sets first many) (met, outcome) = (met, request_own _ outcome)
    replied (Allocate layout count) (Refused e) (refused, outcome) = (wants_some _ outcome, refused)
    replied (Allocate layout count) BadLayout h = h
    replied (Allocate layout count) NoMemory h = h
    replied (Free tickets) (Freed n) h = gone_back tickets.items n h
    replied (Free tickets) BadTicket h = h
    replied Cleanup Clean h = h.1
    replied _ _ h = absurd h

  -- a run keeps all parts at each of its steps
  pub all_kept : (commands : List Command) (replies : List Reply) (old new : Side (SessionValue L P S)) → IsReady means old → Runs (IsStep means) commands replies old new → Runs (λ command reply s t. KeepsAll means command reply s t × IsStep means command reply s t) commands replies old new
  all_kept [] [] old new ready run = run
  all_kept (c ∷ cs) (r ∷ rs) old new ready run = grind (arith, common_steps, held_load, nothing_else, replied, all_kept cs rs run.0 new run.1.1.ready run.2)
  all_kept _ _ old new ready run = absurd run

  -- the promise alone
  pub promise_of : (promise : OfStep L P S) (commands : List Command) (replies : List Reply) (old new : Side (SessionValue L P S)) → Runs (λ command reply s t. promise command reply s t × IsStep means command reply s t) commands replies old new → Runs promise commands replies old new
  promise_of promise [] [] old new run = run
  promise_of promise (c ∷ cs) (r ∷ rs) old new run = (run.0, run.1.0, promise_of promise cs rs run.0 new run.2)
  promise_of promise _ _ old new run = absurd run
