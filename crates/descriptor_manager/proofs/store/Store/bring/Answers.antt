use Rattle.descriptor_manager.proofs.Common.{common_steps, ℕ, Ok, Err, Result, HasRoom, ap, subst, arith, ◌-◌, ◌∙◌, inl, inr, sym, true≢false, Ghosts, AllocationError, passed, count, is_kept, Asks, IsCleared, IsRefused, KeepsContents, kept_of, Store}
use Rattle.std.specs.Prelude.{OnOk}
use Rattle.std.proofs.lemmas.Result.{IfErr-weaker, on_ok_weaker}
use Rattle.descriptor_manager.proofs.Arriving.{none_left}
use Rattle.descriptor_manager.proofs.store.Store.bring.Goals.{After-cleanup}
use Rattle.descriptor_manager.proofs.store.Store.bring.Goals as goal

-- A request over memory that the table reserved before it, which changed nothing else, and what a refusal and a cleanup leave.

module _ {L P S D : Type 0} {d : Ghosts D L P S} (layout : L) (old mid new : Store L P S D d) (same : KeepsContents old mid) where
  -- the allocator refused
  refused_from : (many : ℕ) (error : AllocationError) → IsRefused layout many error mid new → IsRefused layout many error old new
  refused_from many error refused = grind (arith, common_steps)

  -- so many sets are on their way
  asks_from : (many : ℕ) → Asks layout many mid new → Asks layout many old new
  asks_from many asks = grind (arith, common_steps)

-- what two clauses say of a request that is met
both : {T E P Q Z : Type 0} (r : Result T E) → (P → Q → Z) → OnOk r P → OnOk r Q → OnOk r Z
both (Ok x) f p q = f p q
both (Err e) f p q = tt

-- a refusal, and a cleanup
cleaned_up : (g : _) (c : After-cleanup g) → IsCleared c.args.known.now.layout (c.args.many - kept_of c.args.layout c.args.self.now) c.args.many c.args.self.now c.cleanup.new.self
cleaned_up g c =
    let is = subst (λ n. IsRefused c.args.known.now.layout (c.args.many - n) c.in-Err.error c.args.self.now c.ask_for.new.self) c.kept_count.ensures.count (refused_from _ _ _ _ c.in_ok-reserve.ensures.contents _ _ c.in-Err.ensures.refused) in
    let limit = c.in-Err.ensures.stays.limit ∙ c.in_ok-reserve.ensures.stays.limit in
    record {
      some = (let same = ap (count is_kept) is.slots in let kept = c.kept_total.ensures in let ne = c.if-kept_total-eq0.false in omega arith);
      fits = λ above. true≢false (sym (c.if-exceeds_limit.ensures.1 (omega arith)));
      refused = c.ask_for.new.self;
      error = c.in-Err.error;
      first_refused = is;
      cleaned = c.cleanup.ensures.cleaned;
      cleans = c.cleanup.ensures.cleans;
    }

pub returns-in_err-reserve-in-Err-clause-refused : goal.returns-in_err-reserve-in-Err-clause-refused
returns-in_err-reserve-in-Err-clause-refused g c =
    let lacks = c.in_err-reserve-in-Err.ensures.lacks in
    rw (passed c.from_residual-in_err-reserve-in-Err.result c.in_err-reserve-in-Err.field-0.0 c.from_residual-in_err-reserve-in-Err.ensures.1) (record {
      none = inl (ap (count is_kept) lacks.contents.slots ∙ none_left _ _ c.cleanup.ensures.cleaned);
      why = inr (c.cleanup.new.self, cleaned_up g (goal.at.returns-in_err-reserve-in-Err-clause-refused g c).After-cleanup, inr lacks);
    })

pub returns-in_ok-reserve-in-Err-clause-asks : goal.returns-in_ok-reserve-in-Err-clause-asks
returns-in_ok-reserve-in-Err-clause-asks g c =
    let kept = c.in_ok-reserve-in-Err.ensures.contents in
    let up = cleaned_up g (goal.at.returns-in_ok-reserve-in-Err-clause-asks g c).After-cleanup in
    on_ok_weaker c.ask_for-in-Err.result (λ asks. inr (c.cleanup.new.self, up, asks_from _ _ _ _ kept _ asks)) c.ask_for-in-Err.ensures.asks

pub returns-in_ok-reserve-in-Err-clause-refused : goal.returns-in_ok-reserve-in-Err-clause-refused
returns-in_ok-reserve-in-Err-clause-refused g c =
    let kept = c.in_ok-reserve-in-Err.ensures.contents in
    let up = cleaned_up g (goal.at.returns-in_ok-reserve-in-Err-clause-refused g c).After-cleanup in
    IfErr-weaker c.ask_for-in-Err.result _ _ (λ error refused. record {
      none = inl (ap (count is_kept) (refused.slots ∙ kept.slots) ∙ none_left _ _ c.cleanup.ensures.cleaned);
      why = inr (c.cleanup.new.self, up, inl (refused_from _ _ _ _ kept _ error refused));
    }) c.ask_for-in-Err.ensures.refused

pub returns-in_ok-reserve-in-Err-clause-table : goal.returns-in_ok-reserve-in-Err-clause-table
returns-in_ok-reserve-in-Err-clause-table g c = both c.ask_for-in-Err.result (λ asks room. subst (λ n. HasRoom n c.ask_for-in-Err.new.self.table) (sym asks.hands_out.many) room) c.ask_for-in-Err.ensures.asks c.ask_for-in-Err.ensures.table
