use Rattle.gpu_descriptor.proofs.Common.{◌≡◌, ◌++◌, ℕ, List, drop, take, take_at, subst, sym, ap, ◌∙◌, Err, side, DescriptorSet, Key, items_of, call_of, layout_key, with_key, AreOutstanding, AreOfLayout, state_of, Allocates, None, is_some, false≢true, key_of, taken_by, Takes, Returns, arith, common_steps}
use Rattle.gpu_descriptor.specs.Caller.SetLists.{appended}
use Rattle.gpu_descriptor.specs.Caller.Certain.{IsProvided}
use Rattle.gpu_descriptor.specs.Caller.States.{keys_of}
use Rattle.gpu_descriptor.proofs.request.Outcomes.{taken_given, went_back}
use Rattle.gpu_descriptor.proofs.request.Certain.{walk_refused}
use Rattle.gpu_descriptor.proofs.request.HandedOut.{hands_all, hands_back, hands_none}
use Rattle.gpu_descriptor.proofs.allocator.DescriptorAllocator.fill.Goals.{After-free_after, In-Ok}
use Rattle.gpu_descriptor.proofs.allocator.DescriptorAllocator.fill.Goals as goal

-- what came
module _ (g : _) (c : In-Ok g) where
  abbrev came : List (DescriptorSet g.row.S.Denot)
  came = appended (g.K.SetPlaces.items c.args.sets) (g.K.SetPlaces.items c.into_sets-sets.result)

  is_put : appended (g.K.SetPlaces.items c.new-sink.result.sets) (g.K.SetPlaces.items c.serve_if_allowed-served.new.sink.sets) ≡ came
  is_put = λ i. appended (g.K.SetPlaces.items (c.new-sink.ensures i)) (g.K.SetPlaces.items (sym c.into_sets-sets.ensures i))

  -- under the layout's key
  taken :
      Takes g.D.DescriptorDevice.meaning (layout_key g.D.DescriptorDevice.meaning c.args.request.now.layout.now)
      c.args.request.now.count came c.in-Ok.ended
      (side c.args.self.now (g.D.DescriptorDevice.ledger c.args.device.now))
      (side c.serve_if_allowed-served.new.self (g.D.DescriptorDevice.ledger c.serve_if_allowed-served.new.device))
  taken =
      subst
      (λ (x : Key × List (DescriptorSet g.row.S.Denot)).
      Takes g.D.DescriptorDevice.meaning x.0 c.args.request.now.count x.1 c.in-Ok.ended
      (side c.args.self.now (g.D.DescriptorDevice.ledger c.args.device.now))
      (side c.serve_if_allowed-served.new.self
      (g.D.DescriptorDevice.ledger c.serve_if_allowed-served.new.device)))
      (λ i. (c.args.request.now.same i, is_put i)) c.in-Ok.ensures.taken

  gained : keys_of c.serve_if_allowed-served.new.self ≡ with_key (layout_key g.D.DescriptorDevice.meaning c.args.request.now.layout.now) (keys_of c.args.self.now)
  gained = subst (λ (k : Key). keys_of c.serve_if_allowed-served.new.self ≡ with_key k (keys_of c.args.self.now)) c.args.request.now.same c.in-Ok.ensures.keys

  front : g.K.SetPlaces.items c.into_sets-sets.result ≡ g.K.SetPlaces.items c.args.sets ++ came
  front = ap g.K.SetPlaces.items c.into_sets-sets.ensures ∙ c.in-Ok.ensures.appends.front ∙ (λ i. g.K.SetPlaces.items (c.new-sink.ensures i) ++ is_put i)

returned :
    (g : _) (c : After-free_after g)
    → Returns g.D.DescriptorDevice.meaning (came g (goal.at-After-free_after g c).In-Ok)
    (side c.serve_if_allowed-served.new.self (g.D.DescriptorDevice.ledger c.serve_if_allowed-served.new.device))
    (side c.free_after.new.allocator (g.D.DescriptorDevice.ledger c.free_after.new.device))
returned g c = grind (arith, common_steps)

pub free_after-requires-clause-outstanding : goal.free_after-requires-clause-outstanding
free_after-requires-clause-outstanding g c =
    subst
    (λ (n : ℕ).
    AreOutstanding
    (items_of g.D.DescriptorDevice.meaning.set_name (drop n (g.K.SetPlaces.items c.into_sets-sets.result)))
    (state_of g.D.DescriptorDevice.meaning.pool_name c.serve_if_allowed-served.new.self
    (g.D.DescriptorDevice.ledger c.serve_if_allowed-served.new.device)))
    (sym c.count-first.ensures)
    (taken_given (taken g (goal.at.free_after-requires-clause-outstanding g c).In-Ok) c.requires.agree.books)

pub returns-in-Err-clause-appends : goal.returns-in-Err-clause-appends
returns-in-Err-clause-appends g c =
    let declined =
    subst (λ (k : Key). (outcome : Allocates (call_of g.D.DescriptorDevice.meaning k c.args.request.now.count (side c.args.self.now (g.D.DescriptorDevice.ledger c.args.device.now)) (side c.serve_if_allowed-served.new.self (g.D.DescriptorDevice.ledger c.serve_if_allowed-served.new.device)) (Err c.in-Err.error))) × (taken_by outcome ≡ None))
    c.args.request.now.same c.in-Err.ensures.declined in
    record {
      hands_out = hands_none c.in-Err.ensures.allocator c.in-Err.ensures.ledger c.requires.agree c.in-Err.error c.requires.some declined.0 declined.1;
      front = tt;
      own = tt;
      sets_stay = ap g.K.SetPlaces.items c.into_sets-sets.ensures ∙ c.in-Err.ensures.sets ∙ ap g.K.SetPlaces.items c.new-sink.ensures;
    }

pub returns-in-Ok-ended-clause-appends : goal.returns-in-Ok-ended-clause-appends
returns-in-Ok-ended-clause-appends g c =
    let r = (goal.at.returns-in-Ok-ended-clause-appends g c).In-Ok in
    record {
      hands_out = hands_all (came g r) (taken g r) c.requires.agree (gained g r) c.in-Ok.ensures.looks c.in-Ok.ensures.comparisons_stay c.requires.some c.in-Ok.ensures.keeps.range c.in-Ok.ensures.ids c.in-Ok-ended.is;
      front = front g r;
      own = subst (AreOfLayout g.D.DescriptorDevice.meaning c.args.request.now.layout.now) (is_put g r) c.in-Ok.ensures.appends.own;
      sets_stay = tt;
    }

pub returns-in-Err-ended-clause-appends : goal.returns-in-Err-ended-clause-appends
returns-in-Err-ended-clause-appends g c =
    let r = (goal.at.returns-in-Err-ended-clause-appends g c).In-Ok in
    let back = returned g (goal.at.returns-in-Err-ended-clause-appends g c).After-free_after in
    record {
      hands_out = rw c.error_of.ensures (hands_back (came g r) (taken g r) c.requires.agree (gained g r) c.in-Ok.ensures.looks c.in-Ok.ensures.comparisons_stay c.requires.some c.in-Ok.ensures.keeps.agree.rows back c.in-Err-ended.is);
      front = tt;
      own = tt;
      sets_stay = c.free_after.ensures.items ∙ ap (take c.count-first.result) (front g r) ∙ take_at (g.K.SetPlaces.items c.args.sets) (came g r) c.count-first.result (sym c.count-first.ensures);
    }

pub returns-in-Err-clause-certain : goal.returns-in-Err-clause-certain
returns-in-Err-clause-certain g c provided =
    let old = side c.args.self.now (g.D.DescriptorDevice.ledger c.args.device.now) in
    let stored = subst (λ (k : Key). IsProvided g.D.DescriptorDevice.meaning k c.args.request.now.count (g.K.SetPlaces.places c.args.sets) old) (sym c.args.request.now.same) provided in
    absurd (false≢true (c.in-Err.ensures.certain (subst (λ (n : ℕ). IsProvided g.D.DescriptorDevice.meaning (key_of c.args.request.now.key) c.args.request.now.count n old) (sym (ap g.K.SetPlaces.places c.new-sink.ensures)) stored)))

pub returns-in-Err-ended-clause-certain : goal.returns-in-Err-ended-clause-certain
returns-in-Err-ended-clause-certain g c provided =
    let r = (goal.at.returns-in-Err-ended-clause-certain g c).In-Ok in
    let back = returned g (goal.at.returns-in-Err-ended-clause-certain g c).After-free_after in
    let went = went_back (taken g r) c.requires.agree.books c.in-Ok.ensures.keeps.agree.rows c.requires.some back.back c.in-Err-ended.is in
    walk_refused _ provided.free went.0 (ap is_some went.2)
