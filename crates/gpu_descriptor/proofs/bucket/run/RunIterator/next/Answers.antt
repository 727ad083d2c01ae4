use Rattle.std.specs.Prelude.{◌%◌}
use Rattle.gpu_descriptor.proofs.Common.{◌≡◌, ◌+◌, ◌^◌, None, Some, MatchOption, MakesProgress, Run, refl, sym, subst, ◌∙◌, true, arith, common_steps}
use Rattle.gpu_descriptor.specs.Inner.RunSteps.{at_place}
use Rattle.gpu_descriptor.proofs.bucket.run.RunIterator.next.Goals.{in-Some, in-None+in_ok-set-in-None, After-is_at}
use Rattle.gpu_descriptor.proofs.bucket.run.RunIterator.next.Goals as goal

-- one look at the set ahead or at the source, which leaves no set ahead
module _ (g : _) (c : After-is_at g) where
  looks : MatchOption c.args.self.now.ahead.now
      (g.I.Iterator.next_gives c.args.self.now.source.now (Some c.match-take.set) c.match-take.self.source.now × MakesProgress g.I.Iterator.can_next g.I.Iterator.remaining c.args.self.now.source.now (Some c.match-take.set) c.match-take.self.source.now)
      (λ x. (Some c.match-take.set ≡ Some x) × (c.match-take.self.source.now ≡ c.args.self.now.source.now))
  looks = grind (arith, common_steps)

  is : c.match-take.self ≡ record c.args.self.now { source = record c.args.self.now.source { now = c.match-take.self.source.now }; ahead = record c.args.self.now.ahead { now = c.match-take.self.ahead.now } }
  is = elim c.match-take.branch [ in-Some w ↦ rw w.self-is refl | in-None+in_ok-set-in-None w ↦ rw w.self-is refl ]

  none : c.match-take.self.ahead.now ≡ None
  none = elim c.match-take.branch [ in-Some w ↦ rw w.self-is c.take.ensures.after | in-None+in_ok-set-in-None w ↦ rw w.self-is c.take.ensures.after ]

pub returns-then-is_at-clause-steps : goal.returns-then-is_at-clause-steps
returns-then-is_at-clause-steps g c =
    let d = (goal.at.returns-then-is_at-clause-steps g c).After-is_at in
    let here = subst (λ (r : Run g.row.I.Denot g.row.S.Denot). at_place r.id r.number c.match-take.set ≡ true) (is g d) (sym c.is_at.ensures ∙ c.if-is_at.true) in
    (Some c.match-take.set, looks g d, (c.match-take.set, refl, here, refl, λ k. record (is g d k) { ahead = record (is g d k).ahead { now = none g d k }; count = ((is g d k).count + 1) % 2 ^ 32 }))
