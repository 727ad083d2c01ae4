-- What a call of `RunIterator::next` does.
use Rattle.std.specs.Prelude.{ℕ, Bool, ◌&&◌, nat_eq, List, IfSome, true, false, ◌≡◌, ◌+◌, ◌%◌, ◌^◌, Option, None, Some, MatchOption}
use Rattle.gpu_descriptor.specs.declared.set.DescriptorSet.{DescriptorSet}
use Rattle.gpu_descriptor.specs.Model.Books.{Key, key_eq}
use Rattle.std.specs.List.{AllByRecursion}
use Rattle.std.specs.Iterator.{Count, MakesProgress, YieldsThen}
use Rattle.gpu_descriptor.specs.declared.bucket.run.Run.{Run}

module _ {S : Type 0} where
  -- the set is in the pool with the number, under the key with the id
  unfoldable pub at_place : ℕ → ℕ → DescriptorSet S → Bool
  at_place id n x = nat_eq x.id id && nat_eq x.number n

  -- the same by the key, which the code does not see
  unfoldable pub lies_at : Key → ℕ → DescriptorSet S → Bool
  lies_at k n x = key_eq x.key.is k && nat_eq x.number n

module _ {T S : Type 0} (steps : T → Option (DescriptorSet S) → T → Type 0) where
  -- calls from s gave xs, which pass, and then nothing, or a set that doesn't
  abbrev pub EndsRun : (DescriptorSet S → Bool) → T → List (DescriptorSet S) → Option (DescriptorSet S) → T → Type 0
  EndsRun test s xs r t = AllByRecursion (λ x. test x ≡ true) xs × YieldsThen steps s xs r t × IfSome r (λ y. test y ≡ false)

  -- one step of a run looks at the set ahead, or else at the source's next one. A set of the run's place is yielded and counted, and one of another stays ahead
  abbrev pub RunStep : (T → Type 0) → (T → Count) → Run T S → Option S → Run T S → Type 0
  RunStep can left s r t = (o : Option (DescriptorSet S))
      × MatchOption s.ahead.now (steps s.source.now o t.source.now × MakesProgress can left s.source.now o t.source.now) (λ x. (o ≡ Some x) × (t.source.now ≡ s.source.now))
      × MatchOption r (IfSome o (λ x. at_place s.id s.number x ≡ false) × (t ≡ record s { source = record s.source { now = t.source.now }; ahead = record s.ahead { now = o } }))
      (λ y. (x : DescriptorSet S) × (o ≡ Some x) × (at_place s.id s.number x ≡ true) × (x.raw ≡ y)
      × (t ≡ record s { source = record s.source { now = t.source.now }; ahead = record s.ahead { now = None }; count = (s.count + 1) % 2 ^ 32 }))
