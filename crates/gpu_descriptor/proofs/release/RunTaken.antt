-- What a run took of the caller's iterator.
-- For `release_sets`, by release.OneRun: a device takes raw sets of a Run up to its end. s is the Run at first, with x ahead; t and u
-- are later ones; xs are the sets that the source gave then, ys the raw ones that the Run gave.
use Rattle.gpu_descriptor.proofs.Common.{ap, ◌≡◌, ℕ, ◌+◌, ◌<◌, ◌≤◌, ◌^◌, List, [], ◌∷◌, length, map, true, false, refl, sym, subst, ◌∙◌, arith, Option, Some, None, MatchOption, IfSome, OnSome, Count, IsFinite, size, IsNearerEnd, MakesProgress, Yields, YieldsThen, DescriptorSet, Run, AllByRecursion, RunStep, same_Some, false≢true}
use Rattle.std.specs.Prelude.{◌%◌}
use Rattle.gpu_descriptor.specs.Inner.RunSteps.{at_place}

module _ {T S : Type 0} (steps : T → Option (DescriptorSet S) → T → Type 0) (can : T → Type 0) (left : T → Count) (id number : ℕ) where
  -- what a step looked at: the source, if there was no set ahead
  looks : (s t : T) (a b o : Option (DescriptorSet S)) → a ≡ b → MatchOption a (steps s o t × MakesProgress can left s o t) (λ x. (o ≡ Some x) × (t ≡ s)) → MatchOption b (steps s o t × MakesProgress can left s o t) (λ x. (o ≡ Some x) × (t ≡ s))
  looks s t a b o same look = subst (λ (c : Option (DescriptorSet S)). MatchOption c (steps s o t × MakesProgress can left s o t) (λ x. (o ≡ Some x) × (t ≡ s))) same look

  -- the steps from s, which has no set ahead, gave ys
  pub record Took (s : Run T S) (ys : List S) (t : Run T S) : Type 0 where
    pub xs : List (DescriptorSet S)
    pub raws : map (λ x. x.raw) xs ≡ ys
    pub here : AllByRecursion (λ y. at_place id number y ≡ true) xs
    pub came : Yields steps s.source.now xs t.source.now
    pub is : t ≡ record s { source = record s.source { now = t.source.now }; count = t.count }
    pub count : s.count + length ys < 2 ^ 32 → t.count ≡ s.count + length ys
    pub ends : IsFinite (left s.source.now) → IsFinite (left t.source.now) × (size (left t.source.now) ≤ size (left s.source.now))

  -- by induction over what the steps gave
  took : (ys : List S) (s t : Run T S) → s.ahead.now ≡ None → s.id ≡ id → s.number ≡ number → Yields (RunStep steps can left) s ys t → Took s ys t
  took [] s t none i n z = subst (λ (u : Run T S). Took s [] u) z (record { xs = []; raws = refl; here = tt; came = refl; is = refl; count = λ fits. omega arith; ends = λ f. (f, omega arith) })
  took (y ∷ ys) s t none i n z =
      let j = z.0 in
      let step = z.1 in
      let gave = step.2 in
      let asked = looks s.source.now j.source.now s.ahead.now None step.0 none step.1 in
      let w = took ys j t (ap (λ (r : Run T S). r.ahead.now) gave.4) (ap (λ (r : Run T S). r.id) gave.4 ∙ i) (ap (λ (r : Run T S). r.number) gave.4 ∙ n) z.2 in
      record {
        xs = gave.0 ∷ w.xs;
        raws = λ k. gave.3 k ∷ w.raws k;
        here = (rw (← i, ← n) gave.2, w.here);
        came = (j.source.now, subst (λ (o : Option (DescriptorSet S)). steps s.source.now o j.source.now) gave.1 asked.0, w.came);
        is = w.is ∙ (λ k. record (gave.4 k) { source = record (gave.4 k).source { now = t.source.now }; count = t.count }) ∙ (λ k. record s { source = record s.source { now = t.source.now }; ahead = record s.ahead { now = sym none k }; count = t.count });
        count = λ fits. (let one = ap (λ (r : Run T S). r.count) gave.4 in let rest = w.count (omega arith) in omega arith);
        ends = λ f.
            let p = subst (λ (o : Option (DescriptorSet S)). OnSome o (IsNearerEnd can left s.source.now j.source.now)) gave.1 (asked.1.on f) in
            let q = w.ends p.1 in
            (q.0, (let less = p.2 in let more = q.1 in omega arith));
      }

  -- the run once its first set is yielded
  abbrev begun : Run T S → Run T S
  begun s = record s { ahead = record s.ahead { now = None }; count = (s.count + 1) % 2 ^ 32 }

  -- the first items of a run that began with x ahead
  pub record Front (s : Run T S) (x : DescriptorSet S) (y : S) (ys : List S) (t : Run T S) : Type 0 where
    pub raw : x.raw ≡ y
    pub own : at_place id number x ≡ true
    pub later : Took (begun s) ys t

  pub front : (s t : Run T S) (x : DescriptorSet S) (y : S) (ys : List S) → s.ahead.now ≡ Some x → s.id ≡ id → s.number ≡ number → Yields (RunStep steps can left) s (y ∷ ys) t → Front s x y ys t
  front s t x y ys ahead i n z =
      let j = z.0 in
      let step = z.1 in
      let gave = step.2 in
      let look : (step.0 ≡ Some x) × (j.source.now ≡ s.source.now) = looks s.source.now j.source.now s.ahead.now (Some x) step.0 ahead step.1 in
      let same : gave.0 ≡ x = same_Some gave.0 x (sym gave.1 ∙ look.0) in
      let is : j ≡ begun s = gave.4 ∙ (λ k. record (begun s) { source = record s.source { now = look.1 k } }) in
      record {
        raw = ap (λ (v : DescriptorSet S). v.raw) (sym same) ∙ gave.3;
        own = rw (← i, ← n, ← same) gave.2;
        later = took ys (begun s) t refl i n (subst (λ (r : Run T S). Yields (RunStep steps can left) r ys t) is z.2);
      }

  -- a whole run that began with x ahead
  pub record Whole (s : Run T S) (x : DescriptorSet S) (ys : List S) (u : Run T S) : Type 0 where
    pub xs : List (DescriptorSet S)
    pub raws : map (λ v. v.raw) (x ∷ xs) ≡ ys
    pub here : AllByRecursion (λ y. at_place id number y ≡ true) xs
    pub came : YieldsThen steps s.source.now xs u.ahead.now u.source.now
    pub apart : IfSome u.ahead.now (λ v. at_place id number v ≡ false)
    pub source : u.source.ghost_name ≡ s.source.ghost_name
    pub ahead : u.ahead.ghost_name ≡ s.ahead.ghost_name
    pub count : s.count + length ys < 2 ^ 32 → u.count ≡ s.count + length ys
    pub ends : IsFinite (left s.source.now) → OnSome u.ahead.now (IsNearerEnd can left s.source.now u.source.now)

  nearer : (s t u : T) (o : Option (DescriptorSet S)) → size (left t) ≤ size (left s) → OnSome o (IsNearerEnd can left t u) → OnSome o (IsNearerEnd can left s u)
  nearer s t u None le b = tt
  nearer s t u (Some x) le b = (b.0, b.1, (let less = b.2 in omega arith))

  pub whole : (s u : Run T S) (x : DescriptorSet S) (ys : List S) → s.ahead.now ≡ Some x → s.id ≡ id → s.number ≡ number → at_place id number x ≡ true → YieldsThen (RunStep steps can left) s ys None u → Whole s x ys u
  whole s u x [] ahead i n own z =
      let t = z.0 in
      let step = z.2 in
      let look : (step.0 ≡ Some x) × (u.source.now ≡ t.source.now) = looks t.source.now u.source.now t.ahead.now (Some x) step.0 (ap (λ (r : Run T S). r.ahead.now) (sym z.1) ∙ ahead) step.1 in
      let apart : at_place t.id t.number x ≡ false = subst (λ (o : Option (DescriptorSet S)). IfSome o (λ v. at_place t.id t.number v ≡ false)) look.0 step.2.0 in
      let there : at_place s.id s.number x ≡ false = subst (λ (r : Run T S). at_place r.id r.number x ≡ false) (sym z.1) apart in
      absurd (false≢true (sym (rw (← i, ← n) there) ∙ own))
  whole s u x (y ∷ ys) ahead i n own z =
      let t = z.0 in
      let step = z.2 in
      let f = front s t x y ys ahead i n z.1 in
      let w = f.later in
      let none : t.ahead.now ≡ None = ap (λ (r : Run T S). r.ahead.now) w.is in
      let asked = looks t.source.now u.source.now t.ahead.now None step.0 none step.1 in
      let is : step.0 ≡ u.ahead.now = sym (ap (λ (r : Run T S). r.ahead.now) step.2.1) in
      record {
        xs = w.xs;
        raws = λ k. f.raw k ∷ w.raws k;
        here = w.here;
        came = (t.source.now, w.came, subst (λ (o : Option (DescriptorSet S)). steps t.source.now o u.source.now) is asked.0);
        apart = subst (λ (o : Option (DescriptorSet S)). IfSome o (λ v. at_place id number v ≡ false)) is
            (subst (λ (k : ℕ). IfSome step.0 (λ v. at_place k number v ≡ false)) (ap (λ (r : Run T S). r.id) w.is ∙ i) (subst (λ (k : ℕ). IfSome step.0 (λ v. at_place t.id k v ≡ false)) (ap (λ (r : Run T S). r.number) w.is ∙ n) step.2.0));
        source = ap (λ (r : Run T S). r.source.ghost_name) step.2.1 ∙ ap (λ (r : Run T S). r.source.ghost_name) w.is;
        ahead = ap (λ (r : Run T S). r.ahead.ghost_name) step.2.1 ∙ ap (λ (r : Run T S). r.ahead.ghost_name) w.is;
        count = λ fits. (let last = ap (λ (r : Run T S). r.count) step.2.1 in let rest = w.count (omega arith) in omega arith);
        ends = λ f.
            let p = w.ends f in
            nearer s.source.now t.source.now u.source.now u.ahead.now p.1 (subst (λ (o : Option (DescriptorSet S)). OnSome o (IsNearerEnd can left t.source.now u.source.now)) is (asked.1.on p.0));
      }
