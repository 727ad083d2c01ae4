-- One run: what the device may take of the caller's iterator, and what it took.
-- For `release_sets`. x is the run's first set, s and u are the Run before and after; e is the entry of its pool, at place p of b.
use Rattle.gpu_descriptor.proofs.Common.{entry_at, ◌≡◌, ℕ, ◌≤◌, true, List, [], ◌∷◌, length, map, slice_get, refl, sym, ap, subst, ◌∙◌, arith, eq-eqb, Option, Some, None, Count, HoldsAlong, Yields, YieldsThen, and_from, length-map, Pool}
use Rattle.gpu_descriptor.proofs.Common.{Ledger, AreLive, live_sets, CanFree, LiveSet, DescriptorSet, live_in, Key, Entry, Bucket, Run, AreBookedIn, IsTakenAt, names_of, RunStep, EndsRun, AllByRecursion, IsFinite, IsNearerEnd, OnSome, flags_of}
use Rattle.gpu_descriptor.specs.Inner.RunSteps.{at_place}
use Rattle.gpu_descriptor.proofs.release.BucketRun.{AreTaken, can_take, took_these, length_names, place_fits}
use Rattle.gpu_descriptor.proofs.release.RunTaken.{Whole, front, whole}

pub at_own : {S : Type 0} (x : DescriptorSet S) → at_place x.id x.number x ≡ true
unfolding at_place
at_own x = and_from _ _ (eq-eqb x.id x.id refl) (eq-eqb x.number x.number refl)

pub names : {S : Type 0} (name : S → ℕ) (xs : List (DescriptorSet S)) → map name (map (λ x. x.raw) xs) ≡ names_of name xs
names name [] = refl
names name (x ∷ xs) = ap (λ ns. name x.raw ∷ ns) (names name xs)

-- the device may take single sets of marked and of other pools
can_free : (k : Key) → CanFree (flags_of k)
can_free k = grind arith

module _ {T S : Type 0} (steps : T → Option (DescriptorSet S) → T → Type 0) (can : T → Type 0) (left : T → Count) (name : S → ℕ) where
  -- whatever run comes, its sets are in the place
  abbrev pub Takes : T → DescriptorSet S → Bucket → (ℕ → Option Pool) → Type 0
  Takes rest x b pools = HoldsAlong steps rest (λ xs. AllByRecursion (λ y. at_place x.id x.number y ≡ true) xs → IsTakenAt x.key.is x.number (names_of name (x ∷ xs)) b pools)

  -- all that a run gives is live in the place
  pub run_live : (b : Bucket) (l : Ledger) (x : DescriptorSet S) (p : ℕ) (e : Entry) (s : Run T S) → s.ahead.now ≡ Some x → s.id ≡ x.id → s.number ≡ x.number → AreBookedIn x.key.is l.pools b.pools → slice_get b.pools p ≡ Some e → entry_at b x.number ≡ Some e → Takes s.source.now x b l.pools
      → HoldsAlong (RunStep steps can left) s (λ ys. AreLive e.pool (map name ys) l)
  run_live b l x p e s a k i stored at there h ys t z =
      let booked = stored.each p e at in
      let free = subst CanFree (sym booked.2.flags) (can_free x.key.is) in
      let gone = live_names ys t z in
      record {
        pool = booked.0;
        is_live = booked.1;
        can_free = free;
        gone = gone.0;
        named = gone.1.are;
        live = λ y. (let is : live_in l.pools e.pool y ≡ booked.0.live y = rw booked.1 refl in let within = gone.1.within y in omega arith);
      }
    where
      of_names : (k : Key) (ns : List ℕ) → map (λ (l : LiveSet). l.name) (live_sets k.counts ns) ≡ ns
      of_names k [] = refl
      of_names k (n ∷ ns) = ap (λ l. n ∷ l) (of_names k ns)

      live_names : (ys : List S) (t : Run T S) → Yields (RunStep steps can left) s ys t → (ls : List LiveSet) × AreTaken (map name ys) (live_in l.pools e.pool) ls
      live_names [] t z = ([], record { are = refl; within = λ y. omega arith })
      live_names (v ∷ vs) t z =
          let w = front steps can left x.id x.number s t x v vs a k i z in
          let f = w.later in
          let ns = names_of name (x ∷ f.xs) in
          let take = can_take x.key.is x.number ns b l.pools e (h f.xs t.source.now f.came f.here) there in
          subst (λ ms. (ls : List LiveSet) × AreTaken ms (live_in l.pools e.pool) ls) (sym (names name (x ∷ f.xs)) ∙ (λ k. name (w.raw k) ∷ map name (f.raws k))) (live_sets x.key.is.counts ns, record { are = of_names x.key.is ns; within = take.live })

  -- what the device took of a run that began with x ahead
  pub record Done (s : Run T S) (x : DescriptorSet S) (e : Entry) (u : Run T S) (ys : List S) (ls : List LiveSet) : Type 0 where
    pub run : Whole steps can left x.id x.number s x ys u
    pub fits : length (names_of name (x ∷ run.xs)) ≤ e.allocated
    pub count : u.count ≡ length (names_of name (x ∷ run.xs))
    pub sets : ls ≡ live_sets x.key.is.counts (names_of name (x ∷ run.xs))
    pub long : length ls ≡ length (names_of name (x ∷ run.xs))

  pub done : (s : Run T S) (x : DescriptorSet S) (b : Bucket) (pools : ℕ → Option Pool) (p : ℕ) (e : Entry) (u : Run T S) (ys : List S) (ls : List LiveSet) → s.ahead.now ≡ Some x → s.id ≡ x.id → s.number ≡ x.number → s.count ≡ 0
      → AreBookedIn x.key.is pools b.pools → slice_get b.pools p ≡ Some e → entry_at b x.number ≡ Some e → Takes s.source.now x b pools
      → YieldsThen (RunStep steps can left) s ys None u → AreTaken (map name ys) (live_in pools e.pool) ls → Done s x e u ys ls
  done s x b pools p e u ys ls ahead k i none stored at there h gives are =
      let run = whole steps can left x.id x.number s u x ys ahead k i (at_own x) gives in
      let ns = names_of name (x ∷ run.xs) in
      let take = can_take x.key.is x.number ns b pools e (h run.xs run.came.0 run.came.1 run.here) there in
      let raws : map name ys ≡ ns = ap (λ zs. map name zs) (sym run.raws) ∙ names name (x ∷ run.xs) in
      let sets : ls ≡ live_sets x.key.is.counts ns = took_these x.key.is b pools p e ns ls stored at (subst (λ ms. AreTaken ms (live_in pools e.pool) ls) raws are) in
      let small = place_fits x.key.is b pools p e stored at in
      let fits = take.fits in
      let long : length ns ≡ length ys = ap length (sym raws) ∙ length-map ys name in
      let count = run.count (omega arith) in
      record { run = run; fits = fits; count = omega arith; sets = sets; long = ap (λ (l : List LiveSet). length l) sets ∙ length_names x.key.is ns }

  -- where the run ended, and that the iterator came nearer to its end
  module _ {s u : Run T S} {x : DescriptorSet S} {e : Entry} {ys : List S} {ls : List LiveSet} (d : Done s x e u ys ls) {a : Option (DescriptorSet S)} {v : T} (ahead : a ≡ u.ahead.now) (source : v ≡ u.source.now) where
    pub run_ends : EndsRun steps (at_place x.id x.number) s.source.now d.run.xs a v
    run_ends = rw (ahead, source) (d.run.here, d.run.came, d.run.apart)

    pub run_goes : IsFinite (left s.source.now) → OnSome a (IsNearerEnd can left s.source.now v)
    run_goes ends = rw (ahead, source) (d.run.ends ends)
