-- What the loop over the runs keeps.
-- For `free_from`: Freed is the invariant of its loop. first is the iterator before the loop, old and before are the allocator and its
-- ledger then; now and mid are those of this turn; x is in hand and begins the next run, and rest is the iterator after it.
use Rattle.gpu_descriptor.proofs.Common.{search_digits, ◌≡◌, ℕ, ◌+◌, ◌<◌, true, false, ◌&&◌, ◌==◌, List, [], ◌∷◌, ◌++◌, sum_by, refl, sym, ap, subst, ◌∙◌, arith, append_assoc, append-nil, length-append, Option, Some, None, MatchOption, OnSome, IfSome, Count, HoldsAlong, IsFinite, IsNearerEnd}
use Rattle.gpu_descriptor.proofs.Common.{MakesProgress, size, Yields, YieldsThen, and_parts, and_from, map-append, sum_by-append, side, Meaning, Counters, Ledger, bool_iff, DescriptorSet, State, Item, AreOutstanding, Agree, count_of, Key, key_eq, Allocations, common_steps, set_descriptors}
use Rattle.gpu_descriptor.proofs.Common.{more_released, more_destroyed, released, given_back, pools_gone, run_digits, GivesBack, EndsRun, runs, item_of, items_of, AllByRecursion, state_of, Compares}
use Rattle.std.proofs.iter.Next.{Yields-more}
use Rattle.gpu_descriptor.specs.Inner.RunSteps.{lies_at}
use Rattle.gpu_descriptor.specs.Caller.States.{keys_of}
use Rattle.gpu_descriptor.proofs.release.Comparisons.{run_digits_more}
use Rattle.gpu_descriptor.proofs.cleanup.Counted.{gone}
use Rattle.gpu_descriptor.proofs.table.Exact.{key_exact}
use Rattle.gpu_descriptor.proofs.callers.HeldSets.{count_of-append}
use Rattle.gpu_descriptor.proofs.release.ReleaseAgrees.{agrees, takes, none_back}
use Rattle.gpu_descriptor.proofs.release.WholeRun.{at_from, at_parts, lies_own}
use Rattle.gpu_descriptor.proofs.release.Parts.{parts}

-- with x in hand one set more is to come
abbrev pub weight : {A : Type 0} → Option A → ℕ → ℕ
weight None n = 0
weight (Some x) n = n + 1

-- the list is empty or begins in another place
abbrev pub BeginsApart : {S : Type 0} → Key → ℕ → List (DescriptorSet S) → Type 0
BeginsApart k n [] = Unit {0}
BeginsApart k n (y ∷ ys) = lies_at k n y ≡ false

-- whether a neighbour lies in the same place
same_spot : {S : Type 0} (k : Key) (n : ℕ) (x y : DescriptorSet S) → lies_at k n x ≡ true → (key_eq x.key.is y.key.is && (x.number == y.number)) ≡ lies_at k n y
same_spot k n x y own = grind (arith, common_steps, and_from, and_parts, at_from, at_parts, bool_iff, key_exact)

-- the counters after both
counters_both : (a b m n : ℕ) (c : Counters) → more_destroyed m (more_released n (more_destroyed a (more_released b c))) ≡ more_destroyed (a + m) (more_released (b + n) c)
counters_both a b m n c = grind arith

counters_none : (c : Counters) → c ≡ more_destroyed 0 (more_released 0 c)
counters_none c = grind arith

none_gone : (keys : List Key) (s : State) → 0 ≡ pools_gone keys [] s
none_gone keys s = go keys
  where
    go : (keys : List Key) → 0 ≡ sum_by (λ k. 0) keys
    go [] = refl
    go (k ∷ keys) = go keys ∙ sym (sum_by-append (λ (l : Key). 0) (k ∷ []) keys ∙ (omega arith))

module _ {L P S : Type 0} (means : Meaning L P S) where
  abbrev pub items : List (DescriptorSet S) → List Item
  items xs = items_of means.set_name xs

  -- a run before sets of another place is one run more
  pub run_then : (k : Key) (n : ℕ) (x : DescriptorSet S) (xs zs : List (DescriptorSet S)) → lies_at k n x ≡ true → AllByRecursion (λ y. lies_at k n y ≡ true) xs → BeginsApart k n zs → runs (items ((x ∷ xs) ++ zs)) ≡ 1 + runs (items zs)
  run_then k n x [] [] own have apart = refl
  run_then k n x [] (z ∷ zs) own have apart = grind (arith, same_spot)
  run_then k n x (y ∷ ys) zs own have apart = grind (arith, common_steps, same_spot, (run_then k n y ys zs have.0 have.1 apart))

  items-append : (xs ys : List (DescriptorSet S)) → items (xs ++ ys) ≡ items xs ++ items ys
  items-append xs ys = map-append (λ (x : DescriptorSet S). item_of means.set_name x) xs ys

  both : {T : Type 0} (steps : T → Option (DescriptorSet S) → T → Type 0) (xs ys : List (DescriptorSet S)) (s t u : T) → Yields steps s xs t → Yields steps t ys u → Yields steps s (xs ++ ys) u
  both steps [] ys s t u a b = subst (λ k. Yields steps k ys u) (sym a) b
  both steps (x ∷ xs) ys s t u a b = (a.0, a.1, both steps xs ys a.0 t u a.2 b)

  none_both : (xs ys : List (DescriptorSet S)) → xs ++ ys ≡ [] → (xs ≡ []) × (ys ≡ [])
  none_both [] ys none = (refl, none)
  none_both (x ∷ xs) ys none = absurd (let bad : ◌≡◌ {A = List (DescriptorSet S)} (x ∷ (xs ++ ys)) [] = none in cc)

  -- two lists that go back one after the other go back as one
  pub gives_both : (xs ys : List (DescriptorSet S)) (m n : ℕ) (old now new : Allocations P) (before mid after : Ledger) → Agree (state_of means.pool_name old before) → AreOutstanding (items xs ++ items ys) (state_of means.pool_name old before) → keys_of now ≡ keys_of old
      → GivesBack means xs m (side old before) (side now mid) → GivesBack means ys n (side now mid) (side new after) → GivesBack means (xs ++ ys) (m + n) (side old before) (side new after)
  gives_both xs ys m n old now new before mid after agree out keys one two =
      let s = state_of means.pool_name old before in
      let whole = items-append xs ys in
      let first = one.counters in
      let second : after.counters ≡ more_destroyed (pools_gone (keys_of old) (items ys) (released (items xs) s)) (more_released n mid.counters) =
      two.counters ∙ ap (λ (ks : List Key). more_destroyed (pools_gone ks (items ys) (state_of means.pool_name now mid)) (more_released n mid.counters)) keys
      ∙ ap (λ (t : State). more_destroyed (pools_gone (keys_of old) (items ys) t) (more_released n mid.counters)) one.state in
      let sum : pools_gone (keys_of old) (items xs) s + pools_gone (keys_of old) (items ys) (released (items xs) s) ≡ pools_gone (keys_of old) (items (xs ++ ys)) s =
      gone (keys_of old) (items xs) (items ys) s agree out ∙ ap (λ (l : List Item). pools_gone (keys_of old) l s) (sym whole) in
      let long = length-append xs ys in
      let load = ap (sum_by (λ (t : Item). set_descriptors t.key 1)) whole ∙ sum_by-append (λ (t : Item). set_descriptors t.key 1) (items xs) (items ys) in
      let a = one.outstanding in
      let b = two.outstanding in
      let c = one.marked in
      let d = two.marked in
      record {
        state = two.state ∙ ap (released (items ys)) one.state ∙ parts (items xs) (items ys) s agree out ∙ ap (λ (l : List Item). released l s) (sym whole);
        counters = second
            ∙ ap (λ (k : Counters). more_destroyed (pools_gone (keys_of old) (items ys) (released (items xs) s)) (more_released n k)) first
            ∙ counters_both (pools_gone (keys_of old) (items xs) s) m (pools_gone (keys_of old) (items ys) (released (items xs) s)) n before.counters
            ∙ ap (λ (g : ℕ). more_destroyed g (more_released (m + n) before.counters)) sum;
        outstanding = omega arith;
        marked = omega arith;
        returned = λ u. let e = one.returned u in let f = two.returned u in let g = ap (count_of u) whole ∙ count_of-append u (items xs) (items ys) in omega arith;
        none = λ is. let each = none_both xs ys is in let first = one.none each.0 in let second = two.none each.1 in (second.0 ∙ first.0, second.1 ∙ first.1);
      }

  pub gives_none : (old : Allocations P) (before : Ledger) → GivesBack means [] 0 (side old before) (side old before)
  gives_none old before = record {
    state = sym (none_back (state_of means.pool_name old before));
    counters = counters_none before.counters ∙ ap (λ (n : ℕ). more_destroyed n (more_released 0 before.counters)) (none_gone (keys_of old) (given_back [] (state_of means.pool_name old before)));
    outstanding = omega arith;
    marked = omega arith;
    returned = λ u. omega arith;
    none = λ is. (refl, refl);
  }

  module _ {T : Type 0} (steps : T → Option (DescriptorSet S) → T → Type 0) (can : T → Type 0) (left : T → Count) where
    -- y begins a run behind xs
    abbrev pub Splits : List (DescriptorSet S) → DescriptorSet S → Type 0
    Splits xs y = (zs : List (DescriptorSet S)) → runs (items (xs ++ y ∷ zs)) ≡ runs (items xs) + runs (items (y ∷ zs))

    -- what comes behind the sets so far
    abbrev pub Comes : T → List (DescriptorSet S) → Option (DescriptorSet S) → T → Type 0
    Comes first xs ahead rest = MatchOption ahead (YieldsThen steps first xs None rest)
        (λ y. Yields steps first (xs ++ y ∷ []) rest × Splits xs y × can rest × IsFinite (left rest))

    -- from `first` on sets went back, and then `ahead` came and left `rest`
    pub record Freed (first : T) (old : Allocations P) (before : Ledger) (now : Allocations P) (after : Ledger) (ahead : Option (DescriptorSet S)) (rest : T) : Type 0 where
      pub sets : List (DescriptorSet S)
      pub back : GivesBack means sets (runs (items sets)) (side old before) (side now after)
      pub agree : Agree (state_of means.pool_name now after)
      pub keys : keys_of now ≡ keys_of old
      pub compares : Compares (run_digits (state_of means.pool_name old before) (items sets)) old.comparisons now.comparisons
      pub comes : Comes first sets ahead rest

    appended : (first : T) (xs : List (DescriptorSet S)) (y : DescriptorSet S) (zs : List (DescriptorSet S)) (rest t : T) → Yields steps first (xs ++ y ∷ []) rest → Yields steps rest zs t → Yields steps first (xs ++ y ∷ zs) t
    appended first xs y zs rest t a b = subst (λ vs. Yields steps first vs t) (append_assoc xs (y ∷ []) zs) (both steps (xs ++ y ∷ []) zs first rest t a b)

    module _ (first : T) (old : Allocations P) (before : Ledger) (now : Allocations P) (mid : Ledger)
        (x : DescriptorSet S) (rest : T) (agree : Agree (state_of means.pool_name old before))
        (out : HoldsAlong steps first (λ xs. AreOutstanding (items xs) (state_of means.pool_name old before)))
        (r : Freed first old before now mid (Some x) rest) where
      -- what is to come is outstanding together with what came
      all_out : (zs : List (DescriptorSet S)) (t : T) → Yields steps rest zs t → AreOutstanding (items r.sets ++ items (x ∷ zs)) (state_of means.pool_name old before)
      all_out zs t z = subst (λ m. AreOutstanding m (state_of means.pool_name old before)) (items-append r.sets (x ∷ zs)) (out (r.sets ++ x ∷ zs) t (appended first r.sets x zs rest t r.comes.0 z))

      came_out : (zs : List (DescriptorSet S)) (t : T) → Yields steps rest zs t → AreOutstanding (items r.sets) (state_of means.pool_name old before)
      came_out zs t z u = grind arith

      -- what is to come is still outstanding, as the next run requires
      pub call_out : HoldsAlong steps rest (λ zs. AreOutstanding (items (x ∷ zs)) (state_of means.pool_name now mid))
      call_out zs t z = grind (arith, common_steps, agree, all_out, came_out, count_of-append, takes)

      -- one turn of the loop: the next run went back, too
      pub freed_more : (new : Allocations P) (after : Ledger) (a : Option (DescriptorSet S)) (t : T) → (xs : List (DescriptorSet S)) → EndsRun steps (lies_at x.key.is x.number) rest xs a t → GivesBack means (x ∷ xs) 1 (side now mid) (side new after) → keys_of new ≡ keys_of now → OnSome a (IsNearerEnd can left rest t)
          → Compares (search_digits ((state_of means.pool_name now mid).books x.key.is)) now.comparisons new.comparisons → Freed first old before new after a t
      freed_more new after a t xs ran gone same n more = record {
        sets = r.sets ++ x ∷ xs;
        back = subst (λ (m : ℕ). GivesBack means (r.sets ++ x ∷ xs) m (side old before) (side new after)) (sym count) (gives_both r.sets (x ∷ xs) (runs (items r.sets)) 1 old now new before mid after agree (all_out xs ran.1.0 ran.1.1) r.keys r.back gone);
        agree = rw gone.state (agrees (items (x ∷ xs)) (state_of means.pool_name now mid) r.agree (call_out xs ran.1.0 ran.1.1));
        keys = same ∙ r.keys;
        compares = (let was = r.compares in let digits = cost in record { rises = omega arith; few = omega arith });
        comes = stop a ran.1.2 ran.2 n;
      }
        where
          -- the run, and what follows in another place
          behind_it : (zs : List (DescriptorSet S)) → BeginsApart x.key.is x.number zs → runs (items (x ∷ (xs ++ zs))) ≡ 1 + runs (items zs)
          behind_it zs b = run_then x.key.is x.number x xs zs (lies_own x) ran.0 b

          -- this run is one, and one more than the runs before it
          alone : runs (items (x ∷ xs)) ≡ 1
          alone = ap (λ zs. runs (items (x ∷ zs))) (sym (append-nil xs)) ∙ behind_it [] tt ∙ refl

          count : runs (items (r.sets ++ x ∷ xs)) ≡ runs (items r.sets) + 1
          count = r.comes.1 xs ∙ ap (λ n. runs (items r.sets) + n) alone

          -- the digits that this run adds
          cost : run_digits (state_of means.pool_name old before) (items (r.sets ++ x ∷ xs)) ≡ run_digits (state_of means.pool_name old before) (items r.sets) + search_digits ((state_of means.pool_name now mid).books x.key.is)
          cost =
              let s = state_of means.pool_name old before in
              let whole = items-append r.sets (x ∷ xs) in
              ap (run_digits s) whole ∙ run_digits_more s (items r.sets) (item_of means.set_name x) (items xs) (ap runs (sym whole) ∙ count) alone
              ∙ ap (λ (t : State). run_digits s (items r.sets) + search_digits (t.books x.key.is)) (sym r.back.state)

          came : Yields steps first (r.sets ++ x ∷ xs) ran.1.0
          came = appended first r.sets x xs rest ran.1.0 r.comes.0 ran.1.1

          -- a set of another place begins the next run
          parted : (y : DescriptorSet S) → lies_at x.key.is x.number y ≡ false → Splits (r.sets ++ x ∷ xs) y
          parted y b zs =
              let whole : runs (items ((r.sets ++ x ∷ xs) ++ y ∷ zs)) ≡ runs (items (r.sets ++ x ∷ (xs ++ y ∷ zs))) = ap (λ vs. runs (items vs)) (append_assoc r.sets (x ∷ xs) (y ∷ zs)) in
              let split = r.comes.1 (xs ++ y ∷ zs) in
              let next = behind_it (y ∷ zs) b in
              let so = count in
              omega arith

          stop : (a : Option (DescriptorSet S)) → steps ran.1.0 a t → IfSome a (λ y. lies_at x.key.is x.number y ≡ false) → OnSome a (IsNearerEnd can left rest t) → Comes first (r.sets ++ x ∷ xs) a t
          stop None s b n = (ran.1.0, came, s)
          stop (Some y) s b n = (Yields-more steps first (r.sets ++ x ∷ xs) ran.1.0 y t came s, parted y b, n.0, n.1)

    -- with each turn fewer sets are to come, so the loop ends
    pub less : (rest : T) (a : Option (DescriptorSet S)) (t : T) → OnSome a (IsNearerEnd can left rest t) → weight a (size (left t)) < size (left rest) + 1
    less rest None t n = omega arith
    less rest (Some y) t n = omega (arith, n.2)

    -- before the first turn
    pub freed_none : (first : T) (old : Allocations P) (before : Ledger) (a : Option (DescriptorSet S)) (rest : T) → Agree (state_of means.pool_name old before) → IsFinite (left first) → steps first a rest → MakesProgress can left first a rest → Freed first old before old before a rest
    freed_none first old before a rest agree finite step goes = record { sets = []; back = gives_none old before; agree = agree; keys = refl; compares = record { rises = omega arith; few = omega arith }; comes = begin a step goes }
      where
        begin : (a : Option (DescriptorSet S)) → steps first a rest → MakesProgress can left first a rest → Comes first [] a rest
        begin None step goes = (first, refl, step)
        begin (Some y) step goes = ((rest, step, refl), (λ zs. let e : runs (items (y ∷ zs)) ≡ 0 + runs (items (y ∷ zs)) = omega arith in e), goes.keeps, (goes.on finite).1)
