-- The live pools of a ledger, after one of them changed.
use Rattle.gpu_descriptor.proofs.Common.{◌≡◌, ◌≢◌, ℕ, ◌+◌, ◌-◌, ◌≤◌, List, [], ◌∷◌, length, map, Option, nat_eq, option_map, refl, sym, ap, ◌∙◌, arith, eq-eqb, ne_eqb, update, Pool, Counters, Ledger, after_release, live_sets, LiveSet, set_eq, times, set_exact, count_by_yes, all_taken_out, HasSize}
use Rattle.gpu_descriptor.proofs.Common.{Key, common_steps, more_destroyed, pool_less}

-- the pools with this at a name, and all else as it was
abbrev pub with_pool : (ℕ → Option Pool) → ℕ → Option Pool → ℕ → Option Pool
with_pool pools pool to = update nat_eq pools pool to

-- the pools after sets left one
abbrev pub taken_from : (ℕ → Option Pool) → ℕ → List LiveSet → ℕ → Option Pool
taken_from pools pool ls = with_pool pools pool (option_map (pool_less (times ls)) (pools pool))

pub with_pool_same : (pools : ℕ → Option Pool) (pool : ℕ) (to : Option Pool) → with_pool pools pool to pool ≡ to
with_pool_same pools pool to = rw (eq-eqb pool pool refl) refl

pub with_pool_other : (pools : ℕ → Option Pool) (pool p : ℕ) (to : Option Pool) → p ≢ pool → with_pool pools pool to p ≡ pools p
with_pool_other pools pool p to other = rw (ne_eqb pool p (λ e. other (sym e))) refl

pub release_pools : (pool : ℕ) (ls : List LiveSet) (l : Ledger) → (after_release pool ls l).pools ≡ taken_from l.pools pool ls
release_pools pool ls l = grind arith

pub destroyed_both : (m n : ℕ) (c : Counters) → more_destroyed n (more_destroyed m c) ≡ more_destroyed (m + n) c
destroyed_both m n c = (let e : c.destroyed + m + n ≡ c.destroyed + (m + n) = omega arith in λ i. record c { destroyed = e i })

-- a part that a pool has leaves the rest, as many fewer
pub size_minus : (live : LiveSet → ℕ) (a : ℕ) (ls : List LiveSet) → HasSize live a → ((x : LiveSet) → times ls x ≤ live x) → (length ls ≤ a) × HasSize (λ x. live x - times ls x) (a - length ls)
size_minus live a ls size fits =
    let out = all_taken_out set_exact ls size.0 (λ x. rw (size.2 x) (fits x)) in
    grind (arith, common_steps)

times_more : (l : LiveSet) (ls : List LiveSet) (x : LiveSet) → times ls x ≤ times (l ∷ ls) x
times_more l ls x = grind (arith, common_steps)

-- sets that all have the key's counts are those of their names
pub only_these : (k : Key) (names : List ℕ) (ls : List LiveSet) → map (λ x. x.name) ls ≡ names → ((x : LiveSet) → 1 ≤ times ls x → x.counts ≡ k.counts) → ls ≡ live_sets k.counts names
only_these k names ls is each = go ls each ∙ ap (live_sets k.counts) is
  where
    go : (ls : List LiveSet) → ((x : LiveSet) → 1 ≤ times ls x → x.counts ≡ k.counts) → ls ≡ live_sets k.counts (map (λ x. x.name) ls)
    go [] each = refl
    go (l ∷ ls) each =
        let own : times (l ∷ ls) l ≡ times ls l + 1 = count_by_yes (λ y. set_eq y l) l ls (set_exact.self l) ∙ omega arith in
        let counts : l.counts ≡ k.counts = each l (omega arith) in
        let rest = go ls (λ x some. each x (let more = times_more l ls x in omega arith)) in
        λ i. record { name = l.name; counts = counts i } ∷ rest i
