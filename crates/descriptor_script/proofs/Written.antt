-- A pool that is written in the table of the live pools: for `Pools::grant`, `release` and `count_refusal`.
-- `m` is the table before, `n` after; `next` is the name that came next before, `later` that which comes next after.
use Rattle.std.proofs.lemmas.Grind.{common_steps}
use Rattle.std.proofs.Common.{◌≡◌, ℕ, ◌+◌, ◌≤◌, true, false, cond, nat_eq, eqb-true, Option, Some, None, is_some, List, [], ◌∷◌, ◌++◌, map, refl, sym, ap, ◌∙◌, arith, subst}
use Rattle.std.proofs.Math.Path.{fun_ext}
use Rattle.std.specs.List.{range_with_len}
use Rattle.std.specs.Option.{option_map}
use Rattle.std.proofs.lemmas.Bool.{cases_Bool, true≢false}
use Rattle.std.proofs.lemmas.List.{map-append}
use Rattle.std.proofs.lemmas.Option.{none-some}
use Rattle.indexmap.specs.IndexMap.{IndexMap, get, WritesThrough}
use Rattle.gpu_descriptor_types.specs.Counts.{kinds}
use Rattle.gpu_descriptor_types.specs.Ledger.{Pool, on_pool, live_sets}
use Rattle.gpu_descriptor_types.specs.Multiset.{times}
use Rattle.gpu_descriptor_types.specs.declared.counts.DescriptorTotalCount.{DescriptorTotalCount}
use Rattle.gpu_descriptor_types.proofs.Counting.{count_by-append}
use Rattle.descriptor_script.specs.Inner.Live.{live_set_of, live_sets_of}
use Rattle.descriptor_script.specs.Scripted.Raw.{set_id, raw_set, raw_sets}
use Rattle.descriptor_script.specs.Inner.Table.{seen, pools_in, has_set, PoolsAreBelow, SetsAreBelow}
use Rattle.descriptor_script.specs.declared.live.LivePool.{LivePool}

-- the pool of this name was old and is now new, and the others stay
pub record IsWritten {S : Type 0} (m n : IndexMap ℕ LivePool S) (name : ℕ) (old new : LivePool) : Type 0 where
  pub was : get nat_eq m name ≡ Some old
  pub now : (q : ℕ) → get nat_eq n q ≡ cond (nat_eq name q) (Some new) (get nat_eq m q)

-- the names of pools after a write through `get_mut`
pub written : {S : Type 0} (m n : IndexMap ℕ LivePool S) (name : ℕ) (old new : LivePool) → Some old ≡ get nat_eq m name → WritesThrough nat_eq (nat_eq name) m new n → IsWritten m n name old new
written m n name old new was through = record { was = sym was; now = (through.3 (ap is_some (sym was))).0 }

none_from : {X : Type 0} (o : Option X) → is_some o ≡ false → o ≡ None
none_from x0 h = grind (arith, common_steps)

module _ {S : Type 0} {m n : IndexMap ℕ LivePool S} {name : ℕ} {old new : LivePool} (h : IsWritten m n name old new) where
  -- the old pool is found under each name that is its own
  was_at : (q : ℕ) → nat_eq name q ≡ true → get nat_eq m q ≡ Some old
  was_at q same = subst (λ k. get nat_eq m k ≡ Some old) (eqb-true name q same) h.was

  -- names that are still to come are those of no pool, and further below of no set, after as before
  pub pools_below : (next : ℕ) → PoolsAreBelow m next → PoolsAreBelow n next
  pools_below next below q above = grind (arith, common_steps, cases_Bool, cond, true≢false, was_at)

  pub sets_below : (next later : ℕ) → next ≤ later → SetsAreBelow m next → ((j : ℕ) → later ≤ j → get nat_eq new.sets j ≡ None) → SetsAreBelow n later
  sets_below next later le below fresh q j above = grind (arith, common_steps, cases_Bool, cond)

  pub free_names : (next : ℕ) → SetsAreBelow m next → (j : ℕ) → next ≤ j → get nat_eq old.sets j ≡ None
  free_names next below j above = none_from (get nat_eq old.sets j) (sym (ap (has_set j) h.was) ∙ below name j above)

  -- no set was put
  pub sets_still_below : (next : ℕ) → SetsAreBelow m next → ((j : ℕ) → get nat_eq old.sets j ≡ None → get nat_eq new.sets j ≡ None) → SetsAreBelow n next
  sets_still_below next below fresh = sets_below next next (omega arith) below (λ j above. fresh j (free_names next below j above))

  pub seen_was : pools_in m name ≡ Some (seen old)
  seen_was = ap (option_map seen) h.was

  -- the ledger's pool is changed so, and the others stay
  pub on_written : (f : Pool → Pool) → seen new ≡ f (seen old) → pools_in n ≡ on_pool name f (pools_in m)
  on_written f is = grind (arith, common_steps, cond, fun_ext, seen_was)

-- the sets that were put under names are those of their entries
entries_sets : (c : DescriptorTotalCount) (pool : ℕ) (names : List ℕ) → live_sets_of (map (λ n. (n, c)) names) ≡ live_sets (kinds c) (map set_id (map (raw_set pool) names))
entries_sets c pool [] = refl
entries_sets c pool (n ∷ names) = ap (λ l. live_set_of (n, c) ∷ l) (entries_sets c pool names)

-- the sets that were put are live besides those that were
pub more_live : (old new : List (ℕ × DescriptorTotalCount)) (c : DescriptorTotalCount) (pool first many : ℕ) → new ≡ old ++ map (λ n. (n, c)) (range_with_len first many)
    → times (live_sets_of new) ≡ (λ x. times (live_sets_of old) x + times (live_sets (kinds c) (map set_id (raw_sets pool first many))) x)
more_live old new c pool first many is = grind (arith, common_steps, count_by-append, entries_sets, fun_ext, map-append)

-- the ledger shows the pool that the table has
pub same_pool : {S : Type 0} (m : IndexMap ℕ LivePool S) (name : ℕ) (old : LivePool) (pool : Pool) → Some old ≡ get nat_eq m name → pools_in m name ≡ Some pool → pool ≡ seen old
same_pool m name old pool was live = (let h : Some pool ≡ Some (seen old) = sym live ∙ ap (option_map seen) (sym was) in cc)

-- a pool that the ledger shows is in the table
pub none_is_live : {S : Type 0} (m : IndexMap ℕ LivePool S) (name : ℕ) (pool : Pool) → None ≡ get nat_eq m name → pools_in m name ≡ Some pool → ⊥
none_is_live m name pool was live = (none-some pool (ap (option_map seen) was ∙ live))
