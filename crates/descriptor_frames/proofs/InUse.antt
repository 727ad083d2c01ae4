-- What is outstanding and in use, when sets are retired and go back: for `FrameManager::allocate`, `retire` and `finish`.
-- `all` is a list of the sets `xs` and then `ys`, `u` an item; `s` and `t` are the state before and after.
use Rattle.std.proofs.lemmas.Grind.{common_steps}
use Rattle.std.proofs.Common.{◌≡◌, ℕ, ◌+◌, ◌-◌, ◌≤◌, List, ◌++◌, IfOk, OnErr, Result, refl, ap, ◌∙◌, arith}
use Rattle.gpu_descriptor.specs.declared.errors.AllocationError.{AllocationError}
use Rattle.std.proofs.lemmas.Result.{IfOk-weaker}
use Rattle.gpu_descriptor.specs.Caller.Call.{layout_key, map_ok}
use Rattle.gpu_descriptor.specs.Caller.HandsOut.{HandsOut}
use Rattle.gpu_descriptor.specs.Caller.Keeps.{Keeps}
use Rattle.gpu_descriptor.specs.Caller.Values.{Allocations}
use Rattle.gpu_descriptor_types.specs.Meaning.{Meaning}
use Rattle.gpu_descriptor_types.specs.Side.{side}
use Rattle.gpu_descriptor.specs.Model.Agreement.{AreOutstanding, Item, State, count_of, outstanding}
use Rattle.gpu_descriptor.specs.Model.Promises.{AreOutBesides, KeepsOutstanding}
use Rattle.gpu_descriptor_types.specs.Ledger.{Ledger}
use Rattle.gpu_descriptor.specs.Caller.Sets.{AreOfLayout, items_of}
use Rattle.gpu_descriptor.specs.Caller.States.{state_of}
use Rattle.gpu_descriptor.specs.declared.set.DescriptorSet.{DescriptorSet}
use Rattle.gpu_descriptor.proofs.callers.HeldSets.{count_parts}
use Rattle.descriptor_frames.specs.Frames.{AreInUse, AreRetiredOut, HandsOutForUse, KeepsRetired, Retires, allocator_of, retired_items, retired_of, state_in}
use Rattle.descriptor_frames.specs.Retired.{AreInOrder, retired_sets}
use Rattle.descriptor_frames.specs.declared.manager.FrameManager.{FrameManager}

-- ---- a list in two parts

module _ {S : Type 0} (name : S → ℕ) (xs ys all : List (DescriptorSet S)) (is : all ≡ xs ++ ys) where
  -- a set stands in the whole as often as in both parts
  count_whole : (u : Item) → count_of u (items_of name all) ≡ count_of u (items_of name xs) + count_of u (items_of name ys)
  count_whole u = ap (λ (l : List (DescriptorSet S)). count_of u (items_of name l)) is ∙ count_parts name xs ys u

  -- where the whole was outstanding, the second part still is when the first went back
  pub later_out : (s t : State) → AreOutBesides (items_of name xs) t s → AreOutstanding (items_of name all) s → AreOutstanding (items_of name ys) t
  later_out s t back out u = (let a = count_whole u in let b = out u in let c = back u in omega arith)

  -- then the same sets are outstanding besides the list
  pub same_besides : (s t : State) → AreOutBesides (items_of name xs) t s → (u : Item) → outstanding t u - count_of u (items_of name ys) ≡ outstanding s u - count_of u (items_of name all)
  same_besides s t back u = (let a = count_whole u in let c = back u in omega arith)

  -- the second part joins the first: it was outstanding besides that
  pub joins :
      (s : State) → AreOutstanding (items_of name xs) s
      → ((u : Item) → count_of u (items_of name ys) ≤ outstanding s u - count_of u (items_of name xs))
      → (AreOutstanding (items_of name all) s)
      × ((u : Item)
      → outstanding s u - count_of u (items_of name all) + count_of u (items_of name ys)
      ≡ outstanding s u - count_of u (items_of name xs))
  joins s out used = grind (arith, common_steps, count_whole)

-- ---- a manager that retires sets

-- sets that were in use were appended to the retired ones: they are in use no longer
pub retires :
    {P S : Type 0} (pool_name : P → ℕ) (set_name : S → ℕ) (old new : FrameManager P S) (l : Ledger)
    (xs : List (DescriptorSet S))
    → allocator_of new ≡ allocator_of old → retired_sets (retired_of new) ≡ retired_sets (retired_of old) ++ xs
    → AreRetiredOut pool_name set_name old l → AreInUse pool_name set_name (items_of set_name xs) old l
    → Retires pool_name set_name (items_of set_name xs) old new l
retires pool_name set_name old new l xs same is out used = grind (arith, common_steps, joins)

-- ---- calls of the allocator

-- what holds of a value holds of what is made of it
pub on_made : {X Y : Type 0} (f : X → Y) (P : Y → Type 0) (r : Result X AllocationError) → IfOk r (λ x. P (f x)) → IfOk (map_ok f r) P
on_made f P x2 holds = grind (arith, common_steps)

-- what a request leaves outstanding
still_out : {S E : Type 0} (name : S → ℕ) (r : Result (List (DescriptorSet S)) E) (m : List Item) (s t : State) → IfOk r (λ sets. AreOutBesides (items_of name sets) s t) → OnErr r (KeepsOutstanding s t) → AreOutstanding m s → AreOutstanding m t
still_out name x1 m s t more same out u = grind (arith, common_steps)

-- what a refused request leaves in use
still_in_use : {X E : Type 0} (r : Result X E) (m : List Item) (s t : State) → OnErr r (KeepsOutstanding s t) → OnErr r ((u : Item) → outstanding t u - count_of u m ≡ outstanding s u - count_of u m)
still_in_use x0 m s t same = grind (arith, common_steps)

-- the manager has another allocator after a call
module _ {L P S : Type 0} (means : Meaning L P S) (m : FrameManager P S) (a : Allocations P) (ordered : AreInOrder (retired_of m) m.greatest) (before after : Ledger) where
  -- the list stays, and retired sets that were outstanding still are
  pub keeps_retired :
      Keeps means (side m.allocator before) (side a after)
      → (AreRetiredOut means.pool_name means.set_name m before → AreOutstanding (retired_items means.set_name m) (state_of means.pool_name a after)) → KeepsRetired means (side m before) (side (record m { allocator = a; ordered = ordered }) after)
  keeps_retired keeps out = record { allocator = keeps; list = refl; reserve = refl; greatest = refl; outstanding = λ o. record { out = out o } }

  -- a request brings its sets into use, or, if it is refused, none
  pub hands_out_for_use :
      (layout : L) (count : ℕ) (r : Result (List (DescriptorSet S)) AllocationError)
      → HandsOut means (layout_key means layout) count r (side m.allocator before) (side a after)
      → IfOk r (AreOfLayout means layout) → Keeps means (side m.allocator before) (side a after) → HandsOutForUse means layout count r (side m before) (side (record m { allocator = a; ordered = ordered }) after)
  hands_out_for_use layout count r hands own keeps =
      let retired = retired_items means.set_name m in
      let old = state_in means.pool_name m before in
      let new = state_of means.pool_name a after in
      record {
        hands_out = hands;
        own = own;
        keeps = keeps_retired keeps (λ o. still_out means.set_name r retired old new hands.given hands.back o.out);
        in_use = λ o. IfOk-weaker r _ _ (λ sets more t. (let waiting = o.out t in let came = more t in omega arith)) hands.given;
        in_use_stay = still_in_use r retired old new hands.back;
      }
