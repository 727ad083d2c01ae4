-- What frees and cleaning up leave of pools that aren't the allocator's; for requests request.Added says it.
-- For foreign.OthersStay. `_foreign`: a live foreign pool stays, and stays foreign. `_loses`: a live pool that is foreign afterwards
-- was so before, as none gets lost out of the books.
use Rattle.gpu_descriptor.proofs.Common.{◌≡◌, ℕ, ◌&&◌, Bool, false, List, [], ◌∷◌, count_by, option_map, slice_get-map, refl, sym, ap, ◌∙◌, subst, fun_ext, false_from_ne_true, side, Meaning, Ledger, LiveSet, set_eq, State, Item, set_of, Entry, DescriptorSet, Allocations, IsForeign, KeepsForeign, LosesEmpty, given_back, released}
use Rattle.gpu_descriptor.proofs.Common.{entry_less, lies_in, pool_less, GivesBack, items_of, state_of}
use Rattle.gpu_descriptor.proofs.cleanup.Cleaning.{emptied}
use Rattle.gpu_descriptor.proofs.cleanup.Emptied.{emptied_foreign, emptied_loses}
use Rattle.gpu_descriptor.proofs.lists.Numbers.{entry_at-found}
use Rattle.gpu_descriptor.proofs.release.Given.{emptied_front, given_was}
use Rattle.gpu_descriptor.proofs.release.Places.{back, lies_in-found}
use Rattle.gpu_descriptor.proofs.release.ReleaseAgrees.{none_back}

none_of : {A : Type 0} (m : List A) → count_by (λ t. false) m ≡ 0
none_of [] = refl
none_of (t ∷ m) = none_of m

-- giving sets back leaves them as they are, and the names of the books too
given_same : (m : List Item) (s : State) (name : ℕ) → IsForeign s name → (given_back m s).ledger name ≡ s.ledger name
given_same m s name foreign =
    let elsewhere : (t : Item) → lies_in s.books name t ≡ false = λ t. false_from_ne_true (lies_in s.books name t) (λ lies. (let f = lies_in-found s.books name t lies in let there = entry_at-found (s.books t.key) t.number f.0 f.1 in foreign t.key there.0 f.0 there.1 f.2)) in
    let kept : (λ (x : LiveSet). count_by (λ t. lies_in s.books name t && set_eq (set_of t) x) m) ≡ (λ x. 0) = fun_ext (λ x.
    ap (λ (f : Item → Bool). count_by f m) (fun_ext (λ t. ap (λ (b : Bool). b && set_eq (set_of t) x) (elsewhere t))) ∙ none_of m) in
    ap (λ (f : LiveSet → ℕ). option_map (pool_less f) (s.ledger name)) kept ∙ ap (λ (w : State). w.ledger name) (none_back s)

given_left : (m : List Item) (s : State) (name : ℕ) → IsForeign (given_back m s) name → IsForeign s name
given_left m s name foreign k i e at same = foreign k i (entry_less (back m s e.pool) e) (slice_get-map (λ (d : Entry). entry_less (back m s d.pool) d) (s.books k).pools i ∙ ap (option_map (λ (d : Entry). entry_less (back m s d.pool) d)) at) same

given_foreign : (m : List Item) (s : State) → KeepsForeign s (given_back m s)
given_foreign m s name pool foreign live = (given_same m s name foreign ∙ live, λ k i e at same. (let was = given_was m s k i e at in foreign k i was.0 was.1 (ap (λ (x : Entry). x.pool) was.2 ∙ same)))

given_loses : (m : List Item) (s : State) → KeepsForeign (given_back m s) s
given_loses m s name pool foreign live = (let was = given_left m s name foreign in (sym (given_same m s name was) ∙ live, was))

pub foreign_through : (s t u : State) → KeepsForeign s t → KeepsForeign t u → KeepsForeign s u
foreign_through s t u first second name pool foreign live = (let kept = first name pool foreign live in second name pool kept.1 kept.0)

released_foreign : (m : List Item) (s : State) → KeepsForeign s (released m s)
released_foreign m s = foreign_through s (given_back m s) (released m s) (given_foreign m s) (emptied_foreign (emptied_front m (given_back m s)))

released_loses : (m : List Item) (s : State) → KeepsForeign (released m s) s
released_loses m s = foreign_through (released m s) (given_back m s) s (emptied_loses (emptied_front m (given_back m s))) (given_loses m s)

pub cleaned_foreign : (everywhere : Bool) (s t : State) → LosesEmpty everywhere s t → KeepsForeign s t
cleaned_foreign everywhere s t less = emptied_foreign (emptied everywhere s t less)

pub cleaned_loses : (everywhere : Bool) (s t : State) → LosesEmpty everywhere s t → KeepsForeign t s
cleaned_loses everywhere s t less = emptied_loses (emptied everywhere s t less)

-- ---- as callers see it

pub freed_foreign :
    {L P S : Type 0} (means : Meaning L P S) (sets : List (DescriptorSet S)) (calls : ℕ) (old new : Allocations P)
    (before after : Ledger)
    → GivesBack means sets calls (side old before) (side new after)
    → KeepsForeign (state_of means.pool_name old before) (state_of means.pool_name new after)
freed_foreign means sets calls old new before after back = subst (KeepsForeign (state_of means.pool_name old before)) (sym back.state) (released_foreign (items_of means.set_name sets) (state_of means.pool_name old before))

pub freed_loses :
    {L P S : Type 0} (means : Meaning L P S) (sets : List (DescriptorSet S)) (calls : ℕ) (old new : Allocations P)
    (before after : Ledger)
    → GivesBack means sets calls (side old before) (side new after)
    → KeepsForeign (state_of means.pool_name new after) (state_of means.pool_name old before)
freed_loses means sets calls old new before after back = subst (λ t. KeepsForeign t (state_of means.pool_name old before)) (sym back.state) (released_loses (items_of means.set_name sets) (state_of means.pool_name old before))
