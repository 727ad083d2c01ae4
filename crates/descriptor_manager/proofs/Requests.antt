-- Requests that kept sets met, or kept and new ones, or none: for `Store::reuse`, `allocate`, `allocate_new`, `allocate_each` and `allocate_with_new`.
use Rattle.std.proofs.Common.{below_more, below_none}
use Rattle.std.proofs.lemmas.Option.{slice_get-get_or}
use Rattle.descriptor_manager.specs.Stores.{CanTake, Settles}
use Rattle.descriptor_manager.specs.Managers.{ComeEach, sets_by}
use Rattle.descriptor_manager.proofs.Common.{common_steps, ◌≡◌, ℕ, ◌+◌, ◌-◌, ◌<◌, List, length, sym, ap, subst, ◌∙◌, arith, true≢false, Ghosts, AreSetsOf, AreAllOf, IsMeant, test_within, counted, item_of, get_or, whole_sets, Slot, count, is_kept_of, slot_at, count_none, none_count, AreCleaned, Asks, AsksAtLast, kept_of, slots_in, Store, ◌≤◌, true, [], Ok, Err, inl, refl, inr, Side, items_of, state_of}
use Rattle.descriptor_manager.proofs.Common.{Allocations, Item, count_of, outstanding, AllocationError, frame_of, is_live, place_at, SetHandle, Use, ComesOf, HoldEach, Holds, IsAtRest, IsRefusedAtLast, KeepsStore, NoneComes, Requests, side_of, slice_index_or, Result, Some, SetLayout, CompactDescriptorSet, cases_lt}
use Rattle.descriptor_manager.proofs.Common.{◌∷◌, NameEach, sets_of, get_or_default, layout_at, layout_slots, HasSetsOf, LayoutHandle, SetManager, same_Some, Renews, Sets, Option, None, IfSome, is_some}
use Rattle.descriptor_manager.proofs.Arriving.{Clears, clears, clears_arrives, none_left, same_arrives, same_clears, arrived}
use Rattle.descriptor_manager.proofs.Handing.{came_layout, cleared_long, cleared_of, kept_long, kept_one, refused_arrives, unmet_slots, within}
use Rattle.descriptor_manager.proofs.Naming.{kept_as}
use Rattle.descriptor_manager.proofs.Joining.{held_stays, all_of_after, holds_arrives, sets_after, stays_then, store_same, are_named}
use Rattle.descriptor_manager.proofs.Owned.{found_set, if_some, layout_here, sets_settle}

-- Sets that were asked for, and are on their way.

-- after a cleanup none of any layout is kept
none_left_of : {T : Type 0} (old new : List (Slot T)) → AreCleaned old new → (layout : ℕ) → count (is_kept_of layout) new ≡ 0
none_left_of old new c layout = grind (arith, common_steps, count_none, kept_as, none_count, none_left, true≢false)

module _ {L P S D : Type 0} {d : Ghosts D L P S} where
  -- kept sets may have gone, and sets of the layout are on their way: fewer than were requested, if some are kept
  pub record Brings (layout : L) (number many : ℕ) (old new : Store L P S D d) : Type 0 where
    pub clear : (q : ℕ) → Clears (slot_at (slots_in old) q) (slot_at (slots_in new) q)
    pub long : length (slots_in new) ≡ length (slots_in old)
    pub besides : (i : ℕ) → i < many → i < kept_of number new → i + length new.coming.items < many
    pub own : AreSetsOf d.meaning layout new.coming.items

  module _ (layout : L) (number first many : ℕ) (old mid new : Store L P S D d) (clear : (q : ℕ) → Clears (slot_at (slots_in old) q) (slot_at (slots_in mid) q)) (long : length (slots_in mid) ≡ length (slots_in old)) where
    asked : ((i : ℕ) → i < many → i < kept_of number mid → i + first < many) → Asks layout first mid new → Brings layout number many old new
    asked besides asks = record {
      clear = λ q. subst (λ l. Clears (slot_at (slots_in old) q) (slot_at l q)) (sym asks.slots) (clear q);
      long = ap length asks.slots ∙ long;
      besides = λ i lt some. (let n = asks.hands_out.many in let same = ap (count (is_kept_of number)) asks.slots in let less = besides i lt (omega arith) in omega arith);
      own = λ i x lt.
          let item = item_of d.meaning.set_name (get_or new.coming.items i x) in
          (asks.own i x lt, asks.hands_out.of_key item (counted d.meaning.set_name _ new.coming.items i (slice_get-get_or new.coming.items i x lt)));
    }

  -- what `Store::bring` leaves
  pub brought : (layout : L) (number many : ℕ) (old new : Store L P S D d) → kept_of number old < many → AsksAtLast layout (many - kept_of number old) many old new → Brings layout number many old new
  brought layout number many old new few asks = elim asks [
    | inl now ↦ asked layout number (many - kept_of number old) many old old new (λ q. same_clears _ _ refl) refl (λ i lt some. omega arith) now
    | inr again ↦
        let cleaned = cleared_of layout (many - kept_of number old) many old again.0 again.1 in
        let none = none_left_of (slots_in old) (slots_in again.0) cleaned number in
        asked layout number many many old again.0 new (clears _ _ cleaned) (cleared_long layout (many - kept_of number old) many old again.0 again.1) (λ i lt some. absurd (omega arith)) again.2
  ]

  -- the sets that are left have their key still
  pub still_all_of : (layout : L) (number many : ℕ) (old new : Store L P S D d) → Brings layout number many old new → AreAllOf d.meaning layout number (slots_in old) → AreAllOf d.meaning layout number (slots_in new)
  still_all_of layout number many old new brings keyed = all_of_after d.meaning layout number NoneComes (slots_in old) (slots_in new) (λ n x none. absurd none) (λ p. (clears_arrives NoneComes _ _ (brings.clear p)).set) keyed

-- the sets that were on their way are in the table if none is any more, and the device wasn't called
pub gained :
    {L P S D : Type 0} {d : Ghosts D L P S} (ready new : Store L P S D d) → side_of new ≡ side_of ready → new.coming.items ≡ [] → (t : Item)
    → count_of t (items_of d.meaning.set_name (whole_sets new.table)) ≡ count_of t (items_of d.meaning.set_name (whole_sets ready.table)) + count_of t (items_of d.meaning.set_name ready.coming.items)
gained {L} {P} {S} {D} {d} ready new side none t = omega (arith, ap (λ (s : Side (Allocations P)). outstanding (state_of d.meaning.pool_name s.value s.ledger) t) side, ap (λ l. count_of t (items_of d.meaning.set_name l)) none, ready.exact t, new.exact t)

-- sets were kept or are on their way, and all have handles
from_ready :
    {L P S D : Type 0} {d : Ghosts D L P S} {R : Type 0} (known : L) (layout many : ℕ) (u : Use) (handles : List SetHandle) (old ready new : Store L P S D d) (rest : IsAtRest old)
    → (result : R) → is_live (frame_of u) true u ≡ true → (many ≤ kept_of layout old → (ready ≡ old) × (side_of new ≡ side_of old) × (length (slots_in new) ≡ length (slots_in old)))
    → (kept_of layout old < many → AsksAtLast known (many - kept_of layout old) many old ready) → ((q : ℕ) → Clears (slot_at (slots_in old) q) (slot_at (slots_in ready) q))
    → length (slots_in ready) ≡ length (slots_in old) → KeepsStore old ready → HoldEach ready.table.number layout u handles (slots_in ready) (slots_in new)
    → ((i : ℕ) → i < length handles → i < kept_of layout ready → is_kept_of layout (slot_at (slots_in ready) (place_at handles i)) ≡ true)
    → Holds (ComesOf d.meaning known layout) ready new → new.coming.items ≡ [] → Requests known layout many u handles (Ok result) old new
from_ready {d = d} known layout many u handles old ready new rest result live enough asks clear long stays holds kept_first keeps none =
    let held = held_stays layout u handles (slots_in ready) (slots_in new) old ready stays holds in
    let comes = ComesOf d.meaning known layout in
    record {
      takes = record {
        ready = ready;
        enough = λ le. (enough le).0;
        asks = asks;
        kept_first = kept_first;
        holds = held;
        side = keeps.side;
        gained = gained ready new keeps.side none;
      };
      kept = λ le. (refl, (enough le).1, (enough le).2);
      refused = tt;
      settles = arrived comes old new (holds_arrives old.table.number layout u handles (slots_in old) (slots_in ready) (slots_in new) clear held live comes keeps.sets) none rest (stays_then old ready new stays keeps.stays);
      grows = grind (arith, common_steps);
    }

-- as many were kept
pub from_kept :
    {L P S D : Type 0} {d : Ghosts D L P S} {R : Type 0} (known : L) (layout many : ℕ) (u : Use) (handles : List SetHandle) (old new : Store L P S D d)
    → (result : R) → is_live (frame_of u) true u ≡ true → IsAtRest old → many ≤ kept_of layout old
    → HoldEach old.table.number layout u handles (slots_in old) (slots_in new)
    → ((i : ℕ) → i < length handles → is_kept_of layout (slot_at (slots_in old) (place_at handles i)) ≡ true)
    → length (slots_in new) ≡ length (slots_in old) → Holds NoneComes old new → new.coming.items ≡ old.coming.items
    → Requests known layout many u handles (Ok result) old new
from_kept {d = d} known layout many u handles old new result live rest enough holds were_kept long keeps coming =
    let sets = sets_after NoneComes (ComesOf d.meaning known layout) (slots_in old) (slots_in new) (slots_in new) (λ n x none. absurd none) keeps.sets (λ p x e. inl (e, refl)) in
    from_ready known layout many u handles old old new rest result live (λ le. (refl, keeps.side, long)) (λ few. absurd (omega arith)) (λ q. same_clears _ _ refl) refl (store_same old) holds (λ i lt some. were_kept i lt)
    (record { side = keeps.side; sets = sets; grows = keeps.grows; stays = keeps.stays }) (coming ∙ rest.none_coming)

-- one set comes, which was kept
module _ {L P S D : Type 0} {d : Ghosts D L P S} (layout : ℕ) (u : Use) (old new : Store L P S D d) (side : side_of new ≡ side_of old) (stays : KeepsStore old new) where
  pub kept_holds : (p : ℕ) (handle : SetHandle) → is_kept_of layout (slot_at (slots_in old) p) ≡ true → Renews old.table.number p u handle (slots_in old) (slots_in new) → Holds NoneComes old new
  kept_holds p handle was renews = record { side = side; sets = λ q x e. grind (arith, common_steps, within _ _ _ _ _ _ _ was renews); grows = inl (kept_long _ _ _ _ _ _ _ was renews); stays = stays }

  -- or none comes, and then nothing changes
  pub one_or_none :
      (result : Option SetHandle) → is_live (frame_of u) true u ≡ true → IsAtRest old → new.coming.items ≡ old.coming.items → (is_some result ≡ true → 0 < kept_of layout old) → IfSome result (λ h. is_kept_of layout (slot_at (slots_in old) h.place) ≡ true)
      → IfSome result (λ h. Renews old.table.number h.place u h (slots_in old) (slots_in new)) → (result ≡ None → slots_in new ≡ slots_in old)
      → ((known : L) → IfSome result (λ h. Requests known layout 1 u (h ∷ []) (Ok h) old new)) × Settles NoneComes old new × (length (slots_in new) ≡ length (slots_in old))
  one_or_none (Some h) live rest coming some was renews none =
      let holds = kept_one _ _ _ _ _ _ _ was renews in
      let long = kept_long _ _ _ _ _ _ _ was renews in
      let keeps = kept_holds h.place h was renews in (
        λ known. from_kept known layout 1 u (h ∷ []) old new h live rest (some refl) holds (below_more _ 0 (below_none _) was) long keeps coming,
        arrived NoneComes old new (holds_arrives old.table.number layout u (h ∷ []) (slots_in old) (slots_in old) (slots_in new) (λ q. same_clears _ _ refl) holds live NoneComes keeps.sets) (coming ∙ rest.none_coming) rest stays,
        long,
      )
  one_or_none None live rest coming some was renews none =
      (λ known. tt, arrived NoneComes old new (λ q. same_arrives _ _ _ (ap (λ l. slot_at l q) (none refl))) (coming ∙ rest.none_coming) rest stays, ap length (none refl))

module _ {L P S D : Type 0} {d : Ghosts D L P S} {R : Type 0} (known : L) (layout many : ℕ) (u : Use) (old asked : Store L P S D d) (rest : IsAtRest old) (short : kept_of layout old < many) where
  -- the allocator gave the sets that were missing, and all have handles
  pub from_asked :
      (handles : List SetHandle) (result : R) (new : Store L P S D d) → is_live (frame_of u) true u ≡ true → KeepsStore old asked → AsksAtLast known (many - kept_of layout old) many old asked
      → HoldEach asked.table.number layout u handles (slots_in asked) (slots_in new)
      → ((i : ℕ) → i < length handles → i < kept_of layout asked → is_kept_of layout (slot_at (slots_in asked) (place_at handles i)) ≡ true)
      → Holds (ComesOf d.meaning known layout) asked new → new.coming.items ≡ []
      → Requests known layout many u handles (Ok result) old new
  from_asked handles result new live stays asks holds kept_first keeps none =
      let brings = brought known layout many old asked short asks in
      from_ready known layout many u handles old asked new rest result live (λ le. absurd (omega arith)) (λ few. asks) brings.clear brings.long stays holds kept_first keeps none

  -- it refused them
  pub from_refused :
      (handles : List SetHandle) (error : AllocationError) → KeepsStore old asked → IsRefusedAtLast known (many - kept_of layout old) many error old asked → asked.coming.items ≡ []
      → Requests known layout many u handles {R = R} (Err error) old asked
  from_refused handles error stays refused none = record {
    takes = tt;
    kept = λ enough. absurd (omega arith);
    refused = refused;
    settles = arrived _ old asked (refused_arrives _ known (many - kept_of layout old) many error old asked refused) none rest stays;
    grows = grind (arith, common_steps, cleared_long, unmet_slots);
  }

-- What a request for sets of a layout leaves of a set manager: for `SetManager::reuse_for_frame`, `allocate_as` and `allocate_into`.

module _ {L P S D : Type 0} {d : Ghosts D L P S} (r : SetManager L P S D d) (layout : LayoutHandle) (known : SetLayout L) (place : ℕ) (at : place ≡ layout.slot.place) (found : layout_at r.layouts layout ≡ Some known) where
  here : (slot_at (layout_slots r.layouts) place).set ≡ Some known
  here = layout_here r.layouts layout known place at found

  pub can_take : IsMeant d.meaning known → CanTake known place r.store
  can_take meant = record {
    meant = meant;
    layout = record { within = omega (arith, r.sets.numbers, test_within (λ s. is_some s.set) (layout_slots r.layouts) place refl (ap is_some here)); there = r.sets.there place (ap is_some here) };
    rest = r.sets.rest;
    own = r.sets.own place known here;
  }

  module _ {R : Type 0} (many : ℕ) (u : Use) (handles : List SetHandle) (new : Store L P S D d) where
    -- all sets are of their layouts then
    pub sets_then : (result : Result R AllocationError) → Requests known.layout place many u handles result r.store new → HasSetsOf (layout_slots r.layouts) r.manager new
    sets_then result requests = sets_settle (ComesOf d.meaning known.layout place) (layout_slots r.layouts) r.manager r.store new requests.settles (λ n x other comes at. grind (arith, common_steps, here, same_Some)) r.sets

    module _ (result : R) (requests : Requests known.layout place many u handles (Ok result) r.store new) where
      -- kept sets may have gone before
      clear : (q : ℕ) → Clears (slot_at (slots_in r.store) q) (slot_at (slots_in requests.takes.ready) q)
      clear q = elim (cases_lt (kept_of place r.store) many) [
        | inl short ↦ (brought known.layout place many r.store requests.takes.ready short (requests.takes.asks short)).clear q
        | inr enough ↦ same_clears (slot_at (slots_in r.store) q) (slot_at (slots_in requests.takes.ready) q) (ap (λ s. slot_at (slots_in s) q) (requests.takes.enough enough))
      ]

      -- sets of the layout come under the handles
      pub come_then : is_live r.frame r.is_open u ≡ true → (m : SetManager L P S D d) → sets_by m ≡ sets_of r.manager r.frame r.is_open (slots_in new) → IfSome (layout_at r.layouts layout) (λ k. ComeEach k.layout handles r m)
      come_then live m same = if_some _ _ _ (sym found) (record {
        names = subst (NameEach handles (sets_by r)) (sym same) (subst (λ n. NameEach handles (sets_of n r.frame r.is_open (slots_in r.store)) (sets_of n r.frame r.is_open (slots_in new))) r.sets.number
            (are_named r.store.table.number place u handles (slots_in r.store) (slots_in requests.takes.ready) (slots_in new) clear requests.takes.holds r.frame r.is_open live));
        own = λ i e x lt is.
            let spot = ap (λ (h : SetHandle). h.place) (get_or_default handles i e (record { manager = 0; place = 0; generation = 0 }) lt) in
            ((sets_then (Ok result) requests).own place known here (slice_index_or handles i e).place x (found_set r.manager r.frame r.is_open (slots_in new) (slice_index_or handles i e) x (ap (λ (s : Sets (CompactDescriptorSet S)). s.set (slice_index_or handles i e)) (sym same) ∙ is))
            (ap (λ p. (slot_at (slots_in new) p).layout) spot ∙ came_layout place u (slot_at (slots_in requests.takes.ready) (place_at handles i)) (slot_at (slots_in new) (place_at handles i)) (requests.takes.holds.comes i lt))).0;
      })

  -- a request for one set is refused only if none is kept
  pub one_refused : {R : Type 0} (u : Use) (handles : List SetHandle) (new : Store L P S D d) (error : AllocationError) → Requests known.layout place 1 u handles {R = R} (Err error) r.store new → IsRefusedAtLast known.layout 1 1 error r.store new
  one_refused u handles new error requests = elim (cases_lt 0 (kept_of place r.store)) [
    | inl some ↦ absurd (true≢false (sym (requests.kept (omega arith)).0))
    | inr none ↦ subst (λ n. IsRefusedAtLast known.layout n 1 error r.store new) (omega arith) requests.refused
  ]
