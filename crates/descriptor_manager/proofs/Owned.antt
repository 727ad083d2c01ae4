-- The sets of a set manager stay of their layouts, and what refusals leave: each call of `SetManager` leaves `HasSetsOf`, its invariant.
-- `slots` are those of sets, `layouts` those of layouts, `known` is a layout, and `n` or `number` the number of one.
use Rattle.descriptor_manager.proofs.Common.{common_steps, ◌≡◌, ℕ, ◌⊎◌, Bool, false, true, List, length, Option, Some, None, inl, inr, refl, ap, subst, ◌∙◌, arith, IfSome, IsSetOf, Ghosts, AllocationError, SetLayout, CompactDescriptorSet, IsMeant, Allocations, books_of, find, sets_of, Slot, is_set_of, slot_at, Settings, is_usable}
use Rattle.descriptor_manager.proofs.Common.{layouts_of, settings_of, SetHandle, vacant_is, layout_at, layout_slots, registry_of, HasSetsOf, IsAtRest, IsRefusedAtLast, KeepsStore, NoneComes, SetsCome, SettlesTo, removed_in, slots_in, LayoutHandle, LayoutRegistry, Store, pools_for, seen, SetManager, true≢false, ◌≢◌}
use Rattle.descriptor_manager.proofs.Common.{is_some, if◌then◌else◌, sym, eq-eqb, ne_eqb, ◌==◌, and-false, cases_eq, cases_lt, past_end, KeepsContents, pools_besides, side_of}
use Rattle.gpu_descriptor_types.specs.Counts.{kinds}
use Rattle.gpu_descriptor.specs.Caller.Flags.{is_marked}
use Rattle.descriptor_manager.proofs.Handing.{unmet_slots}
use Rattle.descriptor_manager.proofs.Naming.{cleaned_names}
use Rattle.gpu_descriptor.specs.Caller.Others.{others_of}
use Rattle.descriptor_table.specs.Tables.{Renewed}

module _ {L P S D : Type 0} {d : Ghosts D L P S} where
  -- each number has the layout that it had, or one of which there is no set, or none
  abbrev pub IsNumbered : List (Slot (SetLayout L)) → List (Slot (SetLayout L)) → Store L P S D d → Store L P S D d → ℕ → Type 0
  IsNumbered layouts more old new n = ((slot_at more n ≡ slot_at layouts n) × (removed_in new n ≡ removed_in old n)) ⊎ ((((p : ℕ) → is_set_of n (slot_at (slots_in old) p) ≡ false) × (removed_in new n ≡ false) × (is_usable (slot_at more n) ≡ false)) ⊎ ((removed_in new n ≡ true) × ((slot_at more n).set ≡ None)))

  -- sets stay, leave or come
  pub sets_as :
      (comes : ℕ → CompactDescriptorSet S → Type 0) (layouts more : List (Slot (SetLayout L))) (number : ℕ) (old new : Store L P S D d) → SetsCome comes (slots_in old) (slots_in new) → IsAtRest new
      → ((n : ℕ) (x : CompactDescriptorSet S) (known : SetLayout L) → comes n x → (slot_at more n).set ≡ Some known → IsSetOf d.meaning known.layout x)
      → ((n : ℕ) → IsNumbered layouts more old new n) → layouts_of new.table ≡ length more → new.table.number ≡ old.table.number → HasSetsOf layouts number old → HasSetsOf more number new
  sets_as comes layouts more number old new sets rest own each numbers same was = record {
    rest = rest;
    own = λ n known at p x full is. elim (sets p x full) [
      | inl there ↦ elim (each n) [
        | inl same ↦ was.own n known (ap (λ (s : Slot (SetLayout L)). s.set) (sym same.0) ∙ at) p x there.0 (sym there.1 ∙ is)
        | inr none ↦ absurd (grind (arith, common_steps))
      ]
      | inr come ↦ own n x known (subst (λ n. comes n x) is come) at
    ];
    there = λ n some. grind (arith, common_steps, each n, was.there n);
    free = λ n usable. grind (arith, common_steps, each n, was.free n, vacant_is);
    numbers = numbers;
    number = same ∙ was.number;
  }

  pub sets_settle :
      {max : ℕ} (comes : ℕ → CompactDescriptorSet S → Type 0) (layouts : List (Slot (SetLayout L))) (number : ℕ) (old new : Store L P S D d) → SettlesTo (record (settings_of old.table) { keep = max }) comes old new
      → ((n : ℕ) (x : CompactDescriptorSet S) (known : SetLayout L) → comes n x → (slot_at layouts n).set ≡ Some known → IsSetOf d.meaning known.layout x) → HasSetsOf layouts number old → HasSetsOf layouts number new
  sets_settle comes layouts number old new settles own was =
      let s = settles.stays.settings in
      sets_as comes layouts layouts number old new settles.sets settles.rest own (λ n. inl (refl, ap (λ (s : Settings). s.removed n) s)) (ap (λ (s : Settings). s.layouts) s ∙ was.numbers) (ap (λ (s : Settings). s.number) s) was

  -- and so if none comes
  pub sets_stay : {max number : ℕ} {layouts : List (Slot (SetLayout L))} {old new : Store L P S D d} → SettlesTo (record (settings_of old.table) { keep = max }) NoneComes old new → HasSetsOf layouts number old → HasSetsOf layouts number new
  sets_stay {number = number} {layouts} {old} {new} settles was = sets_settle NoneComes layouts number old new settles (λ n x known none here. absurd none) was

  -- a refusal changes no names
  pub refused_names : (layout : L) (first last : ℕ) (error : AllocationError) (old new : Store L P S D d) → IsRefusedAtLast layout first last error old new → (number frame : ℕ) (opened : Bool) → sets_of number frame opened (slots_in new) ≡ sets_of number frame opened (slots_in old)
  refused_names layout first last error old new refused number frame opened = grind (arith, common_steps, unmet_slots {d = d} layout, cleaned_names {T = CompactDescriptorSet S} frame opened number)

module _ {T : Type 0} where
  -- what a handle names is in its slot
  pub found_set : (number frame : ℕ) (opened : Bool) (slots : List (Slot T)) (h : SetHandle) (x : T) → find number frame opened slots h ≡ Some x → (slot_at slots h.place).set ≡ Some x
  found_set number frame opened slots h x e = grind (arith, common_steps)

  -- a slot without a set is named by no handle
  pub found_none : (number frame : ℕ) (opened : Bool) (slots : List (Slot T)) (h : SetHandle) → (slot_at slots h.place).set ≡ None → find number frame opened slots h ≡ None
  found_none number frame opened slots h none = grind (arith, common_steps)

pub if_some : {X : Type 0} (o : Option X) (x : X) (P : X → Type 0) → Some x ≡ o → P x → IfSome o P
if_some o x P is holds = subst (λ o. IfSome o P) is holds

-- the layout of a handle is at its place
pub layout_here : {L P S D : Type 0} {d : Ghosts D L P S} (r : LayoutRegistry L P S D d) (h : LayoutHandle) (known : SetLayout L) (place : ℕ) → place ≡ h.slot.place → layout_at r h ≡ Some known → (slot_at (layout_slots r) place).set ≡ Some known
layout_here r h known place at e = ap (λ n. (slot_at (layout_slots r) n).set) at ∙ found_set (registry_of r) 0 false (layout_slots r) h.slot known e

-- the books have a layout's pools under the key of its counts and its mark
pub known_pools : {L P S D : Type 0} {d : Ghosts D L P S} (r : SetManager L P S D d) (known : SetLayout L) (a : Allocations P) (mark : Bool) → IsMeant d.meaning known → a ≡ (side_of r.store).value → mark ≡ is_marked known.flags → books_of a.table (record { counts = kinds known.counts; marked = mark }) ≡ pools_for known.layout r
known_pools r known a mark meant same is = grind (arith, common_steps)

-- a call of the store that leaves its settings as they are changes nothing that is seen but slots and pools
pub only_store : {L P S D : Type 0} {d : Ghosts D L P S} (r : SetManager L P S D d) (s : Store L P S D d) → KeepsStore r.store s → record (seen r) { slots = slots_in s; keep = s.table.keep; side = side_of s; pools_besides = pools_besides s; limit = s.allocator.limit; bound = s.allocator.bound } ≡ record (seen r) { slots = slots_in s; side = side_of s }
only_store r s stays = λ i. record (seen r) { slots = slots_in s; keep = (stays.settings i).keep; side = side_of s; pools_besides = stays.besides i; limit = stays.limit i; bound = stays.bound i }

-- Layouts that come under numbers: for `SetManager::add_layout` and `add_number`. `layouts` are the slots of layouts before, `more` those after.

-- what is chosen by a test of two numbers: for the numbers of layouts that were removed
pub if_here : {A : Type 0} (n layout : ℕ) (a b : A) → n ≡ layout → (if n == layout then a else b) ≡ a
if_here n layout a b e = ap (λ t. if t then a else b) (eq-eqb n layout e)

pub if_other : {A : Type 0} (n layout : ℕ) (a b : A) → n ≢ layout → (if n == layout then a else b) ≡ b
if_other n layout a b ne = ap (λ t. if t then a else b) (ne_eqb n layout ne)

-- the number of a layout that is there can't be used again
pub layout_used : {L P S D : Type 0} {d : Ghosts D L P S} (r : LayoutRegistry L P S D d) (h : LayoutHandle) (known : SetLayout L) (place : ℕ) → place ≡ h.slot.place → layout_at r h ≡ Some known → is_usable (slot_at (layout_slots r) place) ≡ false
layout_used r h known place at e = grind (arith, common_steps, layout_here r h known place at e)

module _ {L P S D : Type 0} {d : Ghosts D L P S} {layouts : List (Slot (SetLayout L))} {manager : ℕ} where
  -- the sets, once layouts have other numbers
  pub sets_over :
      {more : List (Slot (SetLayout L))} (old new : Store L P S D d) → KeepsContents old new → ((n : ℕ) → IsNumbered layouts more old new n)
      → layouts_of new.table ≡ length more → new.table.number ≡ old.table.number → HasSetsOf layouts manager old → HasSetsOf more manager new
  sets_over {more} old new contents each numbers same was = sets_as NoneComes layouts more manager old new (λ p x full. grind (arith, common_steps)) (grind (arith, common_steps)) (λ n x known none at. absurd none) each numbers same was

  -- a number isn't that of a removed layout any more: another one has it, or no handle is left. No set is of the number, and others are as they were
  pub sets_more :
      {more : List (Slot (SetLayout L))} (old new : Store L P S D d) (number : ℕ) → KeepsContents old new
      → ((n : ℕ) → n ≢ number → (slot_at more n ≡ slot_at layouts n) × (removed_in new n ≡ removed_in old n)) → is_usable (slot_at more number) ≡ false
      → ((p : ℕ) → is_set_of number (slot_at (slots_in old) p) ≡ false) → removed_in new number ≡ false
      → layouts_of new.table ≡ length more → new.table.number ≡ old.table.number → HasSetsOf layouts manager old → HasSetsOf more manager new
  sets_more {more} old new number contents others usable none there = sets_over old new contents (λ n. grind (arith, common_steps, cases_eq n number, others n))

  -- the number of a removed layout has another one, or gave its last handle
  pub sets_renewed :
      {more : List (Slot (SetLayout L))} (old new : Store L P S D d) (number : ℕ) → KeepsContents old new → Renewed number old.table new.table → ((n : ℕ) → n ≢ number → slot_at more n ≡ slot_at layouts n)
      → is_usable (slot_at more number) ≡ false → length more ≡ length layouts → HasSetsOf layouts manager old → HasSetsOf more manager new
  sets_renewed old new number contents renews others usable long was =
      let s = renews.only.settings in
      sets_more old new number contents (λ n ne. (others n ne, ap (λ (s : Settings). s.removed n) s ∙ if_other n number false (removed_in old n) ne)) usable renews.none
      (ap (λ (s : Settings). s.removed number) s ∙ if_here number number false (removed_in old number) refl) (ap (λ (s : Settings). s.layouts) s ∙ was.numbers ∙ sym long) (ap (λ (s : Settings). s.number) s) was

  -- no number changes
  pub sets_same : {more : List (Slot (SetLayout L))} (old new : Store L P S D d) → KeepsContents old new → settings_of new.table ≡ settings_of old.table → more ≡ layouts → HasSetsOf layouts manager old → HasSetsOf more manager new
  sets_same old new contents s same was = sets_over old new contents (λ n. inl (ap (λ l. slot_at l n) same, ap (λ (s : Settings). s.removed n) s)) (ap (λ (s : Settings). s.layouts) s ∙ was.numbers ∙ ap length (sym same)) (ap (λ (s : Settings). s.number) s) was

  -- no set is of the next number
  pub next_unused : (s : Store L P S D d) → HasSetsOf layouts manager s → (p : ℕ) → is_set_of (length layouts) (slot_at (slots_in s) p) ≡ false
  next_unused s was p = grind (arith, common_steps, cases_lt p (length (slots_in s)), past_end (slots_in s) p, s.table.sound.known p, was.numbers, ne_eqb, and-false)

-- there is none
pub gone : {X : Type 0} (o : Option X) → ((x : X) → o ≡ Some x → ⊥) → o ≡ None
gone x0 some = grind (arith, common_steps)

-- the number of a removed layout has none now
pub number_left : {L P S D : Type 0} {d : Ghosts D L P S} (layouts : List (Slot (SetLayout L))) (manager : ℕ) (s : Store L P S D d) (n : ℕ) → removed_in s n ≡ true → HasSetsOf layouts manager s → (slot_at layouts n).set ≡ None
number_left layouts manager s n removed was = gone (slot_at layouts n).set (λ x is. true≢false (sym removed ∙ was.there n (ap is_some is)))

-- what is seen of a set manager whose table has other numbers
pub seen_kept : {L P S D : Type 0} {d : Ghosts D L P S} (r : SetManager L P S D d) (s : Store L P S D d) → KeepsContents r.store s → s.table.keep ≡ r.store.table.keep
    → record (seen r) { slots = slots_in s; keep = s.table.keep; side = side_of s; pools_besides = pools_besides s; limit = s.allocator.limit; bound = s.allocator.bound } ≡ seen r
seen_kept {d = d} r s contents keep = λ i. record (seen r) { slots = contents.slots i; keep = keep i; side = contents.side i; pools_besides = others_of d.meaning.pool_name (contents.side i).value (contents.side i).ledger; limit = (contents.side i).value.limit; bound = (contents.side i).value.bound }
