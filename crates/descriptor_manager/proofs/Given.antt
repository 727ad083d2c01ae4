-- Sets that come into slots, or are taken out of a list; returned sets are counted, and what becomes of all if there are none.
use Rattle.descriptor_manager.proofs.Common.{common_steps, rules, ◌≡◌, ◌≢◌, ℕ, zero-add, if◌then◌else◌, ◌==◌, ◌+◌, ◌<◌, List, [], ◌∷◌, ◌++◌, length, inl, inr, refl, ap, ◌∙◌, arith, false, Bool, None, Option, Some, IfSome, true≢false, sym, subst, Ghosts, Meaning, side, item_of, items_of, outstanding_of, state_of, Item, count_of, outstanding, CompactDescriptorSet, DescriptorSet, SetTable, count_parts, counted, State, Allocations, AreAllOf, AreSetsOf, IsOfLayout, get_or, get_or_push, length-append, same_sets, test_within, is_some, option_map, length-set, cases_eq, cases_lt, other_slots, slot_set, named_or, place_at, TurnEach, true, whole}
use Rattle.descriptor_manager.proofs.Common.{ids_of, filter_map, Slot, slot_at, Puts, Renews, renewed, Turns, Becomes, slots_of, vacated, SetHandle, Use, GivesNext, gives_weigh, group_out, tally, tally_length, is_of, Store, whole_in, whole_sets}
use Rattle.std.specs.Iterator.{MakesProgress, Yields, YieldsThen, at_most}
use Rattle.std.specs.declared.iter.Iterator.{can_next-default}
use Rattle.gpu_descriptor_types.specs.Ledger.{Ledger}
use Rattle.gpu_descriptor.specs.Caller.Call.{layout_key}
use Rattle.gpu_descriptor.specs.Caller.Frees.{Returns}
use Rattle.gpu_descriptor.proofs.release.Freed.{gives_none}
use Rattle.descriptor_table.proofs.Coming.{got}
use Rattle.descriptor_table.proofs.Turning.{Turning, stays_more, turn_step}
use Rattle.descriptor_table.specs.Tables.{GivesAny, Stays}
use Rattle.descriptor_table.specs.declared.group.Group.{Group}
use Rattle.descriptor_manager.specs.declared.returning.Returning.{Returning}

module _ {S : Type 0} where
  -- without a set that was taken out the others weigh less by its weight
  next_weigh : (weight : DescriptorSet S → ℕ) (x : DescriptorSet S) (s t : Returning S) → GivesNext s (Some x) t → tally weight (whole_sets s.table.now) ≡ weight x + tally weight (whole_sets t.table.now)
  next_weigh weight x s t next = gives_weigh weight (whole_in (ids_of s.table.now)) (λ s. refl) (is_of s.group) x (slots_of s.table.now) (slots_of t.table.now) next.gives.slots ∙ ap (λ ids. weight x + tally weight (filter_map (whole_in ids) (slots_of t.table.now))) (sym next.gives.stays.ids)

  -- what was returned, and what is left, weigh what there was
  given_weigh : (weight : DescriptorSet S → ℕ) (xs : List (DescriptorSet S)) (s t : Returning S) → Yields GivesNext s xs t → tally weight (whole_sets s.table.now) ≡ tally weight xs + tally weight (whole_sets t.table.now)
  given_weigh weight [] s t y = ap (λ (u : Returning S). tally weight (whole_sets u.table.now)) y ∙ sym (zero-add (tally weight (whole_sets t.table.now)))
  given_weigh weight (x ∷ xs) s t y = omega (arith, next_weigh weight x s y.0 y.1, given_weigh weight xs y.0 t y.2)

  -- a call gave a set, or there was none
  pub progress : (s t : Returning S) (r : Option (DescriptorSet S)) → GivesNext s r t → MakesProgress (can_next-default (Returning S) (DescriptorSet S)) (λ u. at_most (length (whole_sets u.table.now))) s r t
  progress s t None next = record { on = λ finite. tt; keeps = tt; rests = λ finite. tt }
  progress s t (Some x) next = record { on = λ finite. (tt, tt, omega (arith, next_weigh (λ x. 1) x s t next, tally_length (whole_sets s.table.now), tally_length (whole_sets t.table.now))); keeps = tt; rests = λ finite. tt }

  module _ (group : Group) where
    -- the sets were taken out, one after another
    given_turns : (xs : List (DescriptorSet S)) (s t : Returning S) (old : List (Slot (CompactDescriptorSet S))) → s.group ≡ group → Yields GivesNext s xs t → Turning (is_of group) (Becomes vacated) old (slots_of s.table.now) → Turning (is_of group) (Becomes vacated) old (slots_of t.table.now)
    given_turns [] s t old is y turning = subst (λ (u : Returning S). Turning (is_of group) (Becomes vacated) old (slots_of u.table.now)) y turning
    given_turns (x ∷ xs) s t old is y turning =
        let u = y.0 in
        let now = slots_of s.table.now in
        let g = subst (λ g. GivesAny (is_of g) (whole_in (ids_of s.table.now)) (Some x) now (slots_of u.table.now)) is y.1.gives.slots in
        given_turns xs u t old (y.1.group ∙ is) y.2 (turn_step (is_of group) (Becomes vacated) old now (slots_of u.table.now) g.0 (vacated (slot_at now g.0)) turning g.1.within g.1.was g.1.slots (λ o n w. w) (λ o n w. ap (is_of group) w ∙ group_out group o) refl)

  -- settings, ids and memory stayed, and it is the same borrow of the table
  given_stays : (xs : List (DescriptorSet S)) (s t : Returning S) → Yields GivesNext s xs t → (t.group ≡ s.group) × (t.table.ghost_name ≡ s.table.ghost_name) × Stays s.table.now t.table.now
  given_stays [] s t y = (ap (λ (u : Returning S). u.group) (sym y), ap (λ (u : Returning S). u.table.ghost_name) (sym y), subst (λ (u : Returning S). Stays s.table.now u.table.now) y (record { settings = refl; ids = refl; space = refl }))
  given_stays (x ∷ xs) s t y = search (rules, stays_more, given_stays xs y.0 t y.2)

  -- none is left
  turn_end : (test : Slot (CompactDescriptorSet S) → Bool) (old now : List (Slot (CompactDescriptorSet S))) → Turning test (Becomes vacated) old now → ((p : ℕ) → test (slot_at now p) ≡ false) → Turns test (Becomes vacated) old now
  turn_end test old now turning none = search (rules, true≢false)

  -- all sets of the group were taken out
  pub given_all : (xs : List (DescriptorSet S)) (s u : Returning S) → YieldsThen GivesNext s xs None u → Turns (is_of s.group) (Becomes vacated) (slots_of s.table.now) (slots_of u.table.now) × (u.table.ghost_name ≡ s.table.ghost_name) × Stays s.table.now u.table.now
  given_all xs s u d = search (rules, given_stays xs s d.0 d.1, given_turns s.group xs s d.0 (slots_of s.table.now) refl d.1 (record { long = refl; each = λ p. inl refl }), turn_end, stays_more)

module _ {S : Type 0} (name : S → ℕ) where
  -- what an item weighs in a tally of sets: how often it is there
  weight : Item → DescriptorSet S → ℕ
  weight t x = count_of t (item_of name x ∷ [])

  counts : (t : Item) (l : List (DescriptorSet S)) → count_of t (items_of name l) ≡ tally (weight t) l
  unfolding weight
  counts t [] = refl
  counts t (x ∷ l) = count_parts name (x ∷ []) l t ∙ ap (λ n. count_of t (item_of name x ∷ []) + n) (counts t l)

  -- what was returned, and what is left, is what there was
  pub given_count : (xs : List (DescriptorSet S)) (s u : Returning S) → Yields GivesNext s xs u → (t : Item) → count_of t (items_of name (whole_sets s.table.now)) ≡ count_of t (items_of name xs) + count_of t (items_of name (whole_sets u.table.now))
  given_count xs s u y t = omega (arith, given_weigh (weight t) xs s u y, counts t (whole_sets s.table.now), counts t xs, counts t (whole_sets u.table.now))

  -- a set came into a slot that had none, and has a handle
  pub put_count : (ids : ℕ → ℕ) (layout : ℕ) (y : CompactDescriptorSet S) (x : DescriptorSet S) (number p : ℕ) (u : Use) (handle : SetHandle) (old mid new : List (Slot (CompactDescriptorSet S))) → whole (ids layout, y) ≡ x → Puts layout y p old mid → Renews number p u handle mid new
      → ((t : Item) → count_of t (items_of name (filter_map (whole_in ids) new)) ≡ count_of t (items_of name (filter_map (whole_in ids) old)) + count_of t (items_of name (x ∷ []))) × (length (filter_map (whole_in ids) new) ≡ length (filter_map (whole_in ids) old) + 1)
  put_count ids layout y x number p u handle old mid new is puts renews =
      let here = ap (λ l. whole_in ids (slot_at l p)) renews.slots ∙ ap (whole_in ids) (slot_set mid p (renewed u (slot_at mid p)) puts.within ∙ ap (renewed u) puts.here) ∙ ap Some is in
      let others = λ (q : ℕ) (ne : q ≢ p). ap (λ l. whole_in ids (slot_at l q)) renews.slots ∙ ap (whole_in ids) (other_slots mid p (renewed u (slot_at mid p)) q ne ∙ puts.others q ne) in
      let none = ap (λ o. option_map (λ y. whole (ids (slot_at old p).layout, y)) o) puts.empty in
      let weighs = λ (weight : DescriptorSet S → ℕ). got weight (whole_in ids) refl old new p x (omega (arith, puts.within, ap length renews.slots, length-set mid p (renewed u (slot_at mid p)))) none here others in
      (λ t. omega (arith, weighs (weight t), counts t (filter_map (whole_in ids) old), counts t (filter_map (whole_in ids) new), counts t (x ∷ [])), omega (arith, weighs (λ x. 1), tally_length (filter_map (whole_in ids) old), tally_length (filter_map (whole_in ids) new)))

  -- the set of a slot counts
  pub there : (ids : ℕ → ℕ) (p : ℕ) (x : DescriptorSet S) (slots : List (Slot (CompactDescriptorSet S))) → whole_in ids (slot_at slots p) ≡ Some x → 0 < count_of (item_of name x) (items_of name (filter_map (whole_in ids) slots))
  unfolding weight
  there ids p x slots is =
      let within = test_within (λ s. is_some (whole_in ids s)) slots p refl (ap is_some is) in
      omega (arith, gives_weigh (weight (item_of name x)) (whole_in ids) (λ s. refl) (λ s. true) x slots _ (p, record { was = refl; within = within; slots = refl }, is), counts (item_of name x) (filter_map (whole_in ids) slots), counted name x (x ∷ []) 0 refl)

-- the last of sets of a layout is one
pub last_of : {L P S : Type 0} (means : Meaning L P S) (known : L) (rest : List (DescriptorSet S)) (x : DescriptorSet S) (l : List (DescriptorSet S)) → l ≡ rest ++ x ∷ [] → AreSetsOf means known l → IsOfLayout means known x.raw × (x.key.is ≡ layout_key means known)
last_of means known rest x l is own = subst (λ (x : DescriptorSet _). IsOfLayout means known x.raw × (x.key.is ≡ layout_key means known)) (ap (λ l. get_or l (length rest) x) is ∙ get_or_push rest x x (length rest) refl) (own (length rest) x (omega (arith, ap length is, length-append rest (x ∷ []))))

-- outstanding sets of one key have one id
pub one_id : (s : State) (t u : Item) → 0 < outstanding s t → 0 < outstanding s u → t.key ≡ u.key → t.id ≡ u.id
one_id s t u one other key = grind (arith, common_steps)

-- a layout gets another id, which is the same if it has sets
pub same_ids : {S : Type 0} (ids more : ℕ → ℕ) (layout id : ℕ) (slots : List (Slot (CompactDescriptorSet S))) → ((n : ℕ) → more n ≡ (if n == layout then id else ids n)) → ((p : ℕ) (x : CompactDescriptorSet S) → (slot_at slots p).set ≡ Some x → (slot_at slots p).layout ≡ layout → id ≡ ids layout) → filter_map (whole_in more) slots ≡ filter_map (whole_in ids) slots
same_ids ids more layout id slots are same = same_sets (whole_in ids) (whole_in more) slots slots refl (λ p. grind (arith, common_steps, cases_eq (slot_at slots p).layout layout, are (slot_at slots p).layout, same p))

module _ {L P S D : Type 0} {d : Ghosts D L P S} (s : Store L P S D d) (rest : List (DescriptorSet S)) (x : DescriptorSet S) (last : s.coming.items ≡ rest ++ x ∷ []) where
  -- a new set is outstanding
  pub last_out : 0 < outstanding (state_of d.meaning.pool_name s.allocator (d.ledger s.device)) (item_of d.meaning.set_name x)
  last_out = let t = item_of d.meaning.set_name x in omega (arith, s.exact t, ap (λ l. count_of t (items_of d.meaning.set_name l)) last, count_parts d.meaning.set_name rest (x ∷ []) t, counted d.meaning.set_name x (x ∷ []) 0 refl)

  -- the id of the layout's sets stays if it becomes that of a new one
  pub id_stays : (known : L) (layout : ℕ) (more : ℕ → ℕ) → ((n : ℕ) → more n ≡ (if n == layout then x.id else ids_of s.table n)) → x.key.is ≡ layout_key d.meaning known → AreAllOf d.meaning known layout (slots_of s.table) → filter_map (whole_in more) (slots_of s.table) ≡ whole_sets s.table
  id_stays known layout more are key own = same_ids (ids_of s.table) more layout x.id (slots_of s.table) are (λ p y is at.
      let ids = ids_of s.table in
      let other = whole (ids (slot_at (slots_of s.table) p).layout, y) in
      let t = item_of d.meaning.set_name other in
      let out = there d.meaning.set_name ids p other (slots_of s.table) (ap (λ o. option_map (λ y. whole (ids (slot_at (slots_of s.table) p).layout, y)) o) is) in
      one_id (state_of d.meaning.pool_name s.allocator (d.ledger s.device)) (item_of d.meaning.set_name x) t last_out (omega (arith, s.exact t, out)) (key ∙ sym (own p y is at).1) ∙ ap ids at)

module _ {L P S D : Type 0} {d : Ghosts D L P S} (s : Store L P S D d) {l : List (DescriptorSet S)} (same : l ≡ whole_sets s.table) where
  -- with the sets that a store has its table is exact
  pub exact_as : (t : Item) → outstanding (state_of d.meaning.pool_name s.allocator (d.ledger s.device)) t ≡ count_of t (items_of d.meaning.set_name l) + count_of t (items_of d.meaning.set_name s.coming.items)
  exact_as t = (let count = ap (λ l. count_of t (items_of d.meaning.set_name l)) same in let is = s.exact t in omega arith)

  pub accounted_as : outstanding_of s.allocator ≡ length l + length s.coming.items
  accounted_as = (let count = ap length same in let is = s.accounted in omega arith)

-- a slot has the same set, under the same layout
abbrev pub KeepsSet : {T : Type 0} → Slot T → Slot T → Type 0
KeepsSet o n = (n.set ≡ o.set) × (n.layout ≡ o.layout)

-- the same sets are in a table if each slot keeps its set
module _ {S : Type 0} (a b : SetTable (CompactDescriptorSet S)) (stays : Stays a b) where
  whole_as : length (slots_of b) ≡ length (slots_of a) → ((p : ℕ) → KeepsSet (slot_at (slots_of a) p) (slot_at (slots_of b) p)) → whole_sets b ≡ whole_sets a
  whole_as long same = same_sets (whole_in (ids_of a)) (whole_in (ids_of b)) (slots_of a) (slots_of b) long (λ p i. option_map (λ x. whole (stays.ids i ((same p).1 i), x)) ((same p).0 i))

  -- as those keep it that turn
  pub turned_whole : {test : Slot (CompactDescriptorSet S) → Bool} {becomes : List (Slot (CompactDescriptorSet S)) → Slot (CompactDescriptorSet S) → Slot (CompactDescriptorSet S) → Type 0} → Turns test becomes (slots_of a) (slots_of b) → ((o n : Slot (CompactDescriptorSet S)) → becomes (slots_of b) o n → KeepsSet o n) → whole_sets b ≡ whole_sets a
  turned_whole turns same = whole_as turns.long (λ p. search rules)

  module _ {handles : List SetHandle} {becomes : List (Slot (CompactDescriptorSet S)) → Slot (CompactDescriptorSet S) → Slot (CompactDescriptorSet S) → Type 0} (same : (o n : Slot (CompactDescriptorSet S)) → becomes (slots_of b) o n → KeepsSet o n) where
    each_whole : TurnEach handles becomes (slots_of a) (slots_of b) → whole_sets b ≡ whole_sets a
    each_whole turns = whole_as turns.long (λ p. elim (named_or (length handles) (place_at handles) p) [
      | inl found ↦ subst (λ p. KeepsSet (slot_at (slots_of a) p) (slot_at (slots_of b) p)) found.2 (same _ _ (turns.named found.0 found.1))
      | inr apart ↦ search (rules, turns.rest p apart)
    ])

    -- also if none turned
    pub any_whole : (is : Bool) → (is ≡ true → TurnEach handles becomes (slots_of a) (slots_of b)) → (is ≡ false → slots_of b ≡ slots_of a) → whole_sets b ≡ whole_sets a
    any_whole false turns none = whole_as (ap length (none refl)) (λ p. search rules)
    any_whole true turns none = each_whole (turns refl)

  -- and as it is if a handle is given
  pub renewed_whole : (number p : ℕ) (u : Use) (handle : SetHandle) → Renews number p u handle (slots_of a) (slots_of b) → whole_sets b ≡ whole_sets a
  renewed_whole number p u handle renews = whole_as (ap length renews.slots ∙ length-set _ _ _) (λ q. grind (arith, common_steps, cases_eq q p, cases_lt p (length (slots_of a)), other_slots, slot_set))

  -- or if a kept set is given to a frame, or none is
  pub reused_whole : (number : ℕ) (u : Use) (result : Option SetHandle) → IfSome result (λ h. Renews number h.place u h (slots_of a) (slots_of b)) → (result ≡ None → slots_of b ≡ slots_of a) → whole_sets b ≡ whole_sets a
  reused_whole number u (Some h) renews none = renewed_whole number h.place u h renews
  reused_whole number u None renews none = whole_as (ap length (none refl)) (λ p. search rules)

-- an iterator gave sets to its end
module _ {S : Type 0} (xs : List (DescriptorSet S)) (s u : Returning S) (d : YieldsThen GivesNext s xs None u) where
  last_sets : whole_sets u.table.now ≡ whole_sets d.0.table.now
  last_sets = λ i. filter_map (whole_in (d.2.gives.stays.ids i)) (d.2.gives.slots.slots i)

  pub all_count : (name : S → ℕ) (t : Item) → count_of t (items_of name (whole_sets s.table.now)) ≡ count_of t (items_of name xs) + count_of t (items_of name (whole_sets u.table.now))
  all_count name t = given_count name xs s d.0 d.1 t ∙ ap (λ l. count_of t (items_of name xs) + count_of t (items_of name l)) (sym last_sets)

  pub all_many : length (whole_sets s.table.now) ≡ length xs + length (whole_sets u.table.now)
  all_many = omega (arith, given_weigh (λ x. 1) xs s d.0 d.1, tally_length (whole_sets s.table.now), tally_length xs, tally_length (whole_sets d.0.table.now)) ∙ ap (λ l. length xs + length l) (sym last_sets)

-- no set is returned
pub returns_none : {L P S : Type 0} (means : Meaning L P S) (old : Allocations P) (before : Ledger) → Returns means [] (side old before) (side old before)
returns_none means old before = record { back = gives_none means old before; keys = refl; looks_stay = refl; comparisons = omega arith; compared = omega arith }

-- no set passes the test, and so none leaves
pub none_turns : {T : Type 0} (test : Slot T → Bool) (slots : List (Slot T)) → ((p : ℕ) → test (slot_at slots p) ≡ false) → Turns test (Becomes vacated) slots slots
none_turns test slots none = record { long = refl; rest = λ p out. refl; here = λ p passes. absurd (true≢false (sym passes ∙ none p)) }
