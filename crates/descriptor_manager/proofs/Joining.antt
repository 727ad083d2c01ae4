-- Sets that come to a use, one after another: for `Store::hold_kept`, `hold_coming`, `allocate` and `allocate_each`.
-- The slots are `old` before the handles `a` are given, `mid` between, and `new` after the handles `b`; `x` and `y` say so of `a` and `b`.
-- Handles are written into a list `now`, of which the first are given: those before the place `n`.
use Rattle.descriptor_manager.proofs.Common.{common_steps, ◌≡◌, ◌≢◌, ℕ, ◌+◌, ◌-◌, ◌<◌, ◌⊎◌, ◌||◌, Bool, true, List, [], ◌++◌, length, get_or, Some, is_some, IsSome, inl, inr, refl, sym, ap, subst, ◌∙◌, arith, set, take, true≢false, rules, cases_lt, get_or-append-add, get_or_append_left}
use Rattle.descriptor_manager.proofs.Common.{length-append, Ghosts, CompactDescriptorSet, Slot, frame_of, is_kept_of, is_live, slot_at, waits_for, NameEach, find, is_given, sets_of, HasLayout, AreAllOf, IsSetOf, Meaning, SetTable, Settings, settings_of, is_held_use, place_at, SetHandle, Use, named_or, ComesInto, HoldEach, Holds, KeepsStore}
use Rattle.descriptor_manager.proofs.Common.{SetsCome, slots_in, Store, ◌∷◌, map, add-one, take-suc-set, get_or_default, take-map, AllFit, handles_long, handles_written, place_read}
use Rattle.descriptor_manager.proofs.Arriving.{Arrives, Clears, arrives_then, clears_arrives, same_arrives, used_placed}
use Rattle.descriptor_manager.proofs.Handing.{came_free, came_full, came_next, came_used, grow_more}
use Rattle.descriptor_manager.proofs.Naming.{free_is, is_free, given_apart, given_clear, next_of, seen_apart, seen_clear, seen_free, seen_next}
use Rattle.std.proofs.lemmas.List.Elements.{All-append, All-cons, All-nil}
use Rattle.descriptor_table.specs.declared.handle.SetName as set_names

-- a place of two lists is one of the first, or of the second
spot : (a b : List SetHandle) (i : ℕ) → i < length (a ++ b) → ((i < length a) × (place_at (a ++ b) i ≡ place_at a i)) ⊎ ((k : ℕ) × (k < length b) × (i ≡ length a + k) × (place_at (a ++ b) i ≡ place_at b k))
spot a b i lt = grind (arith, common_steps, cases_lt i (length a), length-append a b, get_or-append-add a b (i - length a) (record { manager = 0; place = 0; generation = 0 }))

module _ {T : Type 0} where
  -- a slot in a use with a handle isn't free
  used_not_free : (u : Use) (s : Slot T) → is_live (frame_of u) true u ≡ true → s.used ≡ u → is_some s.set ≡ true → is_free s ≡ true → ⊥
  used_not_free u s live is full free = search (rules, true≢false, free_is)

  module _ (number : ℕ) (layout : ℕ) (u : Use) (live : is_live (frame_of u) true u ≡ true) (a b : List SetHandle) (old mid new : List (Slot T)) (x : HoldEach number layout u a old mid) (y : HoldEach number layout u b mid new) where
    -- no handle of `b` has a place of `a`: the set there is in use by then, and so it is not free
    apart_places : (i k : ℕ) → i < length a → k < length b → place_at a i ≢ place_at b k
    apart_places i k lt less e = search (rules, came_free, came_full, came_used, is_free, used_not_free)

    -- the later places are as they were before
    later : (k : ℕ) → k < length b → slot_at mid (place_at b k) ≡ slot_at old (place_at b k)
    later k less = x.rest (place_at b k) (λ i lt. apart_places i k lt less)

    -- the first places stay as they are
    pub first : (i : ℕ) → i < length a → slot_at new (place_at a i) ≡ slot_at mid (place_at a i)
    first i lt = y.rest (place_at a i) (λ k less e. apart_places i k lt less (sym e))

    -- no two of all these handles have one place
    join_apart : (i j : ℕ) → i < j → j < length (a ++ b) → place_at (a ++ b) i ≢ place_at (a ++ b) j
    join_apart i j lt less e = grind (arith, apart_places, spot a b j less, spot a b i (omega arith))

    -- sets with the handles `a`, and then sets with `b`, have the handles of both lists
    pub joined : HoldEach number layout u (a ++ b) old new
    joined = record {
      apart = join_apart;
      is = λ i e lt. elim (spot a b i lt) [
        | inl s ↦ get_or_append_left a b e i s.0 ∙ x.is i e s.0 ∙ ap (λ p. next_of number p (slot_at old p)) (sym s.1)
        | inr s ↦ ap (λ j. get_or (a ++ b) j e) s.2 ∙ get_or-append-add a b s.0 e ∙ y.is s.0 e s.1 ∙ ap (next_of number (place_at b s.0)) (later s.0 s.1) ∙ ap (λ p. next_of number p (slot_at old p)) (sym s.3)
      ];
      comes = λ i lt. search (rules, first, later, x.comes, y.comes, spot a b i lt);
      rest = λ p none.
          y.rest p (λ k less e. none (length a + k) (let long = length-append a b in omega arith) (ap (λ (h : SetHandle). h.place) (get_or-append-add a b k (record { manager = 0; place = 0; generation = 0 })) ∙ e))
          ∙ x.rest p (λ i lt e. none i (let long = length-append a b in omega arith) (ap (λ (h : SetHandle). h.place) (get_or_append_left a b (record { manager = 0; place = 0; generation = 0 }) i lt) ∙ e));
    }

  -- the sets of the given handles were kept, and so was that of one more
  pub were_kept :
      (number : ℕ) (u : Use) (layout n : ℕ) (now : List SetHandle) (handle : SetHandle) (old mid : List (Slot T)) → is_live (frame_of u) true u ≡ true → n < length now
      → HoldEach number layout u (take n now) old mid → ((i : ℕ) → i < n → is_kept_of layout (slot_at old (place_at now i)) ≡ true)
      → is_kept_of layout (slot_at mid handle.place) ≡ true
      → (i : ℕ) → i < n + 1 → is_kept_of layout (slot_at old (place_at (set now n handle) i)) ≡ true
  were_kept number u layout n now handle old mid live within x each last i lt = elim (cases_lt i n) [
    | inl less ↦ search rules
    | inr le ↦ let same : i ≡ n = omega arith in search rules
  ]

  -- kept sets may have left their slots before the first set came
  module _ (number : ℕ) (layout : ℕ) (u : Use) (handles : List SetHandle) (old mid new : List (Slot T)) (clear : (q : ℕ) → Clears (slot_at old q) (slot_at mid q)) (x : HoldEach number layout u handles mid new) where
    -- each set was there, or came
    pub holds_arrives : is_live (frame_of u) true u ≡ true → (comes : ℕ → T → Type 0) → ((p : ℕ) (t : T) → (slot_at new p).set ≡ Some t → (((slot_at mid p).set ≡ Some t) × ((slot_at new p).layout ≡ (slot_at mid p).layout)) ⊎ comes (slot_at new p).layout t) → (q : ℕ) → Arrives comes (slot_at old q) (slot_at new q)
    holds_arrives live comes sets q = arrives_then comes (slot_at old q) (slot_at mid q) (slot_at new q) (clears_arrives comes (slot_at old q) (slot_at mid q) (clear q)) (elim (named_or (length handles) (place_at handles) q) [
      | inl found ↦
          let came = subst (λ q. ComesInto layout u (slot_at mid q) (slot_at new q)) found.2 (x.comes found.0 found.1) in
          record {
            set = sets q;
            placed = λ was. used_placed (slot_at new q) (came_full layout u (slot_at mid q) (slot_at new q) came) (ap (λ u. is_held_use u || waits_for (λ w. true) u) (came_used layout u (slot_at mid q) (slot_at new q) came) ∙ grind (arith, common_steps));
          }
      | inr none ↦ same_arrives comes (slot_at mid q) (slot_at new q) (x.rest q none)
    ])

    -- a handle that is none of these names what it named
    others_keep : (frame : ℕ) (opened : Bool) (other : SetHandle) → ((i : ℕ) (d : SetHandle) → i < length handles → get_or handles i d ≢ other) → (find number frame opened new other ≡ find number frame opened old other) × (is_given number new other ≡ is_given number old other)
    others_keep frame opened other none = elim (named_or (length handles) (place_at handles) other.place) [
      | inl found ↦
          let m = slot_at mid other.place in
          let n = slot_at new other.place in
          let came = subst (λ q. ComesInto layout u (slot_at mid q) (slot_at new q)) found.2 (x.comes found.0 found.1) in
          let more = came_next layout u m n came in
          let free = came_free layout u m n came in
          let apart : other ≢ next_of number other.place m = λ e. none found.0 other found.1 (x.is found.0 other found.1 ∙ ap (λ q. next_of number q (slot_at mid q)) found.2 ∙ sym e) in (
            seen_apart number frame opened m n other more apart ∙ sym (sym (seen_clear number frame opened (slot_at old other.place) m other (clear other.place)) ∙ seen_free number frame opened m other free),
            given_apart number m n other more apart ∙ given_clear number (slot_at old other.place) m other (clear other.place),
          )
      | inr far ↦
          let c = subst (Clears (slot_at old other.place)) (sym (x.rest other.place far)) (clear other.place) in
          (seen_clear number frame opened (slot_at old other.place) (slot_at new other.place) other c, given_clear number (slot_at old other.place) (slot_at new other.place) other c)
    ]

    -- each of the handles names a set
    names_set : (frame : ℕ) (opened : Bool) → is_live frame opened u ≡ true → (i : ℕ) (d : SetHandle) → i < length handles → IsSome (find number frame opened new (get_or handles i d))
    names_set frame opened live i d lt = grind (arith, common_steps, x.is i d lt, came_full, came_next, came_used, seen_next)

    -- none of them was ever given before, and all others name what they named
    pub are_named : (frame : ℕ) (opened : Bool) → is_live frame opened u ≡ true → NameEach handles (sets_of number frame opened old) (sets_of number frame opened new)
    are_named frame opened live = grind (arith, common_steps, names_set frame opened live, others_keep frame opened)

module _ {S : Type 0} where
  -- sets that came in two steps
  pub sets_after : (first comes : ℕ → CompactDescriptorSet S → Type 0) (old mid new : List (Slot (CompactDescriptorSet S))) → ((n : ℕ) (x : CompactDescriptorSet S) → first n x → comes n x) → SetsCome first old mid → SetsCome comes mid new → SetsCome comes old new
  sets_after first comes old mid new each a b p x e = search rules

module _ {L P S D : Type 0} {d : Ghosts D L P S} where
  pub store_same : (s : Store L P S D d) → KeepsStore s s
  store_same s = record { settings = refl; limit = refl; bound = refl; besides = refl }

  pub stays_then : (old mid new : Store L P S D d) → KeepsStore old mid → KeepsStore mid new → KeepsStore old new
  stays_then old mid new a b = search rules

  -- a store that gave handles, after it gave others
  pub holds_after :
      (first comes : ℕ → CompactDescriptorSet S → Type 0) (number layout : ℕ) (u : Use) (handles : List SetHandle) (old mid new : Store L P S D d) → ((n : ℕ) (x : CompactDescriptorSet S) → first n x → comes n x) → is_live (frame_of u) true u ≡ true
      → HoldEach number layout u handles (slots_in mid) (slots_in new) → Holds first old mid → Holds comes mid new → Holds comes old new
  holds_after first comes number layout u handles old mid new each live holds a b = record {
    side = b.side ∙ a.side;
    sets = sets_after first comes (slots_in old) (slots_in mid) (slots_in new) each a.sets b.sets;
    grows = grow_more number layout u handles (slots_in old) (slots_in mid) (slots_in new) live a.grows b.grows holds;
    stays = stays_then old mid new a.stays b.stays;
  }

  module _ (layout : ℕ) (u : Use) where
    -- the number is as it was
    pub held_stays : (handles : List SetHandle) (mid new : List (Slot (CompactDescriptorSet S))) (old now : Store L P S D d) → KeepsStore old now → HoldEach now.table.number layout u handles mid new → HoldEach old.table.number layout u handles mid new
    held_stays handles mid new old now stays holds = subst (λ number. HoldEach number layout u handles mid new) (ap (λ (s : Settings). s.number) stays.settings) holds

-- Names that fit the sets in their slots, while other names are made: `n` says which handle each has.
module _ {N T : Type 0} (n : set_names.Ghosts N T) (each : (names : List N) → n.handles_of names ≡ map n.handle_of names) (number layout : ℕ) (u : Use) (live : is_live (frame_of u) true u ≡ true) where
  -- names that are made leave those before them fit
  pub fit_both : (a b : List N) (old mid new : List (Slot T)) → HoldEach number layout u (n.handles_of a) old mid → HoldEach number layout u (n.handles_of b) mid new → AllFit n.handle_of n.fit mid a → AllFit n.handle_of n.fit new b → AllFit n.handle_of n.fit new (a ++ b)
  fit_both a b old mid new x y fits last = All-append (λ z. n.fit z (slot_at new (n.handle_of z).place).set ≡ true) a b (λ i d less.
      let z = get_or a i d in
      let stays = subst (λ p. slot_at new p ≡ slot_at mid p) (place_read n each a i z (n.handle_of z) less (get_or_default a i d z less) refl) (first number layout u live (n.handles_of a) (n.handles_of b) old mid new x y i (let long = handles_long n each a in omega arith)) in
      subst (λ (s : Slot T). n.fit z s.set ≡ true) (sym stays) (fits i d less)) last

  -- one name more is made, and a handle, which is given
  pub one_more :
      (names : List N) (i : ℕ) (x : N) (old mid new : List (Slot T)) → i < length names → HoldEach number layout u (take i (n.handles_of names)) old mid → HoldEach number layout u (n.handle_of x ∷ []) mid new
      → AllFit n.handle_of n.fit mid (take i names) → n.fit x (slot_at new (n.handle_of x).place).set ≡ true
      → HoldEach number layout u (take (i + 1) (n.handles_of (set names i x))) old new × AllFit n.handle_of n.fit new (take (i + 1) (set names i x))
  one_more names i x old mid new lt a b fits here =
      let long = handles_long n each names in
      let first = handles_written n each names i x (n.handle_of x) refl in (
        subst (λ l. HoldEach number layout u l old new) (sym (ap (take (i + 1)) first ∙ ap (λ m. take m (set (n.handles_of names) i (n.handle_of x))) (add-one i) ∙ take-suc-set (n.handles_of names) i (n.handle_of x) (omega arith))) (joined number layout u live _ _ old mid new a b),
        subst (AllFit n.handle_of n.fit new) (sym (ap (λ m. take m (set names i x)) (add-one i) ∙ take-suc-set names i x lt))
            (fit_both (take i names) (x ∷ []) old mid new
            (subst (λ l. HoldEach number layout u l old mid) (sym (each (take i names) ∙ sym (take-map n.handle_of i names) ∙ ap (take i) (sym (each names)))) a)
            (subst (λ l. HoldEach number layout u l mid new) (sym (each (x ∷ []))) b)
            fits (All-cons (λ z. n.fit z (slot_at new (n.handle_of z).place).set ≡ true) x [] here (All-nil (λ z. n.fit z (slot_at new (n.handle_of z).place).set ≡ true)))),
      )

-- sets under a number are of the layout still if those that come are
pub all_of_after : {L P S : Type 0} (means : Meaning L P S) (known : L) (layout : ℕ) (comes : ℕ → CompactDescriptorSet S → Type 0) (old new : List (Slot (CompactDescriptorSet S))) → ((n : ℕ) (x : CompactDescriptorSet S) → comes n x → IsSetOf means known x) → SetsCome comes old new → AreAllOf means known layout old → AreAllOf means known layout new
all_of_after means known layout comes old new come sets own p x is at = elim (sets p x is) [
  | inl there ↦ own p x there.0 (sym there.1 ∙ at)
  | inr came ↦ come _ x came
]

-- a layout is there still if the settings are as they were
pub layout_stays : {T : Type 0} (layout : ℕ) (old new : SetTable T) → settings_of new ≡ settings_of old → HasLayout layout old → HasLayout layout new
layout_stays layout old new stays has = record { within = subst (λ n. layout < n) (sym (ap (λ (s : Settings). s.layouts) stays)) has.within; there = ap (λ (s : Settings). s.removed layout) stays ∙ has.there }
