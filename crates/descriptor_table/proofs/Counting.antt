-- Lists of places: how often each place is in them, what comes last, where they lead, and along which a number rises. For the lists
-- of slots, as they are in `Listed` and `Counts`, and for the queue.
use Rattle.std.specs.Prelude.{⊤}
use Rattle.std.proofs.lemmas.List.{append-nil}
use Rattle.std.specs.List.{filter}
use Rattle.std.proofs.Math.Seq.{drop-append_seam, take-append_seam}
use Rattle.std.proofs.lemmas.List.Sorted.{IsNonDecreasingBy-drop, IsNonDecreasingBy-take}
use Rattle.descriptor_table.proofs.Common.{if◌then◌else◌, le-leb, lt-leb, nat_le, cases_lt, ◌≡◌, ◌≢◌, ℕ, zero, suc, ◌+◌, ◌-◌, ◌<◌, ◌≤◌, List, [], ◌∷◌, ◌++◌, Option, None, Some, inl, inr, length, get_or, set, refl, sym, ap, subst, ◌∙◌, arith, eq-eqb, ne_eqb, rules, get_or-set_other, get_or-set_same, length-set, cases_eq, last_or, times, walk, IsNonDecreasingBy}

pub times_here : (p : ℕ) (l : List ℕ) → times p (p ∷ l) ≡ times p l + 1
times_here p l = rw (eq-eqb p p refl) (omega arith)

pub times_there : (p q : ℕ) (l : List ℕ) → p ≢ q → times p (q ∷ l) ≡ times p l
times_there p q l ne = rw (ne_eqb p q ne) (omega arith)

pub times_append : (p : ℕ) (l m : List ℕ) → times p (l ++ m) ≡ times p l + times p m
times_append p [] m = omega arith
times_append p (q ∷ l) m = let h = times_append p l m in omega arith

-- a list that a place is not in is the same, whatever its next is
pub walk_other : (n : ℕ) (next : List ℕ) (first p x : ℕ) → times p (walk n next first) ≡ 0 → walk n (set next p x) first ≡ walk n next first
walk_other zero next first p x none = refl
walk_other (suc n) next first p x none = search (rules, cases_eq, times_here, times_there, get_or-set_other, walk_other n next (get_or next first 0) p x)

-- a list stays if the nexts of its places do
pub walk_agree : (n : ℕ) (next next' : List ℕ) (first : ℕ) → ((q : ℕ) → times q (walk n next first) ≢ 0 → get_or next' q 0 ≡ get_or next q 0) → walk n next' first ≡ walk n next first
walk_agree zero next next' first same = refl
walk_agree (suc n) next next' first same = search (rules, same first, times_here first (walk n next (get_or next first 0)), walk_agree n next next' (get_or next first 0))

-- a place that comes after one of a list is in the list once more, and each other place as often as before
pub walk_after : (n : ℕ) (next : List ℕ) (first near p q : ℕ) → times near (walk n next first) ≡ 1 → times p (walk n next first) ≡ 0 → near < length next → p < length next → times q (walk (suc n) (set (set next p (get_or next near 0)) near p) first) ≡ times q (p ∷ walk n next first)
walk_after zero next first near p q once none there within = absurd (omega arith)
walk_after (suc n) next first near p q once none there within = grind (arith, cases_eq first near, cases_eq first p, times_here, times_there, get_or-set_other, get_or-set_same, length-set, walk_other n next (get_or next first 0), walk_other n (set next p (get_or next near 0)) (get_or next first 0) near p, walk_after n next (get_or next first 0) near p q)

pub walk_length : (n : ℕ) (next : List ℕ) (first : ℕ) → length (walk n next first) ≡ n
walk_length zero next first = refl
walk_length (suc n) next first = let h = walk_length n next (get_or next first 0) in omega arith

-- a list is cut at each of its places
pub cut_at : (p : ℕ) (l : List ℕ) → times p l ≢ 0 → (before after : List ℕ) × (l ≡ before ++ p ∷ after)
cut_at p [] some = absurd (some refl)
cut_at p (q ∷ l) some = elim (cases_eq p q) [
  | inl e ↦ ([], l, ap (λ q. q ∷ l) (sym e))
  | inr ne ↦ (let cut = cut_at p l (λ none. some (times_there p q l ne ∙ none)) in (q ∷ cut.0, cut.1, ap (λ l. q ∷ l) cut.2))
]

-- the last place of two lists is that of the second one, if this has a place
pub last_append : (o : Option ℕ) (l m : List ℕ) → last_or o (l ++ m) ≡ last_or (last_or o l) m
last_append o [] m = refl
last_append o (p ∷ l) m = last_append (Some p) l m

pub last_any : (o : Option ℕ) (l : List ℕ) (p : ℕ) → last_or None l ≡ Some p → last_or o l ≡ Some p
last_any o [] p is = absurd (cc is)
last_any o (q ∷ l) p is = is

pub last_some : (l : List ℕ) (last : ℕ) → length l ≢ 0 → last_or (Some last) l ≡ Some last → last_or None l ≡ Some last
last_some [] last some is = absurd (some refl)
last_some (q ∷ l) last some is = is

-- the last one stays when the first of more leaves a list
pub last_rest : (p last : ℕ) (l : List ℕ) → last_or (Some p) l ≡ Some last → last_or (Some last) l ≡ Some last
last_rest p last [] is = refl
last_rest p last (q ∷ l) is = is

-- nothing comes before the first place
pub none_before : (l : List ℕ) → last_or None l ≡ None → l ≡ []
none_before [] is = refl
none_before (q ∷ []) is = absurd (cc is)
none_before (q ∷ r ∷ l) is = absurd (cc (none_before (r ∷ l) is))

-- the last place of a list is in it
pub last_in : (p : ℕ) (l : List ℕ) → last_or None l ≡ Some p → times p l ≢ 0
last_in p [] is = absurd (cc is)
last_in p (q ∷ []) is = λ none. (let e : q ≡ p = cc is in omega (arith, none, times_here p [], ap (λ q. times p (q ∷ [])) e))
last_in p (q ∷ r ∷ l) is = λ none. last_in p (r ∷ l) is (omega (arith, none))

-- nothing comes after the last place, and something after any other
pub after_last : (before after : List ℕ) (last : ℕ) → last_or None before ≡ Some last → last_or (Some last) (before ++ after) ≡ Some last → times last (before ++ after) ≤ 1 → after ≡ []
after_last before [] last at ends few = refl
after_last before (q ∷ after) last at ends few = absurd (last_in last before at (omega (arith, few, times_append last before (q ∷ after), last_in last (q ∷ after) (sym (last_append (Some last) before (q ∷ after)) ∙ ends))))

pub after_other : (before after : List ℕ) (near last : ℕ) → last_or None before ≡ Some near → last_or (Some last) (before ++ after) ≡ Some last → near ≢ last → (q : ℕ) × (rest : List ℕ) × (after ≡ q ∷ rest)
after_other before [] near last at ends ne = absurd (ne (cc (last_any (Some last) before near at, last_append (Some last) before [], ends)))
after_other before (q ∷ after) near last at ends ne = (q, after, refl)

-- the last place of a list into which another one is put
pub last_between : (before b after : List ℕ) (last end new : ℕ) → last_or (Some last) (before ++ after) ≡ Some last → last_or None b ≡ Some end → (length after ≡ 0 → new ≡ end) → (length after ≢ 0 → new ≡ last) → last_or (Some new) (before ++ (b ++ after)) ≡ Some new
last_between before b [] last end new ends is none some = last_append (Some new) before (b ++ []) ∙ last_append (last_or (Some new) before) b [] ∙ last_any (last_or (Some new) before) b end is ∙ ap Some (sym (none refl))
last_between before b (q ∷ after) last end new ends is none some = last_append (Some new) before (b ++ q ∷ after) ∙ last_append (last_or (Some new) before) b (q ∷ after) ∙ sym (last_append (Some last) before (q ∷ after)) ∙ ends ∙ ap Some (sym (some (λ e. absurd (omega (arith, e)))))

-- the list goes along the nexts, from this place on
abbrev pub Leads : List ℕ → ℕ → List ℕ → Type 0
Leads next first [] = ⊤
Leads next first (p ∷ l) = (p ≡ first) × Leads next (get_or next p 0) l

pub walk_leads : (n : ℕ) (next : List ℕ) (first : ℕ) → Leads next first (walk n next first)
walk_leads zero next first = tt
walk_leads (suc n) next first = (refl, walk_leads n next (get_or next first 0))

pub leads_walk : (l : List ℕ) (next : List ℕ) (first : ℕ) → Leads next first l → walk (length l) next first ≡ l
leads_walk [] next first leads = refl
leads_walk (p ∷ l) next first leads = subst (λ first. walk (length (p ∷ l)) next first ≡ p ∷ l) leads.0 (ap (λ l. p ∷ l) (leads_walk l next (get_or next p 0) leads.1))

-- what follows a place
pub leads_past : (before after : List ℕ) (next : List ℕ) (first p : ℕ) → Leads next first (before ++ after) → last_or None before ≡ Some p → Leads next (get_or next p 0) after
leads_past [] after next first p leads is = absurd (cc is)
leads_past (q ∷ []) after next first p leads is = (let e : q ≡ p = cc is in subst (λ q. Leads next (get_or next q 0) after) e leads.1)
leads_past (q ∷ r ∷ before) after next first p leads is = leads_past (r ∷ before) after next (get_or next q 0) p leads.1 is

-- another list follows one, after its last place
pub leads_on : (l m : List ℕ) (next : List ℕ) (first p : ℕ) → Leads next first l → last_or None l ≡ Some p → Leads next (get_or next p 0) m → Leads next first (l ++ m)
leads_on [] m next first p leads is goes = absurd (cc is)
leads_on (q ∷ []) m next first p leads is goes = (leads.0, subst (λ q. Leads next (get_or next q 0) m) (let e : p ≡ q = cc is in e) goes)
leads_on (q ∷ r ∷ l) m next first p leads is goes = (leads.0, leads_on (r ∷ l) m next (get_or next q 0) p leads.1 is goes)

pub walk_next : (n : ℕ) (next : List ℕ) (first p q : ℕ) (before after rest : List ℕ) → walk n next first ≡ before ++ after → last_or None before ≡ Some p → after ≡ q ∷ rest → q ≡ get_or next p 0
walk_next n next first p q before after rest is at more = (subst (Leads next (get_or next p 0)) more (leads_past before after next first p (subst (Leads next first) is (walk_leads n next first)) at)).0

pub leads_other : (l : List ℕ) (next : List ℕ) (first p x : ℕ) → times p l ≡ 0 → Leads next first l → Leads (set next p x) first l
leads_other [] next first p x none leads = tt
leads_other (q ∷ l) next first p x none leads = (leads.0, subst (λ y. Leads (set next p x) y l) (sym (get_or-set_other next p q x 0 (λ e. absurd (omega (arith, none, times_here p l, ap (λ q. times p (q ∷ l)) e))))) (leads_other l next (get_or next q 0) p x (omega (arith, none)) leads.1))

-- another list comes after a place
pub leads_join : (before after rest : List ℕ) (next : List ℕ) (first p head : ℕ) → Leads next first (before ++ after) → last_or None before ≡ Some p → Leads next head rest → ((p : ℕ) → times p before + times p rest ≤ 1) → p < length next → Leads (set next p head) first (before ++ rest)
leads_join [] after rest next first p head leads is goes apart within = absurd (cc is)
leads_join (q ∷ []) after rest next first p head leads is goes apart within = search (rules, get_or-set_same, leads_other rest next head p head, last_in p (q ∷ []) is, apart p)
leads_join (q ∷ r ∷ before) after rest next first p head leads is goes apart within = search (rules, get_or-set_other, last_in p (r ∷ before) is, apart, times_here p (r ∷ before), leads_join (r ∷ before) after rest next (get_or next q 0) p head leads.1 is goes)

-- another list is put into one that is cut there
module _ (next before b after : List ℕ) (first head end : ℕ) (leads : Leads next first (before ++ after)) (goes : Leads next head b) (ends : last_or None b ≡ Some end) (few : (p : ℕ) → times p before + times p after + times p b ≤ 1) (there : end < length next) where
  to_rest : (past : ℕ) → Leads next past after → Leads (set next end past) head (b ++ after)
  to_rest past on = leads_join b [] after next head end past (subst (Leads next head) (sym (append-nil b)) goes) ends on (λ p. omega (arith, few p)) there

  pub put_first : last_or None before ≡ None → Leads (set next end first) head (before ++ (b ++ after))
  put_first at = subst (λ l. Leads (set next end first) head (l ++ (b ++ after))) (sym (none_before before at)) (to_rest first (subst (λ l. Leads next first (l ++ after)) (none_before before at) leads))

  pub put_after : (near past : ℕ) → last_or None before ≡ Some near → near < length next → Leads next past after → Leads (set (set next end past) near head) first (before ++ (b ++ after))
  put_after near past at within on =
      let apart = leads_other (before ++ after) next first end past (omega (arith, few end, last_in end b ends, times_append end before after)) leads in
      leads_join before after (b ++ after) (set next end past) first near head apart at (to_rest past on) (λ p. omega (arith, few p, times_append p b after)) (omega (arith, within, length-set next end past))

-- the place at an index is in the list
times_at : (l : List ℕ) (j d : ℕ) → j < length l → times (get_or l j d) l ≢ 0
times_at [] j d lt = absurd (omega (arith, lt))
times_at (x ∷ l) zero d lt = λ none. absurd (omega (arith, none, times_here x l))
times_at (x ∷ l) (suc j) d lt = λ none. times_at l j d (omega (arith, lt)) (omega (arith, none))

-- along a list that rises no number is smaller than the first one, or greater than the last one
pub rises_first : (n : ℕ → ℕ) (q p : ℕ) (l : List ℕ) → IsNonDecreasingBy n (q ∷ l) → times p (q ∷ l) ≢ 0 → n q ≤ n p
rises_first n q p [] rises some = grind (arith, cases_eq p q, times_there p q [])
rises_first n q p (r ∷ l) rises some = grind (arith, cases_eq p q, times_there p q (r ∷ l), rises 0 1 0, rises_first n r p l (IsNonDecreasingBy-drop n 1 (q ∷ r ∷ l) rises))

rises_more : (n : ℕ → ℕ) (x : ℕ) (l : List ℕ) → ((q : ℕ) → times q l ≢ 0 → n x ≤ n q) → IsNonDecreasingBy n l → IsNonDecreasingBy n (x ∷ l)
rises_more n x l less rest i j d le lt = grind (arith, cases_eq i 0, cases_eq j 0, less (get_or l (j - 1) d), times_at l (j - 1) d, rest (i - 1) (j - 1) d)

-- two lists rise together, if no place of the first one has a greater number than one of the second
pub rises_join : (n : ℕ → ℕ) (l m : List ℕ) → IsNonDecreasingBy n l → IsNonDecreasingBy n m → ((p q : ℕ) → times p l ≢ 0 → times q m ≢ 0 → n p ≤ n q) → IsNonDecreasingBy n (l ++ m)
rises_join n [] m left right less = right
rises_join n (x ∷ l) m left right less = rises_more n x (l ++ m) (λ q some. grind (arith, times_append q l m, rises_first n x q l left, less x q, times_here x l)) (rises_join n l m (IsNonDecreasingBy-drop n 1 (x ∷ l) left) right (λ p q some. less p q (λ none. some (omega (arith, none)))))

pub rises_parts : (n : ℕ → ℕ) (l m : List ℕ) → IsNonDecreasingBy n (l ++ m) → IsNonDecreasingBy n l × IsNonDecreasingBy n m
rises_parts n l m rises = (rw take-append_seam at (IsNonDecreasingBy-take n (length l) (l ++ m) rises), rw drop-append_seam at (IsNonDecreasingBy-drop n (length l) (l ++ m) rises))

-- the numbers along a list count alone
pub rises_same : (n n' : ℕ → ℕ) (l : List ℕ) → ((p : ℕ) → times p l ≢ 0 → n' p ≡ n p) → IsNonDecreasingBy n l → IsNonDecreasingBy n' l
rises_same n n' l same rises i j d le lt = omega (arith, same (get_or l i d) (times_at l i d (omega (arith, le, lt))), same (get_or l j d) (times_at l j d lt), rises i j d le lt)

pub rises_last : (n : ℕ → ℕ) (o : Option ℕ) (l : List ℕ) (last p : ℕ) → IsNonDecreasingBy n l → last_or o l ≡ Some last → times p l ≢ 0 → n p ≤ n last
rises_last n o [] last p rises is some = absurd (some refl)
rises_last n o (q ∷ l) last p rises is some = grind (arith, cases_eq p q, rises_first n q last l rises (last_in last (q ∷ l) is), times_there p q l, rises_last n (Some q) l last p (rises_parts n (q ∷ []) l rises).1 is)

-- the numbers of a list that rises are past this one if the first is
pub past_first : (n : ℕ → ℕ) (f : ℕ) (l : List ℕ) → IsNonDecreasingBy n l → ((q : ℕ) (rest : List ℕ) → l ≡ q ∷ rest → f < n q) → (p : ℕ) → times p l ≢ 0 → f < n p
past_first n f [] rises later p some = absurd (some refl)
past_first n f (q ∷ l) rises later p some = omega (arith, later q l refl, rises_first n q p l rises some)

-- a list whose places have one number comes between smaller and greater ones
pub rises_between : (n : ℕ → ℕ) (f : ℕ) (before b after : List ℕ) → IsNonDecreasingBy n (before ++ after) → ((p : ℕ) → times p before ≢ 0 → n p ≤ f) → ((p : ℕ) → times p after ≢ 0 → f < n p) → ((p : ℕ) → times p b ≢ 0 → n p ≡ f) → IsNonDecreasingBy n (before ++ (b ++ after))
rises_between n f before b after rises early late now =
    let parts = rises_parts n before after rises in
    let among : IsNonDecreasingBy n b = rises_same (λ p. f) n b now (λ i j d le lt. omega arith) in
    rises_join n before (b ++ after) parts.0 (rises_join n b after among parts.1 (λ p q some there. omega (arith, now p some, late q there))) (λ p q some there. grind (arith, times_append q b after, early p some, now q, late q))

-- a list along which a number rises is cut where the number passes another one: its first part is what passes the test
pub cut_past : (n : ℕ → ℕ) (f : ℕ) (l : List ℕ) → IsNonDecreasingBy n l → (before after : List ℕ) × (l ≡ before ++ after) × ((p : ℕ) → times p before ≢ 0 → n p ≤ f) × ((p : ℕ) → times p after ≢ 0 → f < n p)
cut_past n f [] rises = ([], [], refl, λ p some. absurd (some refl), λ p some. absurd (some refl))
cut_past n f (q ∷ l) rises = elim (cases_lt f (n q)) [
  | inl late ↦ ([], q ∷ l, refl, λ p some. absurd (some refl), past_first n f (q ∷ l) rises (λ p rest is. subst (λ p. f < n p) (cc is) late))
  | inr early ↦ (
      let cut = cut_past n f l (rises_parts n (q ∷ []) l rises).1 in
      (q ∷ cut.0, cut.1, ap (λ l. q ∷ l) cut.2, λ p some. grind (arith, cases_eq p q, times_there p q cut.0, cut.3 p), cut.4)
      )
]

-- what passes the test of two such parts is the first one
pub passed_cut : (n : ℕ → ℕ) (f : ℕ) (before after : List ℕ) → ((p : ℕ) → times p before ≢ 0 → n p ≤ f) → ((p : ℕ) → times p after ≢ 0 → f < n p) → filter (λ p. nat_le (n p) f) (before ++ after) ≡ before
passed_cut n f [] [] early late = refl
passed_cut n f [] (q ∷ l) early late = rw (lt-leb (n q) f (late q (λ none. absurd (omega (arith, none, times_here q l))))) (passed_cut n f [] l early (λ p some. late p (λ none. some (omega (arith, none)))))
passed_cut n f (q ∷ l) after early late = rw (le-leb (n q) f (early q (λ none. absurd (omega (arith, none, times_here q l))))) (ap (λ l. q ∷ l) (passed_cut n f l after (λ p some. early p (λ none. some (omega (arith, none)))) late))

-- and it is the same by numbers that are the same along the list
pub passed_same : (n n' : ℕ → ℕ) (f : ℕ) (l : List ℕ) → ((p : ℕ) → times p l ≢ 0 → n' p ≡ n p) → filter (λ p. nat_le (n' p) f) l ≡ filter (λ p. nat_le (n p) f) l
passed_same n n' f [] same = refl
passed_same n n' f (q ∷ l) same = (λ i. if nat_le (same q (λ none. absurd (omega (arith, none, times_here q l))) i) f then q ∷ passed_same n n' f l (λ p some. same p (λ none. some (omega (arith, none)))) i else passed_same n n' f l (λ p some. same p (λ none. some (omega (arith, none)))) i)
