-- Numbers without gaps: no pools have any, and a request, a free and a cleanup leave none. For the law `only_a_trim_leaves_gaps`.
use Rattle.gpu_descriptor.proofs.Common.{◌≡◌, ℕ, ◌++◌, cond, list_any, spent_front, without_front, true, false, List, drop, refl, sym, ap, subst, ◌∙◌, arith, common_steps}
use Rattle.gpu_descriptor.proofs.Common.{Agree, Allocates, Call, Entry, Grant, Item, Key, State, fresh_entries, granted, key_eq, next_number, numbers_of, released, rises}
use Rattle.gpu_descriptor.specs.Model.Agreement.{HasNoGaps, HasNoPools}
use Rattle.gpu_descriptor.specs.Model.Cleanup.{LosesEmpty}
use Rattle.gpu_descriptor.specs.Model.Outcomes.Allocates.{above_limit, done, no_memory_at_start, none, past_bound, stopped}
use Rattle.gpu_descriptor.specs.Model.Release.{bucket_less}
use Rattle.gpu_descriptor.proofs.cleanup.Splitting.{pools_with}
use Rattle.gpu_descriptor.proofs.lists.Gaps.{IsDense, dense_drop, dense_fresh}
use Rattle.gpu_descriptor.proofs.lists.Numbers.{numbers_drop}
use Rattle.gpu_descriptor.proofs.release.Places.{back, numbers_less}
use Rattle.gpu_descriptor.proofs.request.FreshNumbers.{numbers_taken, rises_fresh}

-- the numbers of each key rise
abbrev AreRising : State → Type 0
AreRising s = (k : Key) → rises (numbers_of (s.books k).pools) ≡ true

pub none_begins : (s : State) → HasNoPools s → HasNoGaps s
none_begins s bare k = subst (λ (es : List Entry). IsDense (numbers_of es)) (sym (bare k)) (omega arith)

module _ (k : Key) (n : ℕ) (g : Grant) (s : State) where
  -- what holds of the numbers of the key's pools with the new ones, and of those of each other key, holds of all afterwards
  more : (P : List ℕ → Type 0) → P (numbers_of (s.books k).pools ++ numbers_of (fresh_entries (next_number (s.books k)) g.fresh)) → ((l : Key) → P (numbers_of (s.books l).pools)) → (l : Key) → P (numbers_of ((granted k n g s).books l).pools)
  more P new each l = grind (arith, common_steps, numbers_taken)

  dense_more : HasNoGaps s → HasNoGaps (granted k n g s)
  dense_more dense = more IsDense (dense_fresh (next_number (s.books k)) g.fresh (numbers_of (s.books k).pools) refl (dense k)) dense

  rising_more : AreRising s → AreRising (granted k n g s)
  rising_more rising = more (λ xs. rises xs ≡ true) (rises_fresh (next_number (s.books k)) g.fresh (numbers_of (s.books k).pools) (rising k) (omega arith)) rising

fewer : (s : State) (k : Key) (es : List Entry) (n : ℕ) → AreRising s → HasNoGaps s → numbers_of es ≡ numbers_of (s.books k).pools → IsDense (numbers_of (drop n es))
fewer s k es n rising dense same = subst IsDense (sym (numbers_drop es n ∙ ap (drop n) same)) (dense_drop (numbers_of (s.books k).pools) n (rising k) (dense k))

-- how many pools leave a key if these sets are freed, and its books then
abbrev front_of : List Item → State → Key → ℕ
front_of m s k = cond (list_any (λ t. key_eq t.key k) m) (spent_front (bucket_less (back m s) (s.books k))) 0

released_books : (m : List Item) (s : State) (k : Key) → (released m s).books k ≡ without_front (front_of m s k) (bucket_less (back m s) (s.books k))
released_books m s k = grind arith

gone : (m : List Item) (s : State) → AreRising s → HasNoGaps s → HasNoGaps (released m s)
gone m s rising dense k = grind (arith, common_steps, released_books, fewer, numbers_less)

pub none_freed : (m : List Item) (s : State) → Agree s → HasNoGaps s → HasNoGaps (released m s)
none_freed m s agree = gone m s agree.rising

-- whether the request was met, stopped, or changed nothing
pub none_requested : (c : Call) → Agree c.old → Allocates c → HasNoGaps c.old → HasNoGaps c.new
none_requested c agree (none a b stays) dense = subst HasNoGaps (sym stays.state) dense
none_requested c agree (above_limit a b d stays) dense = subst HasNoGaps (sym stays.state) dense
none_requested c agree (past_bound a b d e stays) dense = subst HasNoGaps (sym stays.state) dense
none_requested c agree (no_memory_at_start a b stays) dense = subst HasNoGaps (sym stays.state) dense
none_requested c agree (done goes is) dense = subst HasNoGaps (sym is.state) (dense_more c.key c.count is.grant c.old dense)
none_requested c agree (stopped goes is) dense = subst HasNoGaps (sym is.back.state) (gone _ (granted c.key c.count is.grant c.old) (rising_more c.key c.count is.grant c.old agree.rising) (dense_more c.key c.count is.grant c.old dense))

pub none_cleaned : (s t : State) → Agree s → LosesEmpty false s t → HasNoGaps s → HasNoGaps t
none_cleaned s t agree loses dense k = grind (arith, common_steps, pools_with, fewer)
