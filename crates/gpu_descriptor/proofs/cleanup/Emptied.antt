-- Empty pools go: what stays of books and ledger.
-- For cleanup and trim (cleanup.Cleaning), and for the fronts that go when sets are freed (release.Given). t is what is left of s.
use Rattle.std.proofs.lemmas.Grind.{common_steps}
use Rattle.gpu_descriptor.proofs.Common.{if◌then◌else◌, ◌≡◌, ℕ, ◌==◌, ◌<◌, true, false, List, slice_get, Some, None, inl, inr, refl, sym, ap, ◌∙◌, arith, ne_eqb, cases_eq, false_from_ne_true, set_of, Item, State, Pool, live_in, outstanding, Agree, live_at, Key, Entry, entry_at, are_named, is_empty}
use Rattle.gpu_descriptor.proofs.Common.{rises, numbers_of, none-some, true≢false, IsForeign, KeepsForeign}
use Rattle.gpu_descriptor.proofs.cleanup.Splitting.{Split, apart, gone_at, is_named_at, left_at, left_or_gone, left_rises, named_at, one_place}
use Rattle.gpu_descriptor.proofs.lists.AtPlaces.{cases_option, if_none}
use Rattle.gpu_descriptor.proofs.lists.Numbers.{entry_at-found, entry_at-named}
use Rattle.gpu_descriptor.proofs.release.Places.{live_there_at, outstanding_found, size_pos}
use Rattle.gpu_descriptor.proofs.request.StateAgrees.{booked_at}

-- of each key some pools are left; the others were empty, and the ledger has them no longer
pub record Empties (s t : State) : Type 0 where
  pub left : Key → List Entry
  pub gone : Key → List Entry
  pub split : (k : Key) → Split (s.books k).pools (left k) (gone k)
  pub pools : (k : Key) → (t.books k).pools ≡ left k
  pub id : (k : Key) (i : ℕ) (e : Entry) → slice_get (left k) i ≡ Some e → (t.books k).id ≡ (s.books k).id
  pub lost : (k : Key) (pool : ℕ) → are_named (gone k) pool ≡ true → t.ledger pool ≡ None
  pub kept : (pool : ℕ) → ((k : Key) → are_named (gone k) pool ≡ false) → t.ledger pool ≡ s.ledger pool

module _ {s t : State} (x : Empties s t) where
  -- what stands at a place afterwards stood at one before
  was_kept : (k : Key) (i : ℕ) (e : Entry) → slice_get (t.books k).pools i ≡ Some e → (j : ℕ) × (slice_get (s.books k).pools j ≡ Some e) × (slice_get (x.left k) i ≡ Some e)
  was_kept k i e at = grind (arith, common_steps, left_at)

  module _ (agree : Agree s) where
    left_rise : (k : Key) → rises (numbers_of (x.left k)) ≡ true
    left_rise k = left_rises (s.books k).pools (x.left k) (x.gone k) (x.split k) (agree.rising k)

    -- a pool with sets keeps its number
    pub still_there : (k : Key) (n : ℕ) (e : Entry) → entry_at (s.books k) n ≡ Some e → is_empty e ≡ false → entry_at (t.books k) n ≡ Some e
    still_there k n e at full = grind (arith, common_steps, entry_at-found, entry_at-named, gone_at, left_or_gone, left_rise, true≢false)

    -- the ledger keeps a pool that the books keep
    stays : (k : Key) (i : ℕ) (e : Entry) → slice_get (t.books k).pools i ≡ Some e → t.ledger e.pool ≡ s.ledger e.pool
    stays k i e h = grind (arith, common_steps, apart, false_from_ne_true, gone_at, named_at, was_kept)

    -- books and ledger agree afterwards, and the same sets are outstanding (`emptied_outstanding`)
    pub emptied_agree : Agree t
    emptied_agree = grind (arith, common_steps, left_rise, one_place, stays, was_kept)

    pub emptied_outstanding : (i : Item) → outstanding t i ≡ outstanding s i
    emptied_outstanding i = elim (cases_option (entry_at (t.books i.key) i.number)) [
      | inr some ↦ (
          let e = some.0 in
          let stands = entry_at-found (t.books i.key) i.number e some.1 in
          let was = was_kept i.key stands.0 e stands.1 in
          let before : entry_at (s.books i.key) i.number ≡ Some e = entry_at-named (s.books i.key) was.0 i.number e (agree.rising i.key) was.1 stands.2 in
          let booked = booked_at s agree i.key i.number e before in
          let ledger : t.ledger e.pool ≡ Some booked.0 = stays i.key stands.0 e stands.1 ∙ booked.1 in
          let ids = x.id i.key stands.0 e was.2 in
          let live : live_at t.ledger (t.books i.key) i ≡ live_at s.ledger (s.books i.key) i = live_there_at t i e booked.0 some.1 ledger ∙ sym (live_there_at s i e booked.0 before booked.1) in
          λ j. if ids j == i.id then live j else 0)
      | inl missing ↦ (
          let empty : live_at t.ledger (t.books i.key) i ≡ 0 = rw missing refl in
          let nothing : outstanding t i ≡ 0 = ap (λ (n : ℕ). if (t.books i.key).id == i.id then n else 0) empty ∙ if_none ((t.books i.key).id == i.id) in
          nothing ∙ elim (cases_eq 0 (outstanding s i)) [
            | inl same ↦ same
            | inr other ↦ (
                let here = outstanding_found s i 0 (omega arith) in
                let e = here.0 in
                let booked = booked_at s agree i.key i.number e here.1 in
                let live : live_in s.ledger e.pool (set_of i) ≡ booked.0.live (set_of i) = rw booked.1 refl in
                let above = here.2 in
                let some : 0 < e.allocated = size_pos booked.0.live e.allocated (set_of i) booked.2.allocated (omega arith) in
                let there = still_there i.key i.number e here.1 (ne_eqb e.allocated 0 (λ bad. omega arith)) in
                absurd (none-some e (sym missing ∙ there)))
          ])
    ]

  -- ---- pools of others

  outside_gone : (name : ℕ) → IsForeign s name → (k : Key) → are_named (x.gone k) name ≡ false
  outside_gone name foreign k = grind (arith, common_steps, false_from_ne_true, gone_at, named_at)

  pub emptied_foreign : KeepsForeign s t
  emptied_foreign name pool foreign live = grind (arith, common_steps, outside_gone, was_kept)

  -- a live pool that is foreign afterwards was so before
  was_foreign : (name : ℕ) (pool : Pool) → IsForeign t name → t.ledger name ≡ Some pool → IsForeign s name
  was_foreign name pool foreign live k n e at same = elim (left_or_gone (s.books k).pools (x.left k) (x.gone k) (x.split k) n e at) [
    | inl l ↦ foreign k l.0 e (ap (λ ds. slice_get ds l.0) (x.pools k) ∙ l.1) same
    | inr g ↦ (let gone = x.lost k e.pool (is_named_at (x.gone k) g.0 e g.1) in none-some pool (sym gone ∙ ap t.ledger same ∙ live))
  ]

  pub emptied_loses : KeepsForeign t s
  emptied_loses name pool foreign live = (let was = was_foreign name pool foreign live in (sym (x.kept name (outside_gone name was)) ∙ live, was))
