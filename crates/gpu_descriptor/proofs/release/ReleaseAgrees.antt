-- What giving back keeps: agreement, and what is outstanding but for the sets given; and that neither order nor parts matter.
-- The laws of `released`, for `laws::release_parts` and for whatever frees. The items m, and then n, go back to the state s.
use Rattle.std.specs.Prelude.{fold}
use Rattle.gpu_descriptor.proofs.Common.{◌≡◌, ℕ, ◌+◌, ◌<◌, ◌≤◌, Bool, ltb, ◌&&◌, List, [], ◌∷◌, ◌++◌, flat_map, map, count_by, Option, Some, None, option_map, refl, sym, ap, ◌∙◌, arith, fun_ext}
use Rattle.gpu_descriptor.proofs.Common.{list_any, set_of, State, Item, count_of, outstanding, AreOutstanding, IsAsBooked, Agree, Entry, entry_at, Pool, set_eq, counts_alike, count_by-append, list_any-count_by, common_steps}
use Rattle.gpu_descriptor.proofs.Common.{lies_in, entry_less, bucket_less, pool_less, given_back, released}
use Rattle.gpu_descriptor.proofs.request.StateAgrees.{booked_at}
use Rattle.gpu_descriptor.proofs.table.Exact.{item_exact}
use Rattle.gpu_descriptor.proofs.cleanup.Emptied.{emptied_agree, emptied_outstanding}
use Rattle.gpu_descriptor.proofs.release.Given.{emptied_front, given_agree, given_out}
use Rattle.gpu_descriptor.proofs.release.Places.{outstanding_found, back, back_named, part_fits, size_less}
use Rattle.gpu_descriptor.proofs.release.Parts.{parts}
use Rattle.gpu_descriptor.proofs.release.FreedOne.{freed_one}
use Rattle.gpu_descriptor.specs.Model.OneByOne.{freed_each}

-- books and ledger agree afterwards, and a set is outstanding as often less as it went back (`takes`)
pub agrees : (m : List Item) (s : State) → Agree s → AreOutstanding m s → Agree (released m s)
agrees m s agree out = emptied_agree (emptied_front m (given_back m s)) (given_agree m s agree out)

pub takes : (m : List Item) (s : State) → Agree s → AreOutstanding m s → (t : Item) → outstanding (released m s) t + count_of t m ≡ outstanding s t
takes m s agree out t = ap (λ (n : ℕ). n + count_of t m) (emptied_outstanding (emptied_front m (given_back m s)) (given_agree m s agree out) t) ∙ given_out m s agree out t

-- lists that have each set equally often leave the same state
pub order : (m n : List Item) (s : State) → ((t : Item) → count_of t m ≡ count_of t n) → released m s ≡ released n s
order m n s alike =
    let counts : (p : Item → Bool) → count_by p m ≡ count_by p n = counts_alike item_exact m n alike in
    let any : (p : Item → Bool) → list_any p m ≡ list_any p n = λ p. list_any-count_by p m ∙ ap (ltb 0) (counts p) ∙ sym (list_any-count_by p n) in
    let backs : back m s ≡ back n s = fun_ext (λ pool. counts (lies_in s.books pool)) in
    let named : (pool : ℕ) → back_named m s pool ≡ back_named n s pool = λ pool. fun_ext (λ name. counts (λ t. lies_in s.books pool t && (set_eq (set_of t) name))) in
    let given : given_back m s ≡ given_back n s = λ i. record {
      books = λ k. bucket_less (backs i) (s.books k);
      ledger = λ pool. option_map (pool_less (named pool i)) (s.ledger pool);
    } in
    grind arith

pub none_back : (s : State) → released [] s ≡ s
none_back s =
    let same : (e : Entry) → entry_less 0 e ≡ e = λ e.
    grind arith in
    let books : (released [] s).books ≡ s.books = fun_ext (λ k. λ i. record (s.books k) { pools = map_same (λ e. entry_less 0 e) same (s.books k).pools i }) in
    grind (arith, common_steps, fun_ext)
  where
    map_same : (f : Entry → Entry) → ((e : Entry) → f e ≡ e) → (es : List Entry) → map f es ≡ es
    map_same f h [] = refl
    map_same f h (e ∷ es) = λ i. h e i ∷ map_same f h es i

    pool_same : (o : Option Pool) → option_map (pool_less (λ name. 0)) o ≡ o
    pool_same None = refl
    pool_same (Some p) = grind (arith, common_steps, fun_ext)

-- what a later part needs still lies where it lay
pub rest_outstanding : (m n : List Item) (s : State) → Agree s → AreOutstanding (m ++ n) s → AreOutstanding m s × AreOutstanding n (released m s)
rest_outstanding m n s agree out = grind (arith, count_by-append, takes)

-- lists that are freed one after another leave what all of them leave at once
pub each : (ms : List (List Item)) (s : State) → Agree s → AreOutstanding (flat_map (λ m. m) ms) s → fold (λ t m. released m t) s ms ≡ released (flat_map (λ m. m) ms) s
each [] s agree out = sym (none_back s)
each (m ∷ ms) s agree out =
    let rest = flat_map (λ (n : List Item). n) ms in
    let parted = rest_outstanding m rest s agree out in
    each ms (released m s) (agrees m s agree parted.0) parted.1 ∙ parts m rest s agree out

-- freeing the sets one by one, in any order, leaves what freeing all at once leaves
freed_all : (m : List Item) (s : State) → Agree s → AreOutstanding m s → freed_each m s ≡ released m s
freed_all [] s agree out = sym (none_back s)
freed_all (t ∷ m) s agree out =
    let parted = rest_outstanding (t ∷ []) m s agree out in
    ap (freed_each m) (freed_one t s) ∙ freed_all m (released (t ∷ []) s) (agrees (t ∷ []) s agree parted.0) parted.1 ∙ parts (t ∷ []) m s agree out

pub one_by_one : (m order : List Item) (s : State) → Agree s → AreOutstanding m s → ((t : Item) → count_of t order ≡ count_of t m) → freed_each order s ≡ released m s
one_by_one m turned s agree out alike = freed_all turned s agree (λ t. (let a = alike t in let b = out t in omega arith)) ∙ order turned m s alike

-- a set that goes back has a place, and its pool has as many sets as go back to it
pub has_place : (m : List Item) (s : State) → Agree s → AreOutstanding m s → (t : Item) → 0 < count_of t m → (e : Entry) × (entry_at (s.books t.key) t.number ≡ Some e) × (pool : Pool) × (s.ledger e.pool ≡ Some pool) × IsAsBooked t.key pool e × (back m s e.pool ≤ e.allocated)
has_place m s agree out t in_m =
    let fits = out t in
    let found = outstanding_found s t 0 (omega arith) in
    let e = found.0 in
    let booked = booked_at s agree t.key t.number e found.1 in
    let left = size_less booked.0.live e.allocated (lies_in s.books e.pool) m booked.2.allocated (part_fits m s agree out t.key t.number e booked.0 found.1 booked.1) in
    (e, found.1, booked.0, booked.1, booked.2, left.0)
