-- Giving back in two parts is giving back at once.
-- For `laws::release_parts`, and for `free_from`, which frees run by run. The parts are m and n; first and second say whether they
-- name a key, f and g how many sets they free in a pool. `quiet`: a part that doesn't name the key gives its pools nothing.
use Rattle.gpu_descriptor.proofs.Common.{common_steps, ◌≡◌, ℕ, suc, ◌+◌, ◌<◌, Bool, true, false, ◌&&◌, ◌||◌, ◌==◌, List, [], ◌∷◌, ◌++◌, map, take, drop, slice_get, Option, Some, None, option_map, refl, sym, ap, ◌∙◌, arith, take-add, if◌then◌else◌, fun_ext, list_any, true≢false}
use Rattle.gpu_descriptor.proofs.Common.{false_from_ne_true, take-map, set_of, State, Item, item_eq, count_of, AreOutstanding, Agree, Key, key_eq, Entry, Bucket, Pool, LiveSet, set_eq, count_by-append, count_by_alike, count_by_none, any_from, list_any-append, bucket_but_front, lies_in}
use Rattle.gpu_descriptor.proofs.Common.{entry_less, bucket_less, pool_less, spent_front, without_front, are_named, released}
use Rattle.gpu_descriptor.proofs.lists.Numbers.{entry_at-found}
use Rattle.gpu_descriptor.proofs.release.Fronts.{less-less, less-without, one_key, spent_front-less}
use Rattle.gpu_descriptor.proofs.table.Exact.{key_exact, item_exact}
use Rattle.gpu_descriptor.proofs.release.Given.{any_key, goes, kept, key_any, names_key}
use Rattle.gpu_descriptor.proofs.release.Places.{back, back_named, lies_in-at, lies_in-found}

-- the key's spent front goes if the key is named
abbrev pub trimmed_if : Bool → Bucket → Bucket
trimmed_if named b = if named then without_front (spent_front b) b else b

-- ONE KEY, named by either part or by both. A part that doesn't name it takes nothing from its pools
books_law : (first second : Bool) (f g : ℕ → ℕ) (b : Bucket) → (second ≡ false → bucket_less (λ p. f p + g p) b ≡ bucket_less f b) → trimmed_if second (bucket_less g (trimmed_if first (bucket_less f b))) ≡ trimmed_if (first || second) (bucket_less (λ p. f p + g p) b)
books_law true true f g b quiet = one_key f g b
books_law true false f g b quiet =
    let c = bucket_less f b in
    let d = bucket_less (λ p. f p + g p) b in
    less-without g (spent_front c) c ∙ ap (without_front (spent_front c)) (less-less f g b) ∙ ap (λ (x : Bucket). without_front (spent_front x) d) (sym (quiet refl))
books_law false true f g b quiet = ap (bucket_but_front 1) (less-less f g b)
books_law false false f g b quiet = less-less f g b

-- giving back leaves the names of a bucket's pools, and so those of its front
same_names : (g : ℕ → ℕ) (pool : ℕ) (es : List Entry) → list_any (λ e. e.pool == pool) (map (λ e. entry_less (g e.pool) e) es) ≡ list_any (λ e. e.pool == pool) es
same_names g pool [] = refl
same_names g pool (e ∷ es) = ap (λ (b : Bool). (e.pool == pool) || b) (same_names g pool es)

front-less : (g : ℕ → ℕ) (n : ℕ) (b : Bucket) (pool : ℕ) → are_named (take n (bucket_less g b).pools) pool ≡ are_named (take n b.pools) pool
front-less g n b pool = ap (list_any (λ e. e.pool == pool)) (take-map (λ (e : Entry). entry_less (g e.pool) e) n b.pools) ∙ same_names g pool (take n b.pools)

front-add : (m n : ℕ) (b : Bucket) (pool : ℕ) → are_named (take (m + n) b.pools) pool ≡ (are_named (take m b.pools) pool || are_named (take n (drop m b.pools)) pool)
front-add m n b pool = ap (list_any (λ e. e.pool == pool)) (take-add m n b.pools) ∙ list_any-append (λ e. e.pool == pool) (take m b.pools) (take n (drop m b.pools))

pub or-false : (a : Bool) → a ≡ (a || false)
or-false true = refl
or-false false = refl

-- what goes at once goes with the first part or with the second
goes_law : (first second : Bool) (f g : ℕ → ℕ) (b : Bucket) (pool : ℕ) → (second ≡ false → bucket_less (λ p. f p + g p) b ≡ bucket_less f b)
    → ((first || second) && goes (bucket_less (λ p. f p + g p) b) pool) ≡ ((first && goes (bucket_less f b) pool) || (second && goes (bucket_less g (trimmed_if first (bucket_less f b))) pool))
goes_law true true f g b pool quiet =
    let c = bucket_less f b in
    let d = bucket_less (λ p. f p + g p) b in
    let twice : bucket_less g c ≡ d = less-less f g b in
    let sizes : spent_front d ≡ spent_front c + spent_front (bucket_less g (bucket_but_front 1 c)) = ap spent_front (sym twice) ∙ spent_front-less g c in
    let rest : without_front (spent_front c) d ≡ bucket_less g (bucket_but_front 1 c) = ap (without_front (spent_front c)) (sym twice) ∙ sym (less-without g (spent_front c) c) in
    ap (λ (n : ℕ). are_named (take n d.pools) pool) sizes
    ∙ front-add (spent_front c) (spent_front (bucket_less g (bucket_but_front 1 c))) d pool
    ∙ ap (λ (x : Bool). x || are_named (take (spent_front (bucket_less g (bucket_but_front 1 c))) (drop (spent_front c) d.pools)) pool)
    (ap (λ (x : Bucket). are_named (take (spent_front c) x.pools) pool) (sym twice) ∙ front-less g (spent_front c) c pool)
    ∙ ap (λ (x : Bucket). goes c pool || are_named (take (spent_front (bucket_less g (bucket_but_front 1 c))) x.pools) pool) rest
goes_law true false f g b pool quiet = ap (λ (x : Bucket). goes x pool) (quiet refl) ∙ or-false (goes (bucket_less f b) pool)
goes_law false true f g b pool quiet = ap (λ (x : Bucket). goes x pool) (sym (less-less f g b))
goes_law false false f g b pool quiet = refl

-- a test of the keys that one part or the other names, over the two lists together
any_law : (a b c : Key → Bool) (m n : List Item) → ((k : Key) → ((names_key m k || names_key n k) && a k) ≡ ((names_key m k && b k) || (names_key n k && c k))) → list_any (λ t. a t.key) (m ++ n) ≡ (list_any (λ t. b t.key) m || list_any (λ t. c t.key) n)
any_law a b c m n h = grind (arith, any_key, key_any, list_any-append)

-- THE LEDGER AT ONE POOL
ledger_law : (first second : Bool) (f g : LiveSet → ℕ) (o : Option Pool) → (if second then None else option_map (pool_less g) (if first then None else option_map (pool_less f) o)) ≡ (if first || second then None else option_map (pool_less (λ name. f name + g name)) o)
ledger_law true true f g o = refl
ledger_law true false f g o = refl
ledger_law false true f g o = refl
ledger_law false false f g None = refl
ledger_law false false f g (Some p) = grind arith

each_alike : (f g : Entry → Entry) (es : List Entry) → ((i : ℕ) (e : Entry) → slice_get es i ≡ Some e → f e ≡ g e) → map f es ≡ map g es
each_alike f g [] h = refl
each_alike f g (e ∷ es) h = λ i. h 0 e refl i ∷ each_alike f g es (λ j. h (suc j)) i

-- a list that doesn't name a key takes nothing from the key's pools
pub untouched : (n : List Item) (s : State) → Agree s → (k : Key) → names_key n k ≡ false → (i : ℕ) (e : Entry) → slice_get (s.books k).pools i ≡ Some e → back n s e.pool ≡ 0
untouched n s agree k none i e at = count_by_none item_exact (lies_in s.books e.pool) n (λ t in_n. false_from_ne_true (lies_in s.books e.pool t) (λ lies.
    let found = lies_in-found s.books e.pool t lies in
    let there = entry_at-found (s.books t.key) t.number found.0 found.1 in
    let same = agree.distinct t.key k there.0 i found.0 e there.1 at found.2 in
    let named : names_key n k ≡ true = any_from item_exact (λ u. key_eq u.key k) n t in_n (rw same.0 (key_exact.self k)) in
    true≢false (sym named ∙ none)))

-- so its bucket is as the first part left it
pub quiet_key : (m n : List Item) (s : State) → Agree s → (k : Key) → names_key n k ≡ false → bucket_less (λ p. back m s p + back n s p) (s.books k) ≡ bucket_less (back m s) (s.books k)
quiet_key m n s agree k none = grind (arith, common_steps, back, each_alike, untouched)

-- a set of the second part lies in the pool in which it lay
still_lies : (m n : List Item) (s : State) → Agree s → AreOutstanding (m ++ n) s → (pool : ℕ) (t : Item) → 0 < count_of t n → lies_in (released m s).books pool t ≡ lies_in s.books pool t
still_lies m n s agree out pool t in_n =
    let split : (t : Item) → count_of t (m ++ n) ≡ count_of t m + count_of t n = λ t. count_by-append (λ x. item_eq x t) m n in
    let out_m : AreOutstanding m s = λ t. let a = split t in let b = out t in omega arith in
    let a = split t in
    let b = out t in
    let keeps = kept m s agree out_m t (omega arith) in
    lies_in-at (released m s).books pool t (entry_less (back m s keeps.0.pool) keeps.0) keeps.2 ∙ sym (lies_in-at s.books pool t keeps.0 keeps.1)

-- so as many of its sets go back to each pool
pub back_still : (m n : List Item) (s : State) → Agree s → AreOutstanding (m ++ n) s → back n (released m s) ≡ back n s
back_still m n s agree out = fun_ext (λ pool. count_by_alike item_exact (lies_in (released m s).books pool) (lies_in s.books pool) n (still_lies m n s agree out pool))

-- THE LAW: one part and then the other leave what both at once leave
pub parts : (m n : List Item) (s : State) → Agree s → AreOutstanding (m ++ n) s → released n (released m s) ≡ released (m ++ n) s
parts m n s agree out =
    let u = released m s in
    let lies : (pool : ℕ) (t : Item) → 0 < count_of t n → lies_in u.books pool t ≡ lies_in s.books pool t = λ pool t in_n. still_lies m n s agree out pool t in_n in
    let counts : back n u ≡ back n s = back_still m n s agree out in
    let named : (pool : ℕ) → back_named n u pool ≡ back_named n s pool = λ pool. fun_ext (λ name.
    count_by_alike item_exact (λ t. lies_in u.books pool t && (set_eq (set_of t) name)) (λ t. lies_in s.books pool t && (set_eq (set_of t) name)) n (λ t in_n. ap (λ (x : Bool). x && (set_eq (set_of t) name)) (lies pool t in_n))) in
    let sums : back (m ++ n) s ≡ (λ pool. back m s pool + back n s pool) = fun_ext (λ pool. count_by-append (lies_in s.books pool) m n) in
    let named_sums : (pool : ℕ) → back_named (m ++ n) s pool ≡ (λ name. back_named m s pool name + back_named n s pool name) = λ pool. fun_ext (λ name. count_by-append (λ t. lies_in s.books pool t && (set_eq (set_of t) name)) m n) in
    let keys : (k : Key) → names_key (m ++ n) k ≡ (names_key m k || names_key n k) = λ k. list_any-append (λ t. key_eq t.key k) m n in
    let books : (released n u).books ≡ (released (m ++ n) s).books = fun_ext (λ k.
    ap (λ (f : ℕ → ℕ). trimmed_if (names_key n k) (bucket_less f (u.books k))) counts
    ∙ books_law (names_key m k) (names_key n k) (back m s) (back n s) (s.books k) (quiet_key m n s agree k)
    ∙ ap (λ (f : ℕ → ℕ). trimmed_if (names_key m k || names_key n k) (bucket_less f (s.books k))) (sym sums)
    ∙ ap (λ (x : Bool). trimmed_if x (bucket_less (back (m ++ n) s) (s.books k))) (sym (keys k))) in
    let ledger : (released n u).ledger ≡ (released (m ++ n) s).ledger = fun_ext (λ pool.
    let gone_m : Bool = list_any (λ t. goes (bucket_less (back m s) (s.books t.key)) pool) m in
    let gone_n : Bool = list_any (λ t. goes (bucket_less (back n u) (u.books t.key)) pool) n in
    let gone : list_any (λ t. goes (bucket_less (back (m ++ n) s) (s.books t.key)) pool) (m ++ n) ≡ (gone_m || gone_n) =
    ap (λ (f : ℕ → ℕ). list_any (λ (t : Item). goes (bucket_less f (s.books t.key)) pool) (m ++ n)) sums
    ∙ any_law (λ k. goes (bucket_less (λ p. back m s p + back n s p) (s.books k)) pool) (λ k. goes (bucket_less (back m s) (s.books k)) pool) (λ k. goes (bucket_less (back n s) (u.books k)) pool) m n
    (λ k. goes_law (names_key m k) (names_key n k) (back m s) (back n s) (s.books k) pool (quiet_key m n s agree k))
    ∙ ap (λ (f : ℕ → ℕ). gone_m || list_any (λ (t : Item). goes (bucket_less f (u.books t.key)) pool) n) (sym counts) in
    ap (λ (f : LiveSet → ℕ). (if gone_n then None else option_map (pool_less f) (if gone_m then None else option_map (pool_less (back_named m s pool)) (s.ledger pool)))) (named pool)
    ∙ ledger_law gone_m gone_n (back_named m s pool) (back_named n s pool) (s.ledger pool)
    ∙ ap (λ (f : LiveSet → ℕ). if gone_m || gone_n then None else option_map (pool_less f) (s.ledger pool)) (sym (named_sums pool))
    ∙ ap (λ (x : Bool). if x then None else option_map (pool_less (back_named (m ++ n) s pool)) (s.ledger pool)) (sym gone)) in
    λ i. record { books = books i; ledger = ledger i }
