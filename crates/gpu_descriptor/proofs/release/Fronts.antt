-- The front of a bucket: what giving back does to it, and which places keep their pools when it goes.
-- For release.Parts, which takes the law of one key from it, and release.FrontPool. es are entries, keep is how many are to stay.
use Rattle.gpu_descriptor.proofs.Common.{◌≡◌, ℕ, suc, ◌+◌, ◌-◌, ◌≤◌, true, false, min, List, [], ◌∷◌, length, map, drop, inl, inr, refl, sym, ap, ◌∙◌, arith, drop-drop, prefix_len, cases_Bool, drop-map, Entry, Bucket, common_steps}
use Rattle.gpu_descriptor.proofs.Common.{bucket_but_front, entry_less, bucket_less, is_empty, spent_front, without_front}

-- how many pools go from the front of a list, if so many are to stay
abbrev pub trim : ℕ → List Entry → ℕ
trim keep es = min (prefix_len is_empty es) (length es - keep)

pub trim_yes : (keep : ℕ) (x : Entry) (es : List Entry) → keep ≤ length es → is_empty x ≡ true → trim keep (x ∷ es) ≡ suc (trim keep es)
trim_yes keep x es le h = rw h (omega arith)

pub trim_no : (keep : ℕ) (x : Entry) (es : List Entry) → is_empty x ≡ false → trim keep (x ∷ es) ≡ 0
trim_no keep x es h = rw h (omega arith)

pub trim_short : (keep : ℕ) (es : List Entry) → length es ≤ keep → trim keep es ≡ 0
trim_short keep es le = omega arith

-- a change that leaves empty pools empty
abbrev pub KeepsEmpty : (Entry → Entry) → Type 0
KeepsEmpty g = (e : Entry) → is_empty e ≡ true → is_empty (g e) ≡ true

-- The front after a change is the front before it, and then the front of what that leaves
pub trim-map : (g : Entry → Entry) → KeepsEmpty g → (es : List Entry) → trim 1 (map g es) ≡ trim 1 es + trim 1 (drop (trim 1 es) (map g es))
trim-map g keeps [] = refl
trim-map g keeps (x ∷ []) = (let one : trim 1 (x ∷ []) ≡ 0 = omega arith in rw one (omega arith))
trim-map g keeps (x ∷ y ∷ es) = elim (cases_Bool (is_empty x)) [
  | inl h ↦ rw (trim_yes 1 (g x) (map g (y ∷ es)) (let more : 1 ≤ length (map g (y ∷ es)) = omega arith in more) (keeps x h), trim_yes 1 x (y ∷ es) (let more : 1 ≤ length (y ∷ es) = omega arith in more) h) (omega (arith, trim-map g keeps (y ∷ es)))
  | inr h ↦ rw (trim_no 1 x (y ∷ es) h) (omega arith)
]

-- giving back in two parts, to an entry and to a bucket, also one of which the front goes
pub entry_less-less : (a c : ℕ) (e : Entry) → entry_less c (entry_less a e) ≡ entry_less (a + c) e
entry_less-less a c e = grind arith

pub less-less : (f g : ℕ → ℕ) (b : Bucket) → bucket_less g (bucket_less f b) ≡ bucket_less (λ p. f p + g p) b
less-less f g b = λ i. record b { pools = each b.pools i }
  where
    each : (es : List Entry) → map (λ e. entry_less (g e.pool) e) (map (λ e. entry_less (f e.pool) e) es) ≡ map (λ e. entry_less (f e.pool + g e.pool) e) es
    each [] = refl
    each (e ∷ es) = λ i. entry_less-less (f e.pool) (g e.pool) e i ∷ each es i

pub less-without : (g : ℕ → ℕ) (n : ℕ) (b : Bucket) → bucket_less g (without_front n b) ≡ without_front n (bucket_less g b)
less-without g n b = λ i. record b { pools = sym (drop-map (λ (e : Entry). entry_less (g e.pool) e) n b.pools) i }

pub without-without : (m n : ℕ) (b : Bucket) → without_front n (without_front m b) ≡ without_front (m + n) b
without-without m n b = grind (arith, drop-drop)

-- The front after a second subtraction is the front after the first, and then the front of what that leaves
pub spent_front-less : (g : ℕ → ℕ) (b : Bucket) → spent_front (bucket_less g b) ≡ spent_front b + spent_front (bucket_less g (bucket_but_front 1 b))
spent_front-less g b = grind (arith, drop-map, trim-map)

-- THE LAW FOR ONE KEY: two parts, the front gone after each, leave what both at once leave
pub one_key : (f g : ℕ → ℕ) (b : Bucket) → bucket_but_front 1 (bucket_less g (bucket_but_front 1 (bucket_less f b))) ≡ bucket_but_front 1 (bucket_less (λ p. f p + g p) b)
one_key f g b =
    let c = bucket_less f b in
    let d = bucket_less (λ p. f p + g p) b in
    let twice : bucket_less g c ≡ d = less-less f g b in
    let part : bucket_less g (bucket_but_front 1 c) ≡ without_front (spent_front c) d = less-without g (spent_front c) c ∙ ap (without_front (spent_front c)) twice in
    let sizes : spent_front d ≡ spent_front c + spent_front (bucket_less g (bucket_but_front 1 c)) = ap spent_front (sym twice) ∙ spent_front-less g c in
    grind (arith, common_steps, without-without)
