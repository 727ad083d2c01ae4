-- Known free places are room on the device: so `ask` may call the device for sets (CanGive).
use Rattle.gpu_descriptor.proofs.Common.{common_steps, ◌≡◌, ℕ, zero, suc, ◌+◌, ◌*◌, ◌<◌, ◌≤◌, List, [], ◌∷◌, length, map, Bool, true, false, slice_index, refl, sym, ap, subst, arith, mul-le-mul_right, sum_by-cons, IsTrue, sum, sum_by, flags_of, Key, Entry, count_by_yes, set_exact}
use Rattle.gpu_descriptor.proofs.Common.{IsUpdateAfterBind, Ledger, CanGive, LiveSet, set_eq, times, pool_counts, IsBookedIn}
use Rattle.gpu_descriptor.proofs.lists.AtPlaces.{count_by_more}
use Rattle.gpu_descriptor.proofs.sums.Sized.{listed}

abbrev pub key_with : List ℕ → Bool → Key
key_with counts mark = record { counts = counts; marked = mark }

-- sets of one list of counts add up to a product
sum_alike : (counts : List ℕ) (j : ℕ) (sets : List LiveSet) → ((x : LiveSet) → 0 < times sets x → x.counts ≡ counts) → sum_by (λ s. slice_index s.counts j) sets ≡ length sets * slice_index counts j
sum_alike counts j [] h = omega arith
sum_alike counts j (s ∷ sets) h =
    let own : times (s ∷ sets) s ≡ suc (times sets s) = count_by_yes (λ y. set_eq y s) s sets (set_exact.self s) in
    let here : s.counts ≡ counts = h s (omega arith) in
    let one : slice_index s.counts j ≡ slice_index counts j = ap (λ (c : List ℕ). slice_index c j) here in
    let more : sum_by (λ s. slice_index s.counts j) (s ∷ sets) ≡ slice_index s.counts j + sum_by (λ s. slice_index s.counts j) sets = sum_by-cons (λ (s : LiveSet). slice_index s.counts j) s sets in
    let rest : sum_by (λ s. slice_index s.counts j) sets ≡ length sets * slice_index counts j = sum_alike counts j sets (λ x lt. h x (let bound = count_by_more (λ y. set_eq y x) s sets in omega arith)) in
    omega arith

index_le_sum : (j : ℕ) (xs : List ℕ) → slice_index xs j ≤ sum xs
index_le_sum j [] = omega arith
index_le_sum zero (x ∷ xs) = (let e = sum_by-cons (λ (n : ℕ). n) x xs in omega arith)
index_le_sum (suc j) (x ∷ xs) = (let e = sum_by-cons (λ (n : ℕ). n) x xs in let rest = index_le_sum j xs in omega arith)

scaled : (c j : ℕ) (xs : List ℕ) → slice_index (map (λ n. n * c) xs) j ≡ slice_index xs j * c
scaled c j [] = omega arith
scaled c zero (x ∷ xs) = refl
scaled c (suc j) (x ∷ xs) = scaled c j xs

-- a pool of c sets has the counts of c sets
pub wide : (k : Key) (c j : ℕ) → slice_index k.counts j * c ≤ slice_index (pool_counts k.counts c) j
wide k c j = grind (arith, common_steps, index_le_sum, scaled)

pub marked_flags : (counts : List ℕ) (mark : Bool) → IsTrue mark → IsUpdateAfterBind (flags_of (key_with counts mark))
marked_flags counts true h = refl
marked_flags counts false h = absurd (cc)

pub can_give : (counts : List ℕ) (mark : Bool) (e : Entry) (n : ℕ) (l : Ledger) → IsBookedIn (key_with counts mark) l.pools e → n ≤ e.available → CanGive e.pool n counts mark l
can_give counts mark e n l b few =
    record {
      pool = b.0;
      is_live = b.1;
      marked = λ h. subst (λ (f : ℕ). IsUpdateAfterBind f) (sym b.2.flags) (marked_flags counts mark h);
      places = λ sets spelled. (let long = listed (key_with counts mark) b.0 e b.2 sets spelled in let fits = b.2.fits in omega arith);
      each_kind = λ sets spelled j.
          let long = listed (key_with counts mark) b.0 e b.2 sets spelled in
          let all : sum_by (λ s. slice_index s.counts j) sets ≡ length sets * slice_index counts j = sum_alike counts j sets (λ x lt. b.2.sets x (let is = spelled x in omega arith)) in
          let product : (length sets + n) * slice_index counts j ≤ b.0.capacity * slice_index counts j = mul-le-mul_right (slice_index counts j) (let fits = b.2.fits in omega arith) in
          let has = wide (key_with counts mark) b.0.capacity j in
          let same : slice_index b.0.counts j ≡ slice_index (pool_counts counts b.0.capacity) j = ap (λ (c : List ℕ). slice_index c j) b.2.counts in
          omega arith;
    }
