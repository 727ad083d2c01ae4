-- What the size of a new pool keeps: for `new_pool_sets` and `cut_pool_size`, and for the new pools of a request.
use Rattle.std.proofs.Common.{◌≡◌, ℕ, ◌*◌, ◌/◌, ◌^◌, ◌<◌, ◌≤◌, max, min, List, [], ◌∷◌, length, map, slice_index_or, inl, inr, refl, sym, ap, subst, ◌∙◌, arith}
use Rattle.std.specs.Prelude.{All, fold, if◌then◌else◌, nat_le}
use Rattle.std.proofs.Math.Nat.{max-eq_left, max-eq_right, mul-div-le, div-mul-le_self, mul-le-mul_left, mul-le-mul_right}
use Rattle.std.proofs.lemmas.Bool.{cases_lt}
use Rattle.std.proofs.lemmas.Nat.{le-div}
use Rattle.std.proofs.lemmas.List.{get_or-map, length-map}
use Rattle.gpu_descriptor_types.specs.Counts.{greatest}
use Rattle.gpu_descriptor_types.specs.PoolSize.{greatest_pool_size, IsLeastPower, IsPoolSize, IsRounded, pool_size_floor, sets_of_kind, start_size}
use Rattle.gpu_descriptor_types.proofs.Least.{fold_min-le, fold_min-le-first, le-fold_min, greatest-ge}
use Rattle.gpu_descriptor_types.proofs.Powers.{rounded_some, rounded_below, rounded_above}

-- so many sets keep the count of a kind within 32 bits
pub kind_fits : (count sets : ℕ) → sets ≤ sets_of_kind count → count * sets < 2 ^ 32
kind_fits count sets few =
    let wider : count * sets ≤ max 1 count * sets = mul-le-mul_right sets (omega arith) in
    let more : max 1 count * sets ≤ max 1 count * sets_of_kind count = mul-le-mul_left (max 1 count) few in
    let all : max 1 count * (4294967295 / max 1 count) ≤ 4294967295 = mul-div-le 4294967295 (max 1 count) in
    omega arith

-- a kind with fewer descriptors allows more sets
kind_allows : (a b : ℕ) → a ≤ b → sets_of_kind b ≤ sets_of_kind a
kind_allows a b le =
    let wider : sets_of_kind b * max 1 a ≤ sets_of_kind b * max 1 b = mul-le-mul_left (sets_of_kind b) (omega arith) in
    let all = div-mul-le_self 4294967295 (max 1 b) in
    le-div (sets_of_kind b) 4294967295 (max 1 a) (omega arith) (omega arith)

-- the greater of two counts allows what both allow
both_allow : (start a b : ℕ) → min (min start (sets_of_kind a)) (sets_of_kind b) ≡ min start (sets_of_kind (max a b))
both_allow start a b = elim (cases_lt a b) [
  | inl lt ↦ (let le : a ≤ b = omega arith in let fewer = kind_allows a b le in rw (max-eq_right le) (omega arith))
  | inr le ↦ (let fewer = kind_allows b a le in rw (max-eq_left le) (omega arith))
]

all_allow : (start kind : ℕ) (counts : List ℕ) → fold min (min start (sets_of_kind kind)) (map sets_of_kind counts) ≡ min start (sets_of_kind (fold max kind counts))
all_allow start kind [] = refl
all_allow start kind (x ∷ counts) = ap (λ n. fold min n (map sets_of_kind counts)) (both_allow start kind x) ∙ all_allow start (max kind x) counts

-- the least of the start and what each kind allows is that of the start and what the greatest count allows
pub greatest_allows : (start : ℕ) (counts : List ℕ) → start ≤ greatest_pool_size → min start (sets_of_kind (greatest counts)) ≡ fold min start (map sets_of_kind counts)
greatest_allows start counts small =
    let first : start ≡ min start (sets_of_kind 0) = omega arith in
    sym (ap (λ n. fold min n (map sets_of_kind counts)) first ∙ all_allow start 0 counts)

-- every count of a pool of the size fits
pub pool_size_fits : (counts : List ℕ) (total wanted sets : ℕ) → IsPoolSize counts total wanted sets → All (λ count. count * sets < 2 ^ 32) counts
pool_size_fits counts total wanted sets s = λ k d within.
    let below = fold_min-le s.start (map sets_of_kind counts) k 0 (simp length-map within) in
    let one = get_or-map sets_of_kind counts k d 0 within in
    let is = s.is_least in
    kind_fits (slice_index_or counts k d) sets (omega arith)

-- and if there are fewer sets
pub fewer_fit : (counts : List ℕ) (few many : ℕ) → few ≤ many → All (λ count. count * many < 2 ^ 32) counts → All (λ count. count * few < 2 ^ 32) counts
fewer_fit counts few many le fits = λ k d within.
    let all = fits k d within in
    let less = mul-le-mul_left (slice_index_or counts k d) le in
    omega arith

-- a new pool has at most so many sets
pub pool_size_small : (counts : List ℕ) (total wanted sets : ℕ) → IsPoolSize counts total wanted sets → sets ≤ greatest_pool_size
pool_size_small counts total wanted sets s =
    let start = rounded_some (start_size total wanted) s.start (omega arith) s.rounded in
    let below = fold_min-le-first s.start (map sets_of_kind counts) in
    let is = s.is_least in
    let small = start.1 in
    omega arith

-- it has fewer than twice what it is to hold
pub pool_size_below : (counts : List ℕ) (total wanted sets : ℕ) → IsPoolSize counts total wanted sets → sets < 2 * start_size total wanted
pool_size_below counts total wanted sets s =
    let start = rounded_below (start_size total wanted) s.start (omega arith) s.rounded in
    let below = fold_min-le-first s.start (map sets_of_kind counts) in
    let is = s.is_least in
    omega arith

-- ---- what it has at least

-- it has what is still needed, or as many as it may have in any case
pub pool_size_some : (counts : List ℕ) (total wanted sets : ℕ) → IsPoolSize counts total wanted sets → min wanted (pool_size_floor counts) ≤ sets
pool_size_some counts total wanted sets s =
    let m : ℕ = min wanted (pool_size_floor counts) in
    let start = rounded_above (start_size total wanted) s.start s.rounded in
    let is = s.is_least in
    let each : (k : ℕ) → k < length (map sets_of_kind counts) → m ≤ slice_index_or (map sets_of_kind counts) k m = λ k within.
    let long = length-map counts sets_of_kind in
    let one = get_or-map sets_of_kind counts k 0 m (omega arith) in
    let below = greatest-ge 0 counts k 0 (omega arith) in
    let allows = kind_allows (slice_index_or counts k 0) (greatest counts) below in
    omega arith in
    let le = le-fold_min m s.start (map sets_of_kind counts) (omega arith) each in
    omega arith

-- ---- there is one size

power_once : (start p q : ℕ) → IsLeastPower start p → IsLeastPower start q → p ≡ q
power_once start p q a b =
    let p_reaches : start ≤ 2 ^ a.exponent = subst (λ n. start ≤ n) a.is_power a.reaches in
    let q_reaches : start ≤ 2 ^ b.exponent = subst (λ n. start ≤ n) b.is_power b.reaches in
    let below : p ≤ q = subst (λ n. p ≤ n) (sym b.is_power) (a.least b.exponent q_reaches) in
    let above : q ≤ p = subst (λ n. q ≤ n) (sym a.is_power) (b.least a.exponent p_reaches) in
    omega arith

rounded_once : (start m n : ℕ) → IsRounded start m → IsRounded start n → m ≡ n
rounded_once start m n a b = a.fits ∙ ap (λ power. if nat_le power 4294967295 then power else 2147483647) (power_once start a.power b.power a.rounded b.rounded) ∙ sym b.fits

pub pool_size_once : (counts : List ℕ) (total wanted m n : ℕ) → IsPoolSize counts total wanted m → IsPoolSize counts total wanted n → m ≡ n
pool_size_once counts total wanted m n a b = a.is_least ∙ ap (λ start. fold min start (map sets_of_kind counts)) (rounded_once (start_size total wanted) a.start b.start a.rounded b.rounded) ∙ sym b.is_least
