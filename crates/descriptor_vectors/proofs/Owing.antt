-- How the calls that are owed change with the ledger, call by call: for the calls of `LogDevice`, which has reserved memory for so many. A *row* is the name of a live pool, with the number of its live sets (`IsOwed`); `l` and `m` are the ledger before and after, `n` and `k` what is owed then.
use Rattle.std.proofs.Common.{◌≡◌, ◌≢◌, ◌<◌, ℕ, zero, suc, ◌+◌, ◌-◌, ◌≤◌, true, false, cond, nat_eq, List, [], ◌∷◌, ◌++◌, length, length-append, Option, Some, None, inl, inr, refl, sym, ap, subst, ◌∙◌, arith, eqb-true, eq-eqb, ne_eqb}
use Rattle.std.specs.Prelude.{IfSome}
use Rattle.std.specs.Map.{lookup, update}
use Rattle.std.proofs.lemmas.Bool.{cases_Bool, cases_eq}
use Rattle.std.proofs.lemmas.List.{length-map}
use Rattle.std.proofs.lemmas.Map.{update_here, update_apart}
use Rattle.std.proofs.lemmas.Option.{none-some}
use Rattle.std.specs.Option.{option_map}
use Rattle.gpu_descriptor_types.specs.Ledger.{Ledger, Pool, HasNoSets, on_pool, fresh, AreLive, Releases, after_create, after_destroy, after_alloc, after_release}
use Rattle.gpu_descriptor_types.specs.Multiset.{AreIn, HasSize, LiveSet, times}
use Rattle.gpu_descriptor_types.proofs.Counting.{times-append}
use Rattle.gpu_descriptor.proofs.foreign.LedgerPools.{size_minus}
use Rattle.gpu_descriptor.proofs.sums.Sized.{size_one}
use Rattle.descriptor_vectors.specs.Logged.{release_of}
use Rattle.descriptor_vectors.specs.Owed.{IsOwed, owed_by}
use Rattle.descriptor_vectors.specs.declared.log.Call.{Call}
use Rattle.descriptor_vectors.specs.declared.log.Call.TheVariants.{Release}

-- the rows but for those of a name
abbrev without : ℕ → List (ℕ × ℕ) → List (ℕ × ℕ)
without name [] = []
without name (row ∷ rows) = cond (nat_eq name row.0) (without name rows) (row ∷ without name rows)

-- fewer rows owe no more
without_few : (name : ℕ) (rows : List (ℕ × ℕ)) → owed_by (without name rows) ≤ owed_by rows
without_few name [] = omega arith
without_few name (row ∷ rows) = (let few = without_few name rows in elim (cases_Bool (nat_eq name row.0)) [
  | inl own ↦ rw own (omega arith)
  | inr other ↦ rw other (omega arith)
])

-- a name that is there has a row of its own
without_own : (name size : ℕ) (rows : List (ℕ × ℕ)) → lookup (nat_eq name) rows ≡ Some size → owed_by (without name rows) + size + 1 ≤ owed_by rows
without_own name size [] at = absurd (none-some size at)
without_own name size (row ∷ rows) at = elim (cases_Bool (nat_eq name row.0)) [
  | inl own ↦ (
      let here : lookup (nat_eq name) (row ∷ rows) ≡ Some row.1 = rw own refl in
      let same : row.1 ≡ size = (let h : Some row.1 ≡ Some size = sym here ∙ at in cc) in
      let few = without_few name rows in
      rw own (omega arith))
  | inr other ↦ (
      let there : lookup (nat_eq name) (row ∷ rows) ≡ lookup (nat_eq name) rows = rw other refl in
      let rest = without_own name size rows (sym there ∙ at) in
      rw other (omega arith))
]

-- the other names keep theirs
without_other : (name q : ℕ) → q ≢ name → (rows : List (ℕ × ℕ)) → lookup (nat_eq q) (without name rows) ≡ lookup (nat_eq q) rows
without_other name q apart [] = refl
without_other name q apart (row ∷ rows) = elim (cases_Bool (nat_eq name row.0)) [
  | inl own ↦ (
      let no : nat_eq q row.0 ≡ false = ne_eqb q row.0 (λ same. apart (same ∙ sym (eqb-true name row.0 own))) in
      rw (own, no) (without_other name q apart rows))
  | inr other ↦ rw other (ap (λ o. cond (nat_eq q row.0) (Some row.1) o) (without_other name q apart rows))
]

-- the pool of a name is another now, and the other pools stay
put : (l m : Ledger) (n k name size : ℕ) (pool : Pool) (o : IsOwed l n) → m.pools ≡ update nat_eq l.pools name (Some pool) → HasSize pool.live size → owed_by (without name o.rows) + size + 1 ≤ k → IsOwed m k
put l m n k name size pool o is has enough = record {
  rows = (name, size) ∷ without name o.rows;
  listed = λ q p live. elim (cases_eq q name) [
    | inl same ↦ (
        let own : nat_eq q name ≡ true = eq-eqb q name same in
        let here : m.pools q ≡ Some pool = ap m.pools same ∙ ap (λ (f : ℕ → Option Pool). f name) is ∙ update_here l.pools name (Some pool) in
        let was : pool ≡ p = (let h : Some pool ≡ Some p = sym here ∙ live in cc) in (
          size,
          (let at : lookup (nat_eq q) ((name, size) ∷ without name o.rows) ≡ Some size = rw own refl in at),
          subst (λ (x : Pool). HasSize x.live size) was has,
        ))
    | inr apart ↦ (
        let no : nat_eq q name ≡ false = ne_eqb q name apart in
        let had = o.listed q p (sym (ap (λ (f : ℕ → Option Pool). f q) is ∙ update_apart l.pools name (Some pool) q apart) ∙ live) in (
          had.0,
          (let at : lookup (nat_eq q) ((name, size) ∷ without name o.rows) ≡ Some had.0 = rw no (without_other name q apart o.rows ∙ had.1) in at),
          had.2,
        ))
  ];
  enough = (let e : owed_by ((name, size) ∷ without name o.rows) ≤ k = omega (arith, enough) in e);
}

-- a new pool owes its destroy
pub created : (l : Ledger) (n name capacity flags : ℕ) (counts : List ℕ) → IsOwed l n → IsOwed (after_create counts capacity flags name l) (n + 1)
created l n name capacity flags counts o =
    let few = without_few name o.rows in
    let enough = o.enough in
    put l _ n (n + 1) name 0 (fresh counts capacity flags) o refl ([], refl, λ x. refl) (omega arith)

-- the same pools are live
pub still_owed : (l m : Ledger) (n : ℕ) → m.pools ≡ l.pools → IsOwed l n → IsOwed m n
still_owed l m n same o = record {
  rows = o.rows;
  listed = λ q p live. o.listed q p (sym (ap (λ (f : ℕ → Option Pool). f q) same) ∙ live);
  enough = o.enough;
}

-- a pool that goes owes one call less
pub destroyed : (l : Ledger) (n name : ℕ) → HasNoSets name l → IsOwed l n → (1 ≤ n) × IsOwed (after_destroy name l) (n - 1)
destroyed l n name none o =
    let had = o.listed name none.pool none.is_live in
    let own = without_own name had.0 o.rows had.1 in
    let enough = o.enough in (
      omega arith,
      record {
        rows = without name o.rows;
        listed = λ q p live. elim (cases_eq q name) [
          | inl same ↦ absurd (none-some p (sym (ap (after_destroy name l).pools same ∙ update_here l.pools name None) ∙ live))
          | inr apart ↦ (let was = o.listed q p (sym (update_apart l.pools name None q apart) ∙ live) in (was.0, without_other name q apart o.rows ∙ was.1, was.2))
        ];
        enough = omega arith;
      },
    )

-- a live pool is changed, and so is the number of its sets
changed_owed : (l m : Ledger) (n k name size : ℕ) (f : Pool → Pool) (pool : Pool) (o : IsOwed l n) → l.pools name ≡ Some pool → m.pools ≡ on_pool name f l.pools → HasSize (f pool).live size → ((was : ℕ) → HasSize pool.live was → n + size ≤ k + was) → IsOwed m k
changed_owed l m n k name size f pool o live is has more =
    let had = o.listed name pool live in
    let own = without_own name had.0 o.rows had.1 in
    let enough = o.enough in
    let grows = more had.0 had.2 in
    put l m n k name size (f pool) o (is ∙ ap (λ (x : Option Pool). update nat_eq l.pools name (option_map f x)) live) has (omega arith)

-- each new set owes one call more
pub allocated : (l : Ledger) (n name : ℕ) (pool : Pool) (sets : List LiveSet) → l.pools name ≡ Some pool → IsOwed l n → IsOwed (after_alloc name sets l) (n + length sets)
allocated l n name pool sets live o =
    let had = o.listed name pool live in
    let more : HasSize (λ x. pool.live x + times sets x) (had.0 + length sets) = (
      had.2.0 ++ sets,
      length-append had.2.0 sets ∙ ap (λ m. m + length sets) had.2.1,
      λ x. times-append had.2.0 sets x ∙ ap (λ m. m + times sets x) (had.2.2 x),
    ) in
    changed_owed l _ n (n + length sets) name (had.0 + length sets) _ pool o live refl more (λ was is. let same = size_one pool.live had.0 was had.2 is in omega arith)

-- a pool that refuses has as many sets
pub refused : (l : Ledger) (n name refusals : ℕ) (pool : Pool) (m : Ledger) → l.pools name ≡ Some pool → m.pools ≡ on_pool name (λ p. record p { refusals = p.refusals + refusals }) l.pools → IsOwed l n → IsOwed m n
refused l n name refusals pool m live is o =
    let had = o.listed name pool live in
    changed_owed l m n n name had.0 _ pool o live is had.2 (λ was has. let same = size_one pool.live had.0 was had.2 has in omega arith)

-- sets of a live pool went: so many calls fewer are owed
released : (l : Ledger) (n name : ℕ) (pool : Pool) (gone : List LiveSet) → l.pools name ≡ Some pool → AreIn gone pool.live → IsOwed l n → (length gone ≤ n) × IsOwed (after_release name gone l) (n - length gone)
released l n name pool gone live inside o =
    let had = o.listed name pool live in
    let less = size_minus pool.live had.0 gone had.2 inside in
    let fits = less.0 in
    let own = without_own name had.0 o.rows had.1 in
    let enough = o.enough in (
      omega arith,
      changed_owed l _ n (n - length gone) name (had.0 - length gone) _ pool o live refl less.1 (λ old has. let is = size_one pool.live old had.0 has had.2 in omega arith),
    )

-- ---- over a ledger and a number that are told by equations

pub moved : (l m : Ledger) (n k : ℕ) → m ≡ l → k ≡ n → IsOwed l n → IsOwed m k
moved l m n k same number o = subst (λ (x : Ledger). IsOwed x k) (sym same) (subst (λ (x : ℕ). IsOwed l x) (sym number) o)

-- a release of n sets, from a pool that is live
pub release_owed : {I S : Type 0} (steps : I → Option S → I → Type 0) (set_name : S → ℕ) (name n k : ℕ) (old new : I) (l m : Ledger) (r : Releases steps set_name name old new l m) → length r.items ≡ n → AreLive name [] l → IsOwed l k → (n ≤ k) × IsOwed m (k - n)
release_owed steps set_name name n k old new l m r many none o =
    let gone : List LiveSet = r.gone in
    let inside : AreIn gone none.pool.live = subst (λ p. IfSome p (λ (q : Pool). AreIn gone q.live)) none.is_live r.live in
    let counted : length gone ≡ n = sym (length-map gone (λ (s : LiveSet). s.name)) ∙ ap length r.named ∙ length-map r.items set_name ∙ many in
    let less = released l k name none.pool gone none.is_live inside o in
    (subst (λ x. x ≤ k) counted less.0, moved (after_release name gone l) m (k - length gone) (k - n) r.ledger (ap (λ x. k - x) (sym counted)) less.1)

-- where no pool is live nothing is owed
pub nothing_owed : (l : Ledger) (n : ℕ) → l.pools ≡ (λ _. None) → IsOwed l n
nothing_owed l n none = record {
  rows = [];
  listed = λ q p live. absurd (none-some p (sym (ap (λ (f : ℕ → Option Pool). f q) none) ∙ live));
  enough = omega arith;
}

-- a release of some sets is one entry
release_some : (pool n : ℕ) → 0 < n → release_of pool n ≡ Release pool n ∷ []
release_some pool zero some = absurd (omega arith)
release_some pool (suc n) some = refl

-- which a call with the pool's name puts
pub lists_some : (before after : List Call) (pool other n m : ℕ) → after ≡ before ++ Release other n ∷ [] → other ≡ pool → m ≡ n → 0 < n → after ≡ before ++ release_of pool m
lists_some before after pool other n m is same many some = rw (many, release_some pool n some) (is ∙ ap (λ (p : ℕ). before ++ Release p n ∷ []) same)
