-- The ledger of a device with one pool, of the name 0, in which no set is ever live: for the calls of `OnePool`.
use Rattle.std.proofs.Common.{◌≡◌, ◌≢◌, ◌-◌, ℕ, zero, suc, false, List, [], ◌∷◌, map, Option, Some, None, refl, sym, ap, ◌∙◌, arith}
use Rattle.std.proofs.Math.Path.{fun_ext}
use Rattle.std.proofs.lemmas.Map.{update_apart}
use Rattle.std.proofs.lemmas.Option.{none-some, same_Some}
use Rattle.std.proofs.lemmas.Bool.{true≢false}
use Rattle.std.specs.Map.{update}
use Rattle.std.specs.Prelude.{IfSome, is_some, nat_eq}
use Rattle.gpu_descriptor_types.proofs.Counting.{count_by_yes, set_exact}
use Rattle.std.specs.Option.{option_map}
use Rattle.gpu_descriptor_types.specs.Ledger.{AreLive, Pool, on_pool}
use Rattle.gpu_descriptor_types.specs.Multiset.{AreIn, LiveSet, set_eq, times}
use Rattle.descriptor_examples.specs.OwnDevice.{as_created, only, owed_of}
use Rattle.descriptor_examples.specs.declared.own_device.OnePool.{OnePool}
use Rattle.descriptor_examples.specs.declared.own_device.OnlyPool.{OnlyPool}

-- a live pool has the name 0
pub only_named : (pool : Option Pool) (name : ℕ) (p : Pool) → only pool name ≡ Some p → name ≡ 0
only_named pool zero p live = refl
only_named pool (suc name) p live = absurd (none-some p live)

pub only_none : only None ≡ (λ name. None)
only_none = fun_ext each
  where
    each : (name : ℕ) → only None name ≡ None
    each zero = refl
    each (suc name) = refl

-- another pool at the name 0 is another only pool
pub only_updated : (pool other : Option Pool) → update nat_eq (only pool) 0 other ≡ only other
only_updated pool other = fun_ext each
  where
    each : (name : ℕ) → update nat_eq (only pool) 0 other name ≡ only other name
    each zero = refl
    each (suc name) =
        let apart : suc name ≢ 0 = λ same. (omega arith) in
        let old : only pool (suc name) ≡ None = refl in
        let new : only other (suc name) ≡ None = refl in
        update_apart (only pool) 0 other (suc name) apart ∙ old ∙ sym new

-- a change that changes nothing of a pool as it was created
pub on_only : (f : Pool → Pool) (o : Option OnlyPool) (name : ℕ) (p : Pool) → only (as_created o) name ≡ Some p → option_map f (as_created o) ≡ as_created o → on_pool name f (only (as_created o)) ≡ only (as_created o)
on_only f o name p live same =
    let named = only_named (as_created o) name p live in
    ap (λ k. on_pool k f (only (as_created o))) named ∙ only_updated (as_created o) (option_map f (as_created o)) ∙ ap only same

pub no_pool : (o : Option OnlyPool) → is_some o ≡ false → as_created o ≡ None
no_pool None none = refl
no_pool (Some p) none = absurd (true≢false none)

-- a release of no set leaves the pool as it was created
pub released_none : (o : Option OnlyPool) → option_map (λ (pool : Pool). record pool { live = λ x. pool.live x - times [] x }) (as_created o) ≡ as_created o
released_none None = refl
released_none (Some p) = refl

pub none_in : (o : Option Pool) → IfSome o (λ p. AreIn [] p.live)
none_in None = tt
none_in (Some p) = λ x. (omega arith)

-- in the only pool no set is live
none_at : (o : Option OnlyPool) (name : ℕ) (p : Pool) (x : LiveSet) → only (as_created o) name ≡ Some p → p.live x ≡ 0
none_at None zero p x live = absurd (none-some p live)
none_at (Some q) zero p x live = sym (ap (λ (pool : Pool). pool.live x) (same_Some _ p live))
none_at o (suc name) p x live = absurd (none-some p live)

pub none_live : (d : OnePool) (name x : ℕ) → AreLive name (x ∷ []) (owed_of d) → ⊥
none_live d name x h = by h.gone h.named h.live
  where
    by : (gone : List LiveSet) → map (λ s. s.name) gone ≡ x ∷ [] → AreIn gone h.pool.live → ⊥
    by [] named live = (let bad : ◌≡◌ {A = List ℕ} [] (x ∷ []) = named in cc)
    by (g ∷ gs) named live =
        let one : times (g ∷ gs) g ≡ suc (times gs g) = count_by_yes (λ s. set_eq s g) g gs (set_exact.self g) in
        let fits = live g in
        let none = none_at d.pool name h.pool g h.is_live in
        omega arith
