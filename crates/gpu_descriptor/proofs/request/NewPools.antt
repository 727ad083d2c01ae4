-- The new pools of a request: their sizes, and what the pools before them have left. For request.Promises.
use Rattle.gpu_descriptor.proofs.Common.{common_steps, ◌≡◌, ℕ, ◌+◌, ◌-◌, ◌<◌, Bool, List, [], ◌∷◌, ◌++◌, length, take, refl, sym, ap, ◌∙◌, arith, append_assoc, length-append, All, take_at, All-nil, All-cons, All-append, All-same, sum_by-cons, Option, State, Key, Entry, Fresh, AreSized, AllByRecursion}
use Rattle.gpu_descriptor.proofs.Common.{IsFreshList, given_by, fresh_entries, fresh_entry, next_number, Grant, granted, pool_descriptors, Call, IsDone, out_then, needed, AreBelowTwice, offer, rest, share, all_shared}
use Rattle.gpu_descriptor.specs.Model.FreshPools.IsFreshList.{none as no_fresh, some as some_fresh}
use Rattle.gpu_descriptor.proofs.table.Exact.{key_exact}
use Rattle.gpu_descriptor.proofs.request.FreshNumbers.{fresh_entries_more}
use Rattle.gpu_descriptor.proofs.request.NextSize.{next_below}

-- ---- sizes

-- each is below twice its start size: in a prefix, and in a prefix and one more
pub prefix_below : (bound : Option ℕ) (k : Key) (room total wanted : ℕ) (pools : List Fresh) → AreSized bound k room total wanted pools → AllByRecursion (λ (f : Fresh). f.given ≡ f.size) pools → given_by pools < wanted → AreBelowTwice total wanted pools
prefix_below bound k room total wanted [] sized full short = tt
prefix_below bound k room total wanted (f ∷ pools) sized full short =
    let sum = sum_by-cons (λ (g : Fresh). g.given) f pools in
    (omega arith, next_below bound k room total wanted f.size sized.0, prefix_below bound k (room - pool_descriptors k f.size) (total + f.given) (wanted - f.given) pools sized.1 full.1 (omega arith))

pub list_below : (bound : Option ℕ) (k : Key) (room total wanted : ℕ) (front : List Fresh) (last : Fresh) → AreSized bound k room total wanted (front ++ last ∷ []) → AllByRecursion (λ (f : Fresh). f.given ≡ f.size) front → given_by front < wanted → AreBelowTwice total wanted (front ++ last ∷ [])
list_below bound k room total wanted [] last sized full short = (omega arith, next_below bound k room total wanted last.size sized.0, tt)
list_below bound k room total wanted (f ∷ front) last sized full short =
    let sum = sum_by-cons (λ (g : Fresh). g.given) f front in
    (omega arith, next_below bound k room total wanted f.size sized.0, list_below bound k (room - pool_descriptors k f.size) (total + f.given) (wanted - f.given) front last sized.1 full.1 (omega arith))

-- ---- known free places

-- where more are wanted than the pools have, none is left
pub shares_used : (refused : ℕ → Bool) (n : ℕ) (es : List Entry) → 0 < rest refused n es → All (λ e. e.available ≡ 0) (all_shared refused n es)
shares_used refused n [] some = All-nil (λ (e : Entry). e.available ≡ 0)
shares_used refused n (e ∷ newer) some =
    let sum = sum_by-cons (offer refused) e newer in
    let gave : Entry = record e { allocated = e.allocated + share refused n newer e; available = offer refused e - share refused n newer e } in
    let here : offer refused e - share refused n newer e ≡ 0 = omega arith in
    All-cons (λ (x : Entry). x.available ≡ 0) gave (all_shared refused n newer) here (shares_used refused n newer (omega arith))

full_used : (number : ℕ) (pools : List Fresh) → AllByRecursion (λ (f : Fresh). f.given ≡ f.size) pools → All (λ e. e.available ≡ 0) (fresh_entries number pools)
full_used number [] full = All-nil (λ (e : Entry). e.available ≡ 0)
full_used number (f ∷ pools) full = grind (arith, common_steps, All-cons, (full_used (number + 1) pools full.1))

-- all but the last entry
but_last : (es : List Entry) (e : Entry) → take (length (es ++ e ∷ []) - 1) (es ++ e ∷ []) ≡ es
but_last es e = (let long = length-append es (e ∷ []) in take_at es (e ∷ []) (length (es ++ e ∷ []) - 1) (omega arith))

granted_entries : (k : Key) (n : ℕ) (g : Grant) (s : State) → g.skipped ≡ 0 → ((granted k n g s).books k).pools ≡ all_shared g.refused n (s.books k).pools ++ fresh_entries (next_number (s.books k)) g.fresh
granted_entries k n g s all = rw (key_exact.self k, all) refl

-- ---- a request that was met

-- no pool of the key but the newest has a known free place left
abbrev pub AreFilled : Call → Type 0
AreFilled c = let pools = (c.new.books c.key).pools in All (λ e. e.available ≡ 0) (take (length pools - 1) pools)

module _ (c : Call) (d : IsDone c) where
  abbrev k : Key
  k = c.key

  pub done_filled : 0 < length d.grant.fresh → AreFilled c
  done_filled more = by_list d.fresh
    where
      by_list : IsFreshList c.bound k (c.limit - c.pooled) (out_then c d.grant) (needed c d.grant) d.grant.fresh → AreFilled c
      by_list (no_fresh zero_wanted empty) = (let e = ap length empty in absurd (omega arith))
      by_list (some_fresh front last is short sized le given) =
          let shares : List Entry = all_shared d.grant.refused c.count (c.old.books k).pools in
          let number : ℕ = next_number (c.old.books k) in
          let entries : (c.new.books k).pools ≡ (shares ++ fresh_entries number front) ++ fresh_entry (number + length front) last ∷ [] =
          ap (λ (w : State). (w.books k).pools) d.state
          ∙ granted_entries k c.count d.grant c.old d.all
          ∙ rw (is, fresh_entries_more number front last) (sym (append_assoc shares (fresh_entries number front) (fresh_entry (number + length front) last ∷ []))) in
          let few = short.short in
          let used = All-append (λ (e : Entry). e.available ≡ 0) shares (fresh_entries number front) (shares_used d.grant.refused c.count (c.old.books k).pools (omega arith)) (full_used number front short.full) in
          All-same (λ (e : Entry). e.available ≡ 0) _ (shares ++ fresh_entries number front) (ap (λ (es : List Entry). take (length es - 1) es) entries ∙ but_last (shares ++ fresh_entries number front) (fresh_entry (number + length front) last)) used
