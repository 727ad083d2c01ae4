-- A list of kept sets that was read or written: for the methods of `Lists`, and those that read its fields.
use Rattle.descriptor_table.proofs.Common.{common_steps, ◌≡◌, ℕ, ◌+◌, ◌<◌, false, if◌then◌else◌, ◌∷◌, length, get_or, set, map, sym, ap, subst, ◌∙◌, arith, ne_eqb, get_or_default, get_or-set_other, get_or-set_same, length-map, length-set, map-set}
use Rattle.descriptor_table.proofs.Common.{cases_eq, list_of, HasList, Relisted, chains_in, removed_in, chain_at, is_removed, shown, Group, KeptOf, Chain}
use Rattle.std.proofs.Math.ListN.{get_or-map}
use Rattle.descriptor_table.specs.declared.lists.Lists.{Lists}

module _ (l : Lists) (layout : ℕ) where
  pub chain_was : chain_at (chains_in l) (layout + 2) ≡ shown (chain_at l.kept.items layout)
  chain_was = grind (arith, common_steps, get_or-map shown l.kept.items layout (record { first = 0; count = 0 }))

  -- that of a layout that is there
  pub list_is : removed_in l layout ≡ false → chain_at (chains_in l) (layout + 2) ≡ chain_at l.kept.items layout
  list_is there = grind (arith, common_steps, chain_was)

  -- it became another one
  module _ (c : Chain) where
    pub chain_written : l.vacant ∷ l.going ∷ map shown (set l.kept.items layout c) ≡ set (chains_in l) (layout + 2) (shown c)
    chain_written = grind (arith, common_steps, map-set shown l.kept.items layout c)

    pub relisted : HasList (KeptOf layout) l → c.count < 4294967295 → (new : Lists) → new.vacant ≡ l.vacant → new.going ≡ l.going → new.kept.items ≡ set l.kept.items layout c → Relisted (layout + 2) c l new
    relisted there few new vacant going kept =
        let now : is_removed c ≡ false = ne_eqb c.count 4294967295 (λ e. omega arith) in
        record {
          chains = (λ i. vacant i ∷ going i ∷ map shown (kept i)) ∙ chain_written ∙ ap (λ b. set (chains_in l) (layout + 2) (if b then record { first = 0; count = 0 } else c)) now;
          layouts = ap length kept ∙ length-set l.kept.items layout c;
          removed = λ i n. (let stays : removed_in new n ≡ removed_in l n = grind (arith, common_steps, cases_eq n layout, get_or-set_same, get_or-set_other) in stays i);
        }

-- the list of a group that was read became another one
pub regrouped : (l new : Lists) (group : Group) (layout : ℕ) → group ≡ KeptOf layout → HasList group l → (c : Chain) → c ≡ get_or l.kept.items layout c → (f : Chain → Chain) → (f (chain_at (chains_in l) (list_of group))).count < 4294967295 → new.vacant ≡ l.vacant → new.going ≡ l.going → new.kept.items ≡ set l.kept.items layout (f c) → Relisted (list_of group) (f (chain_at (chains_in l) (list_of group))) l new
regrouped l new group layout is has c was f few vacant going kept =
    let there = subst (λ g. HasList g l) is has in
    let same : chain_at (chains_in l) (layout + 2) ≡ c = list_is l layout there.1 ∙ get_or_default l.kept.items layout _ _ there.0 ∙ sym was in
    grind (arith, common_steps, same, relisted l layout (f c) there)

-- each group that has a list has one of these
pub group_within : (l : Lists) (group : Group) → HasList group l → list_of group < length (chains_in l)
group_within l x1 has = grind (arith, common_steps, length-map l.kept.items shown)
