use Rattle.descriptor_table.proofs.Common.{◌≡◌, ◌+◌, ◌-◌, ◌≤◌, ℕ, subst, arith, rules, chain_at, count, is_in, slots_of, chains_in}
use Rattle.descriptor_table.proofs.Counts.{chain_counts}
use Rattle.descriptor_table.proofs.set_table.SetTable.set_max_kept.Goals as goal

pub invariant_of-self-clause-sound : goal.invariant_of-self-clause-sound
invariant_of-self-clause-sound g c =
    let s = c.args.self.now in
    let few : (k : ℕ) → 2 ≤ k → (chain_at (chains_in s.lists) k).count ≤ c.args.max = λ k two. (
    let same : k - 2 + 2 ≡ k = omega arith in
    omega (arith, chain_counts s k, subst (λ k. count (is_in k) (slots_of s) ≤ c.args.max) same (c.requires (k - 2)))) in
    search (rules, few)
