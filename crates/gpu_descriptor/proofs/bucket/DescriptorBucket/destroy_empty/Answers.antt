use Rattle.gpu_descriptor.proofs.Common.{rules, Bool, Entry, Ledger, DescriptorPool, List, ◌≡◌, ℕ, filter, has_sets, true, sym, ap, ◌∙◌, map, entry_of, gone_of, ledger_but, left_of}
use Rattle.std.proofs.lemmas.List.Elements.{All-same}
use Rattle.gpu_descriptor.proofs.cleanup.Rotation.{Has, all_left, each_left, none_destroyed, none_empty}
use Rattle.gpu_descriptor.proofs.cleanup.Splitting.{gone_twice}
use Rattle.gpu_descriptor.proofs.bucket.DescriptorBucket.destroy_empty.Goals.{Then-not-self}
use Rattle.gpu_descriptor.proofs.bucket.DescriptorBucket.destroy_empty.Goals as goal

-- with a set in each pool all are left, and none goes
module _ {P : Type 0} (name : P → ℕ) (items : List (DescriptorPool P)) (full : filter has_sets items ≡ items) {everywhere : Bool} (is : everywhere ≡ true) where
  abbrev es : List Entry
  es = map (entry_of name) items

  pools_left : es ≡ left_of everywhere es
  pools_left = none_empty name items full ∙ sym (ap (λ b. left_of b es) is)

  none_gone : (l : Ledger) → l ≡ ledger_but (gone_of everywhere es) l
  none_gone l = none_destroyed l ∙ ap (λ gone. ledger_but gone l) (sym (ap (λ b. gone_of b es) is ∙ ap (gone_of true) (none_empty name items full) ∙ gone_twice true es))

full : (g : _) (c : Then-not-self g) → filter has_sets c.args.self.now.pools.items ≡ c.args.self.now.pools.items
full g c = all_left c.args.self.now.pools.items (c.args.self.now.full (search rules))

pub returns-then-not-self-clause-books : goal.returns-then-not-self-clause-books
returns-then-not-self-clause-books g c = (let pools = pools_left g.D.DescriptorDevice.meaning.pool_name c.args.self.now.pools.items (full g c) c.if-not-everywhere.false in λ i. record { id = c.args.self.now.id; pools = pools i })

pub returns-then-not-self-clause-ledger : goal.returns-then-not-self-clause-ledger
returns-then-not-self-clause-ledger g c = none_gone g.D.DescriptorDevice.meaning.pool_name c.args.self.now.pools.items (full g c) c.if-not-everywhere.false (g.D.DescriptorDevice.ledger c.args.device.now)

pub returns-then-all_have_sets-clause-books : goal.returns-then-all_have_sets-clause-books
returns-then-all_have_sets-clause-books g c = (let pools = pools_left g.D.DescriptorDevice.meaning.pool_name c.args.self.now.pools.items (c.all_have_sets.ensures c.if-all_have_sets.true) c.if-not-everywhere.false in λ i. record { id = c.args.self.now.id; pools = pools i })

pub returns-then-all_have_sets-clause-ledger : goal.returns-then-all_have_sets-clause-ledger
returns-then-all_have_sets-clause-ledger g c = none_gone g.D.DescriptorDevice.meaning.pool_name c.args.self.now.pools.items (c.all_have_sets.ensures c.if-all_have_sets.true) c.if-not-everywhere.false (g.D.DescriptorDevice.ledger c.args.device.now)

pub invariant_of-self-clause-full : goal.invariant_of-self-clause-full
invariant_of-self-clause-full g c = λ off. All-same Has _ _ (sym (c.all_have_sets.ensures c.if-all_have_sets.true)) (each_left c.args.self.now.pools.items)
