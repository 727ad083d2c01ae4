use Rattle.descriptor_table.proofs.Common.{refl, slots_in, layouts_of, removed_of, chains_in, users_in, List, ℕ, None, Taken}
use Rattle.descriptor_table.proofs.Chains.{unheld}
use Rattle.descriptor_table.proofs.Reusing.{Reused, reused_any, reused_counted, took_sound}
use Rattle.descriptor_table.proofs.set_table.SetTable.take_each.Goals.{After-use_each}
use Rattle.descriptor_table.proofs.set_table.SetTable.take_each.Goals as goal

reused : (g : _) (c : After-use_each g) → (b : List ℕ) × Reused None Taken b (slots_in c.args.self.now.slots) (slots_in c.use_each.new.self)
reused g c = reused_any c.use_each.result c.args.self.now.number (g.N.SetName.handles_of c.args.names.now) _ _ (λ some. (c.use_each.ensures.once some).0) c.use_each.ensures.used c.use_each.ensures.none

pub invariant_of-self-clause-sound : goal.invariant_of-self-clause-sound
invariant_of-self-clause-sound g c = let s = c.args.self.now in took_sound s.slots c.use_each.new.self (chains_in s.lists) (layouts_of s) s.waiting s.keep s.sound _ (reused g (goal.at.invariant_of-self-clause-sound g c).After-use_each).1 c.use_each.ensures.nexts

pub invariant_of-self-clause-counted : goal.invariant_of-self-clause-counted
invariant_of-self-clause-counted g c = let s = c.args.self.now in reused_counted None Taken (unheld Taken refl) s.slots c.use_each.new.self (chains_in s.lists) (layouts_of s) s.waiting s.keep s.sound _ (reused g (goal.at.invariant_of-self-clause-counted g c).After-use_each).1 c.use_each.ensures.nexts (removed_of s) (users_in s.users) s.counted
