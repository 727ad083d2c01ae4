use Rattle.descriptor_table.proofs.Common.{rules, refl, chains_in, layouts_of, slot_at, slots_in, slots_of, used_for, Taken}
use Rattle.descriptor_table.proofs.Chains.{unheld}
use Rattle.descriptor_table.proofs.Numbers.{slot_counted}
use Rattle.descriptor_table.proofs.Sound.{leave_sound, listed}
use Rattle.descriptor_table.proofs.Waiting.{head_waits}
use Rattle.descriptor_table.proofs.set_table.SetTable.take_first.Goals as goal

pub at-requires : goal.at-requires
at-requires g c = (head_waits c.args.self.now c.requires.some).0

pub set_use-requires : goal.set_use-requires
set_use-requires g c = (head_waits c.args.self.now c.requires.some).0

pub invariant_of-self-clause-sound : goal.invariant_of-self-clause-sound
invariant_of-self-clause-sound g c =
    let s = c.args.self.now in
    let new = used_for Taken (slot_at (slots_of s) s.waiting.list.first) in
    let there = listed s.slots s.slots (chains_in s.lists) (layouts_of s) s.waiting s.keep s.sound s.waiting.list.first new (head_waits s c.requires.some).0 refl (unheld Taken refl) in
    let left = leave_sound s.slots c.set_use.new.self (chains_in s.lists) (layouts_of s) s.waiting s.keep s.sound s.waiting.list.first new c.set_use.ensures.writes.slots c.requires.some refl c.set_use.ensures.nexts (λ k. refl) refl there in
    search (rules, left)

pub invariant_of-self-clause-counted : goal.invariant_of-self-clause-counted
invariant_of-self-clause-counted g c = let s = c.args.self.now in slot_counted s (slots_in c.set_use.new.self) s.waiting.list.first _ c.set_use.ensures.writes.slots (head_waits s c.requires.some).0 refl refl

pub returns-clause-takes : goal.returns-clause-takes
returns-clause-takes g c = search (rules, head_waits c.args.self.now c.requires.some)
