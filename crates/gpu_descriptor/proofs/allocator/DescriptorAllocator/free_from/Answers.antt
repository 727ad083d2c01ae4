use Rattle.gpu_descriptor.proofs.Common.{Some, arith, common_steps, rules}
use Rattle.gpu_descriptor.proofs.foreign.OthersStay.{freed_others}
use Rattle.gpu_descriptor.proofs.request.Requested.{load_within, pool_load_within, rows_apart}
use Rattle.gpu_descriptor.proofs.release.Freed.{Freed, freed_none, call_out, freed_more}
use Rattle.gpu_descriptor.proofs.allocator.DescriptorAllocator.free_from.Goals.{In-Some}
use Rattle.gpu_descriptor.proofs.allocator.DescriptorAllocator.free_from.Goals as goal

pub loop-ahead-init : goal.loop-ahead-init
loop-ahead-init g c = grind (arith, common_steps, freed_none)

-- the invariant at the set in hand
in_hand :
    (g : _) (c : In-Some g)
    → Freed g.D.DescriptorDevice.meaning g.I.Iterator.next_gives g.I.Iterator.can_next g.I.Iterator.remaining
    c.args.sets.now c.args.self.now (g.D.DescriptorDevice.ledger c.args.device.now) c.loop-ahead.self
    (g.D.DescriptorDevice.ledger c.loop-ahead.device) (Some c.in-Some.first) c.loop-ahead.sets
in_hand g c = rw c.in-Some.is at c.loop-ahead.invariant.freed

pub release_run-ahead-requires-clause-outstanding : goal.release_run-ahead-requires-clause-outstanding
release_run-ahead-requires-clause-outstanding g c =
    call_out g.D.DescriptorDevice.meaning g.I.Iterator.next_gives g.I.Iterator.can_next g.I.Iterator.remaining c.args.sets.now c.args.self.now (g.D.DescriptorDevice.ledger c.args.device.now) c.loop-ahead.self (g.D.DescriptorDevice.ledger c.loop-ahead.device) c.in-Some.first c.loop-ahead.sets
    c.requires.agree.books c.requires.outstanding (in_hand g (goal.at.release_run-ahead-requires-clause-outstanding g c).In-Some)

pub loop-ahead-preserved : goal.loop-ahead-preserved
loop-ahead-preserved g c = grind (arith, common_steps, freed_more)

pub returns-clause-keeps : goal.returns-clause-keeps
returns-clause-keeps g c = search (rules, freed_others, load_within, pool_load_within, rows_apart)
