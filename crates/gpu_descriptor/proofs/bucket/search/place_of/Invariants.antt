use Rattle.gpu_descriptor.proofs.Common.{◌≡◌}
use Rattle.gpu_descriptor.proofs.lists.Searching.{Searching}
use Rattle.gpu_descriptor.proofs.bucket.search.place_of.Given as goal

abbrev pub invariant-loop-size : goal.invariant-loop-size
invariant-loop-size g l = Searching (g.N.Numbered.numbers l.initial.view.numbers.now) l.number l.low l.size l.initial.view.comparisons.now.count l.view.comparisons.now.count
    × (l.view.numbers ≡ l.initial.view.numbers)
    × (l.view.comparisons.ghost_name ≡ l.initial.view.comparisons.ghost_name)

abbrev pub decreases-loop-size : goal.decreases-loop-size
decreases-loop-size g l = l.size
