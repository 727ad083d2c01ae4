use Rattle.std.proofs.Common.{◌≡◌, ℕ, ◌+◌, Bool, None, nat_eq, List, map, count_by}
use Rattle.std.specs.Iterator.{Yields}
use Rattle.indexmap.specs.IndexMap.{get}
use Rattle.gpu_descriptor_types.specs.Multiset.{LiveSet}
use Rattle.descriptor_script.specs.Scripted.Raw.{set_id}
use Rattle.descriptor_script.specs.Inner.Live.{live_sets_of}
use Rattle.descriptor_script.proofs.live.take_back.Given as goal

-- the sets so far are gone, and the others are left
abbrev pub invariant-loop-set : goal.invariant-loop-set
invariant-loop-set g l = record {
  gone : List LiveSet;
  steps : Yields g.I.Iterator.next_gives l.fn.sets l.yielded l.sets;
  named : map (λ s. s.name) gone ≡ map set_id l.yielded;
  parts : (p : LiveSet → Bool) → count_by p gone + count_by p (live_sets_of l.live.entries) ≡ count_by p (live_sets_of l.fn.live.entries);
  fresh : (n : ℕ) → get nat_eq l.fn.live n ≡ None → get nat_eq l.live n ≡ None;
}
