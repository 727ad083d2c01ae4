use Rattle.descriptor_table.proofs.Common.{common_steps, ◌∙◌, ℕ, [], ◌∷◌, arith, refl, sym, length-set, frame_of, nexts_in, places_in, slots_in}
use Rattle.descriptor_table.proofs.Counting.{walk_length}
use Rattle.descriptor_table.proofs.Waiting.{ComesAt, comes_few, comes_has, out_queue, set_comes, still_near, still_rises}
use Rattle.descriptor_table.proofs.set_table.queue.enqueue.Given.{Over}
use Rattle.descriptor_table.proofs.set_table.queue.enqueue.Goals.{Else-not-waits}
use Rattle.descriptor_table.proofs.set_table.queue.enqueue.Goals as goal

comes : (g : Over) (c : Else-not-waits g) (q : ℕ) → ComesAt c.requires.came.0 (slots_in c.args.slots.now) (c.args.place ∷ []) (frame_of c.args.used) q
comes g c q = (let came = c.requires.came in set_comes came.0 (slots_in c.args.slots.now) c.args.place came.1 c.args.used came.2 c.requires.within came.5 came.3 came.4 (sym c.waits.ensures ∙ c.if-not-waits.false) q)

pub returns-then-not-waits-clause-queue : goal.returns-then-not-waits-clause-queue
returns-then-not-waits-clause-queue g c =
    let came = c.requires.came in
    let was = out_queue came.0 (places_in (nexts_in c.args.slots.now) c.args.queue.now) c.args.queue.now.last came.6 c.args.place came.1 in
    grind (arith, common_steps, was, length-set)

pub insert-requires : goal.insert-requires
insert-requires g c =
    let e = (goal.at.insert-requires g c).Else-not-waits in
    let came = c.requires.came in
    let l = places_in (nexts_in c.args.slots.now) c.args.queue.now in
    let q = c.args.queue.now in
    let f = frame_of c.args.used in
    let near = still_near came.0 (slots_in c.args.slots.now) l (c.args.place ∷ []) q.last f came.6 (comes g e) c.args.near (came.7 (sym c.waits.ensures ∙ c.if-not-waits.false)) in
    record {
      place = (f, near, λ p some. grind (arith, comes g e p));
      few = omega (arith, walk_length q.list.count (nexts_in c.args.slots.now) q.list.first, comes_few came.0 (slots_in c.args.slots.now) l (c.args.place ∷ []) q.last f came.6 (comes g e), c.requires.size);
      has = comes_has came.0 (slots_in c.args.slots.now) l (c.args.place ∷ []) q.last f came.6 (comes g e);
      rises = still_rises came.0 (slots_in c.args.slots.now) l (c.args.place ∷ []) q.last f came.6 (comes g e);
      ends = came.6.ends;
      sets = refl;
    }
