use Rattle.gpu_descriptor.proofs.Common.{common_steps, ◌≡◌, ◌+◌, drop, ◌<◌, ◌≤◌, ◌||◌, not, lt-ltb, List, [], ◌∷◌, All, true, get_or, cases_Bool, inl, inr, DescriptorPool, ◌∙◌, sym, ap, arith, length, key_of, pool_descriptors, bucket_of, pools_load}
use Rattle.std.proofs.lemmas.List.Elements.{All-head}
use Rattle.gpu_descriptor.proofs.sums.PoolLoads.{stored_first}
use Rattle.gpu_descriptor.proofs.release.StoredNumbers.{popped_numbers, popped_open}
use Rattle.gpu_descriptor.proofs.release.FrontPool.{IsFront, is_front, turn_unused, turn, stop_full, stop_short, still}
use Rattle.gpu_descriptor.proofs.bucket.DescriptorBucket.destroy_empty_front.Goals.{After-unwrap-front}
use Rattle.gpu_descriptor.proofs.bucket.DescriptorBucket.destroy_empty_front.Goals as goal

front : (g : _) (c : After-unwrap-front g) → IsFront g.D.DescriptorDevice.meaning.pool_name c.args.keep c.loop-self.self.pools.items c.unwrap-front.result
front g c = grind (arith, common_steps, is_front)

first_load : (g : _) (c : After-unwrap-front g) → pools_load (key_of c.args.key.now) c.loop-self.self.pools.items ≡ pool_descriptors (key_of c.args.key.now) c.unwrap-front.result.capacity + pools_load (key_of c.args.key.now) (drop 1 c.loop-self.self.pools.items)
first_load g c = (let first = front g c in let some = first.long in stored_first (key_of c.args.key.now) c.loop-self.self.pools.items c.unwrap-front.result (omega arith) first.is)

-- a pool that is destroyed has no set, so the bucket has its flag
first_has : {P : Type 0} (pools : List (DescriptorPool P)) (p : DescriptorPool P) → 0 < length pools → p ≡ get_or pools 0 p → All (λ (q : DescriptorPool P). 0 < q.allocated) pools → 0 < p.allocated
first_has {P} [] p some is all = absurd (omega arith)
first_has {P} (x ∷ pools) p some is all = (let here = All-head (λ (q : DescriptorPool P). 0 < q.allocated) x pools all in let same = ap (λ (q : DescriptorPool P). q.allocated) is in omega arith)

flagged : (g : _) (c : After-unwrap-front g) → c.loop-self.self.may_have_empty ≡ true
flagged g c = elim (cases_Bool c.loop-self.self.may_have_empty) [
  | inl on ↦ on
  | inr off ↦ absurd (let f = front g c in let long = f.long in let none = f.empty in let some = first_has c.loop-self.self.pools.items c.unwrap-front.result (omega arith) f.is (c.loop-self.self.full off) in omega arith)
]

pub marked_descriptors_of_pool-requires : goal.marked_descriptors_of_pool-requires
marked_descriptors_of_pool-requires g c = grind (arith, common_steps, first_load)

pub overflow_add-room : goal.overflow_add-room
overflow_add-room g c = grind (arith, common_steps, first_load)

pub destroy_descriptor_pool-requires : goal.destroy_descriptor_pool-requires
destroy_descriptor_pool-requires g c =
    let d = (goal.at.destroy_descriptor_pool-requires g c).After-unwrap-front in
    turn_unused g.D.DescriptorDevice.meaning.pool_name c.args.keep c.loop-self.invariant.stored.0 c.loop-self.self.pools.items c.unwrap-front.result (g.D.DescriptorDevice.ledger c.loop-self.device) (front g d) c.loop-self.invariant.stored.1

pub loop-self-preserved : goal.loop-self-preserved
loop-self-preserved g c =
    let d = (goal.at.loop-self-preserved g c).After-unwrap-front in
    let done =
    turn g.D.DescriptorDevice.meaning.pool_name c.args.keep c.loop-self.invariant.stored.0 c.loop-self.self.id
    c.loop-self.self.pools.items c.pop_front.new.self.items c.unwrap-front.result
    (g.D.DescriptorDevice.ledger c.loop-self.device)
    (g.D.DescriptorDevice.ledger c.destroy_descriptor_pool.new.self)
    (front g d) c.pop_front.ensures.rest c.destroy_descriptor_pool.ensures c.loop-self.invariant.stored.1 in
    record {
      stored = (c.loop-self.invariant.stored.0, done.agree);
      books = done.books ∙ c.loop-self.invariant.books;
      ledger = done.ledger ∙ c.loop-self.invariant.ledger;
      flag = λ keeps. ap (λ is. is || not c.is_empty.result) (lt-ltb 0 c.args.keep keeps) ∙ sym (flagged g d) ∙ c.loop-self.invariant.flag keeps;
      total = c.loop-self.invariant.total;
      room = (
          let all = first_load g d in
          let rest = ap (pools_load (key_of c.args.key.now)) c.pop_front.ensures.rest in
          omega arith);
    }

pub returns-else-index-eq0-clause-ledger : goal.returns-else-index-eq0-clause-ledger
returns-else-index-eq0-clause-ledger g c =
    let name = g.D.DescriptorDevice.meaning.pool_name in
    let items = c.loop-self.self.pools.items in
    let many : c.args.keep < length items = omega (arith, c.loop-self.self.pools.ok.0) in
    let none = stop_full name c.args.keep c.loop-self.self.id items c.index.result.now many c.index.ensures c.if-index-eq0.false in
    sym (still c.args.keep (bucket_of name c.loop-self.self) (g.D.DescriptorDevice.ledger c.loop-self.device) none) ∙ c.loop-self.invariant.ledger

pub returns-after-loop-self-clause-ledger : goal.returns-after-loop-self-clause-ledger
returns-after-loop-self-clause-ledger g c =
    let name = g.D.DescriptorDevice.meaning.pool_name in
    let items = c.loop-self.self.pools.items in
    let short : length items ≤ c.args.keep = omega (arith, c.loop-self.self.pools.ok.0) in
    let none = stop_short name c.args.keep c.loop-self.self.id items short in
    sym (still c.args.keep (bucket_of name c.loop-self.self) (g.D.DescriptorDevice.ledger c.loop-self.device) none) ∙ c.loop-self.invariant.ledger

pub invariant_of-self-clause-numbered : goal.invariant_of-self-clause-numbered
invariant_of-self-clause-numbered g c = (let less = (popped_numbers c.loop-self.self.pools.items c.pop_front.new.self.items c.pop_front.ensures.rest c.loop-self.self.rising).0 in let was = c.loop-self.self.numbered in omega arith)

pub invariant_of-self-clause-rising : goal.invariant_of-self-clause-rising
invariant_of-self-clause-rising g c = (popped_numbers c.loop-self.self.pools.items c.pop_front.new.self.items c.pop_front.ensures.rest c.loop-self.self.rising).1

pub invariant_of-self-clause-open : goal.invariant_of-self-clause-open
invariant_of-self-clause-open g c =
    let f = front g (goal.at.invariant_of-self-clause-open g c).After-unwrap-front in
    let some = f.long in
    popped_open c.unwrap-front.result c.loop-self.self.pools.items c.pop_front.new.self.items c.loop-self.self.listed.ordinals.items c.remove_oldest.new.self.ordinals.items (omega arith) f.is c.pop_front.ensures.rest c.loop-self.self.rising c.loop-self.self.«open» c.remove_oldest.ensures.gone c.remove_oldest.ensures.stays

pub first_ordinal_of-self-requires-clause-rising : goal.first_ordinal_of-self-requires-clause-rising
first_ordinal_of-self-requires-clause-rising g c = (popped_numbers c.loop-self.self.pools.items c.pop_front.new.self.items c.pop_front.ensures.rest c.loop-self.self.rising).1
