use Rattle.gpu_descriptor.proofs.Common.{common_steps, ◌≡◌, ◌++◌, ◌∷◌, [], ◌+◌, length, length-append, sum_by, arith, ap, sym, ◌∙◌, sum_by-append, DescriptorPool, first_ordinal, free_in, number_after, open_ordinals, numbers_of}
use Rattle.gpu_descriptor.proofs.lists.Numbers.{next_push, rises_push}
use Rattle.gpu_descriptor.proofs.lists.OpenList.{few_listed, listed_push}
use Rattle.gpu_descriptor.proofs.lists.Ordinals.{first_fits, first_push, stored_push}
use Rattle.gpu_descriptor.proofs.bucket.DescriptorBucket.push.Goals.{After-push_back_reserved}
use Rattle.gpu_descriptor.proofs.bucket.DescriptorBucket.push.Goals as goal

pub push-requires : goal.push-requires
push-requires g c = grind (arith, common_steps, few_listed)

-- the pools with the new one
module _ (g : _) (c : After-push_back_reserved g) where
  long : length c.push_back_reserved.new.self.items ≡ length c.args.self.now.pools.items + 1
  long = ap length c.push_back_reserved.ensures.items ∙ length-append c.args.self.now.pools.items (c.args.pool ∷ [])

  counted : sum_by (λ (p : DescriptorPool g.row.P.Denot). p.allocated) c.push_back_reserved.new.self.items ≡ sum_by (λ (p : DescriptorPool g.row.P.Denot). p.allocated) c.args.self.now.pools.items + c.args.pool.allocated
  counted = grind (arith, common_steps, sum_by-append)

  numbers : numbers_of c.push_back_reserved.new.self.items ≡ numbers_of c.args.self.now.pools.items ++ c.args.pool.number ∷ []
  numbers = ap numbers_of c.push_back_reserved.ensures.items ∙ stored_push c.args.self.now.pools.items c.args.pool

  next : number_after (numbers_of c.push_back_reserved.new.self.items) ≡ c.args.pool.number + 1
  next = ap number_after numbers ∙ next_push (numbers_of c.args.self.now.pools.items) c.args.pool.number

  first : first_ordinal c.push_back_reserved.new.self.items ≡ first_ordinal c.args.self.now.pools.items
  first = ap first_ordinal c.push_back_reserved.ensures.items ∙ first_push c.args.self.now.pools.items c.args.pool c.requires.number

  listed : c.push.new.self.ordinals.items ≡ open_ordinals (first_ordinal c.push_back_reserved.new.self.items) (free_in c.push_back_reserved.new.self.items)
  listed =
      let old = c.args.self.now.pools.items in
      let number : first_ordinal old + length old ≡ c.args.pool.number = first_fits old c.args.self.now.rising ∙ sym c.requires.number in
      rw (first, c.push_back_reserved.ensures.items)
      (listed_push (first_ordinal old) old c.args.self.now.listed.ordinals.items c.args.self.now.«open» c.args.pool c.push.new.self.ordinals.items (rw number c.push.ensures.comes) c.push.ensures.stays)

pub invariant_of-self : goal.invariant_of-self
invariant_of-self g c = grind (arith, common_steps, counted, next, rises_push, listed)
