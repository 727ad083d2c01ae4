-- What a key's next pool takes of the room, and when its size was cut.
use Rattle.gpu_descriptor.proofs.Common.{common_steps, greatest_pool_size, ◌≡◌, ℕ, ◌+◌, ◌-◌, ◌*◌, ◌^◌, ◌<◌, ◌≤◌, All, sum, List, [], ◌∷◌, ◌++◌, refl, sym, subst, arith, mul-le-mul_right, if◌then◌else◌, Option, IsPoolSize, sets_in_room, start_size, Key, Fresh, IsNextSize, AreSized}
use Rattle.gpu_descriptor.proofs.Common.{room_after, pool_descriptors}
use Rattle.gpu_descriptor_types.proofs.Room.{bounded_few, bounded_whole, few_in_room, whole_in_room}
use Rattle.gpu_descriptor_types.proofs.Sizes.{fewer_fit, pool_size_below, pool_size_fits, pool_size_small}

-- ---- a key's next pool

module _ (bound : Option ℕ) (k : Key) (room total wanted size : ℕ) (s : IsNextSize bound k room total wanted size) where
  -- how many sets it would hold without the bound
  abbrev unbounded : ℕ
  unbounded = if k.marked then sets_in_room room (sum k.counts) s.whole else s.whole

  least : size ≤ unbounded
  least = (let is = s.cut in let a = bounded_few bound (sum k.counts) wanted unbounded in omega arith)

  few : size ≤ s.whole
  few = grind (arith, common_steps, few_in_room, least)

  -- its size is one that a pool may have, its counts fit, it is below twice the start size, and within the room
  pub next_small : size ≤ greatest_pool_size
  next_small = (let a = few in let b = pool_size_small k.counts total wanted s.whole s.is_whole in omega arith)

  pub next_counts : All (λ count. count * size < 2 ^ 32) k.counts
  next_counts = fewer_fit k.counts size s.whole few (pool_size_fits k.counts total wanted s.whole s.is_whole)

  pub next_below : size < 2 * start_size total wanted
  next_below = (let a = few in let b = pool_size_below k.counts total wanted s.whole s.is_whole in omega arith)

  pub next_fits : pool_descriptors k size ≤ room
  next_fits = grind (arith, common_steps, least, (mul-le-mul_right (sum k.counts) least))

  pub one_fits : pool_descriptors k 1 ≤ room
  one_fits = grind (arith, common_steps, mul-le-mul_right, next_fits)

  -- where it leaves room for another and is below what is still needed, it was not cut
  pub next_whole : size < wanted → pool_descriptors k 1 ≤ room - pool_descriptors k size → IsPoolSize k.counts total wanted size
  next_whole short left = subst (λ n. IsPoolSize k.counts total wanted n) (sym is) s.is_whole
    where
      all : size ≡ unbounded
      all = bounded_whole bound (sum k.counts) wanted unbounded size s.cut short

      is : size ≡ s.whole
      is = grind (arith, common_steps, whole_in_room)

-- ---- several, one after another

pub room_more : (k : Key) (room : ℕ) (pools : List Fresh) (f : Fresh) → room_after k room (pools ++ f ∷ []) ≡ room_after k room pools - pool_descriptors k f.size
room_more k room [] f = refl
room_more k room (g ∷ pools) f = room_more k (room - pool_descriptors k g.size) pools f

-- before the last of some there was room for one
pub last_fits : (bound : Option ℕ) (k : Key) (room total wanted : ℕ) (front : List Fresh) (last : Fresh) → AreSized bound k room total wanted (front ++ last ∷ []) → pool_descriptors k 1 ≤ room_after k room front
last_fits bound k room total wanted [] last sized = one_fits bound k room total wanted last.size sized.0
last_fits bound k room total wanted (f ∷ front) last sized = last_fits bound k (room - pool_descriptors k f.size) (total + f.given) (wanted - f.given) front last sized.1
