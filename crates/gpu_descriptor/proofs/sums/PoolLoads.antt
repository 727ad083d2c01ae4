-- The descriptors of a key's pools, as the code has them.
use Rattle.gpu_descriptor.proofs.Common.{◌++◌, sum_by-append, ◌≡◌, ◌+◌, ◌<◌, List, [], ◌∷◌, length, drop, get_or, ap, arith, sum_by-cons, DescriptorPool, Key, pool_descriptors, pools_load, ℕ, set, common_steps}

module _ {P : Type 0} (k : Key) where
  cons : (p : DescriptorPool P) (ps : List (DescriptorPool P)) → pools_load k (p ∷ ps) ≡ pool_descriptors k p.capacity + pools_load k ps
  cons p ps = sum_by-cons (λ (q : DescriptorPool P). pool_descriptors k q.capacity) p ps

  pub stored_first : (items : List (DescriptorPool P)) (p : DescriptorPool P) → 0 < length items → p ≡ get_or items 0 p → pools_load k items ≡ pool_descriptors k p.capacity + pools_load k (drop 1 items)
  stored_first [] p some is = absurd (omega arith)
  stored_first (x ∷ items) p some is = (let same : pool_descriptors k p.capacity ≡ pool_descriptors k x.capacity = ap (λ (y : DescriptorPool P). pool_descriptors k y.capacity) is in let all = cons x items in omega arith)

  pub stored_append : (first last : List (DescriptorPool P)) → pools_load k (first ++ last) ≡ pools_load k first + pools_load k last
  stored_append first last = sum_by-append (λ (p : DescriptorPool P). pool_descriptors k p.capacity) first last

  pub stored_one : (p : DescriptorPool P) → pools_load k (p ∷ []) ≡ pool_descriptors k p.capacity
  stored_one p = (let sum = cons p [] in omega arith)

  -- counts move
  pub stored_put : (items : List (DescriptorPool P)) (i : ℕ) (q new : DescriptorPool P) → i < length items → q ≡ get_or items i q → new.capacity ≡ q.capacity → pools_load k (set items i new) ≡ pools_load k items
  stored_put items i q new within is same = grind (arith, common_steps)
