-- The borrow of a set's raw set.
use Rattle.std.specs.Borrow.{Lends, MutBor, Fml, RattleType}
use Rattle.gpu_descriptor.specs.declared.set.DescriptorSet.{DescriptorSet}
use Rattle.gpu_descriptor.specs.contracts.set.DescriptorSet.{the_row}

-- the set ends with the last raw set that was written through r. Its key and the number of its pool stay
abbrev pub LendsRaw : (S : RattleType) → MutBor (DescriptorSet S.Denot) → MutBor S.Denot → Fml
LendsRaw S x r = Lends (the_row S) S x r (λ raw. record x.now { raw = raw })
