-- A set made of a raw one.
use Rattle.std.specs.Prelude.{ℕ}
use Rattle.gpu_descriptor.specs.declared.set.DescriptorSet.{DescriptorSet}
use Rattle.gpu_descriptor.specs.Model.Books.{Key}

-- the set of a pool of the key, which has the id
abbrev pub set_at : {S : Type 0} → Key → ℕ → ℕ → S → DescriptorSet S
set_at k id number raw = record { raw = raw; number = number; id = id; key = record { is = k } }
