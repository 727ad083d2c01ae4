-- The flags of a layout, as a number whose bits they are.
use Rattle.std.specs.Prelude.{ℕ, Bool, ◌==◌, bit_and}
use Rattle.gpu_descriptor.specs.declared.flags.DescriptorSetLayoutCreateFlags.{DescriptorSetLayoutCreateFlags}

-- the number of a value of flags
abbrev pub layout_bits : DescriptorSetLayoutCreateFlags → ℕ
layout_bits flags = flags.0

-- the flags mark a layout as update-after-bind
abbrev pub is_marked : DescriptorSetLayoutCreateFlags → Bool
is_marked flags = bit_and flags.0 2 == 2
