-- The flags of a pool, as a number whose bits they are.
use Rattle.std.specs.Prelude.{◌≡◌, ℕ, ◌+◌, Bool, if◌then◌else◌, bit_and}
use Rattle.gpu_descriptor_types.specs.declared.flags.DescriptorPoolCreateFlags.{DescriptorPoolCreateFlags}

-- the number of a value of flags
abbrev pub bits : DescriptorPoolCreateFlags → ℕ
bits flags = flags.0

-- the bit of a pool whose sets may be freed one at a time
abbrev pub free_descriptor_set : ℕ
free_descriptor_set = 1

-- the bit of a pool for sets of marked layouts
abbrev pub update_after_bind : ℕ
update_after_bind = 2

-- the flags of a pool whose sets are freed one at a time, for sets of marked layouts or of others
abbrev pub pool_flags : Bool → ℕ
pool_flags marked = if marked then free_descriptor_set + update_after_bind else free_descriptor_set

-- sets may be released
abbrev pub CanFree : ℕ → Type 0
CanFree flags = bit_and flags free_descriptor_set ≡ free_descriptor_set

-- sets of marked layouts may be allocated
abbrev pub IsUpdateAfterBind : ℕ → Type 0
IsUpdateAfterBind flags = bit_and flags update_after_bind ≡ update_after_bind
