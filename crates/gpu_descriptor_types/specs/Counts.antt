-- The fourteen counts of descriptors, as a list in the order of the fields.
use Rattle.std.specs.Prelude.{ℕ, List, [], ◌∷◌, replicate, fold, max}
use Rattle.gpu_descriptor_types.specs.declared.counts.DescriptorTotalCount.{DescriptorTotalCount}

-- the counts of a value of the code, as this list
abbrev pub kinds : DescriptorTotalCount → List ℕ
kinds c =
    c.sampler ∷ c.combined_image_sampler ∷ c.sampled_image ∷ c.storage_image ∷ c.uniform_texel_buffer ∷ c.storage_texel_buffer ∷ c.uniform_buffer ∷ c.storage_buffer ∷ c.uniform_buffer_dynamic ∷ c.storage_buffer_dynamic ∷ c.input_attachment ∷ c.acceleration_structure ∷ c.inline_uniform_block_bytes ∷ c.inline_uniform_block_bindings ∷ []

-- fourteen zeros
abbrev pub no_counts : List ℕ
no_counts = replicate 14 0

-- the greatest of the counts
abbrev pub greatest : List ℕ → ℕ
greatest counts = fold max 0 counts
