-- The names of the kinds of descriptors, and the words that give their counts.
use Rattle.std.specs.Prelude.{ℕ, Bool, true, false, List, [], ◌∷◌, Option, Result, Ok, Err, bytes_eq, codes, ok_or, position, replicate, set, slice_index_or, if◌then◌else◌}
use Rattle.gpu_descriptor_types.specs.Bounds.{greatest_u32}
use Rattle.descriptor_lines.specs.Fault.{◌>>=◌}
use Rattle.descriptor_lines.specs.Numbers.{number_in}
use Rattle.descriptor_lines.specs.Words.{around, in_turn}
use Rattle.descriptor_lines.specs.declared.words.fault.Fault.{Fault}
use Rattle.descriptor_lines.specs.declared.words.fault.Fault.TheVariants.{BadKind, KindTwice}

-- in the order of the fields of the counts
abbrev pub kind_names : List (List ℕ)
kind_names =
    codes "sampler" ∷ codes "combined_image_sampler" ∷ codes "sampled_image" ∷ codes "storage_image" ∷ codes "uniform_texel_buffer" ∷ codes "storage_texel_buffer" ∷ codes "uniform_buffer" ∷ codes "storage_buffer" ∷ codes "uniform_buffer_dynamic" ∷ codes "storage_buffer_dynamic" ∷ codes "input_attachment" ∷ codes "acceleration_structure" ∷ codes "inline_uniform_block_bytes" ∷ codes "inline_uniform_block_bindings" ∷ []

-- the place of the kind of this name
unfoldable pub place_of_kind : List ℕ → Option ℕ
place_of_kind word = position (λ name. bytes_eq name word) kind_names

-- which kinds the words named, and the counts that they gave, with a word more, `KIND=N`
abbrev pub with_count : List Bool × List ℕ → List ℕ → Result (List Bool × List ℕ) Fault
with_count (given, counts) word = do
  parts ← ok_or (around 61 word) BadKind
  place ← ok_or (place_of_kind parts.0) BadKind
  new ← if slice_index_or given place false then Err KindTwice else Ok place
  count ← number_in greatest_u32 parts.1
  Ok (set given place true, set counts place count)

-- the counts that the words give, each kind at most once, and 0 of a kind that they don't name
abbrev pub counts_in : List (List ℕ) → Result (List ℕ) Fault
counts_in words = do
  given ← in_turn with_count (replicate 14 false, replicate 14 0) words
  Ok given.1
