-- Names of raw pools and raw sets.
use Rattle.std.specs.Prelude.{ℕ, List, map}
use Rattle.std.specs.List.{range_with_len}
use Rattle.gpu_descriptor_types.specs.Counts.{kinds}
use Rattle.gpu_descriptor_types.specs.Meaning.{Meaning}
use Rattle.descriptor_script.specs.declared.raw.RawPool.{RawPool}
use Rattle.descriptor_script.specs.declared.raw.RawSet.{RawSet}
use Rattle.descriptor_script.specs.declared.raw.ScriptLayout.{ScriptLayout}

-- the name of the pool
abbrev pub pool_id : RawPool → ℕ
pool_id pool = pool.id

-- the name of the set
abbrev pub set_id : RawSet → ℕ
set_id set = set.id

-- pools and sets have the names that they carry, layouts their counts and their mark, by which alone one differs from another
abbrev pub script_meaning : Meaning ScriptLayout RawPool RawSet
script_meaning = record { pool_name = pool_id; set_name = set_id; counts = λ l. kinds l.counts; mark = λ l. l.mark; layout_name = λ l. 0; set_layout = λ set. 0 }

-- the name of the set's pool
abbrev pub set_pool : RawSet → ℕ
set_pool set = set.pool

-- the set of this name in this pool
abbrev pub raw_set : ℕ → ℕ → RawSet
raw_set pool id = record { id = id; pool = pool }

-- many sets of this pool, under names from first up
abbrev pub raw_sets : ℕ → ℕ → ℕ → List RawSet
raw_sets pool first many = map (raw_set pool) (range_with_len first many)

-- how many names were given to pools and to sets
pub record Names : Type 0 where
  pub pools : ℕ
  pub sets : ℕ
