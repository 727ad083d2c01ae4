-- The texts of the output.
use Rattle.std.specs.Prelude.{◌≤◌, ◌+◌, min, ℕ, List, [], ◌++◌, length, codes, String, string_bytes, string_capacity, if◌then◌else◌, ◌==◌}
use Rattle.std.specs.Fmt.{decimal}
use Rattle.std.specs.List.{flat_map, zip}
use Rattle.gpu_descriptor_types.specs.Bounds.{greatest_u64}
use Rattle.gpu_descriptor_types.specs.Ledger.{Counters}
use Rattle.descriptor_lines.specs.declared.words.fault.Fault.{Fault}
use Rattle.descriptor_lines.specs.Fault.{words_of_fault}
use Rattle.descriptor_lines.specs.Kinds.{kind_names}

-- n bytes may be appended to the text without an allocation
abbrev pub HasReserveFor : {Z : Type 0} → ℕ → String Z → Type 0
HasReserveFor more text = length (string_bytes text) + more ≤ string_capacity text

-- a kind with its count, if that is not 0
abbrev pub kind_answer : List ℕ × ℕ → List ℕ
kind_answer (name, count) =
    if count == 0 then [] else codes " " ++ name ++ codes "=" ++ decimal count

-- the kinds of which the counts are not 0, in the order of the fields
unfoldable pub kinds_answer : List ℕ → List ℕ
kinds_answer counts = flat_map kind_answer (zip kind_names counts)

-- the answer of `size`, with the counts of the pool
abbrev pub size_answer : ℕ → List ℕ → List ℕ
size_answer sets counts = codes "size " ++ decimal sets ++ kinds_answer counts ++ codes "\n"

-- the line of `show` for a pool of the layout of this name
abbrev pub pool_answer : List ℕ → (number allocated available : ℕ) → List ℕ
pool_answer name number allocated available =
    codes "pool " ++ name ++ codes " " ++ decimal number ++ codes " " ++ decimal allocated ++ codes "/" ++ decimal available ++ codes "\n"

-- a counter as readers see it, up to the greatest `u64`
abbrev pub shown : ℕ → ℕ
shown count = min count greatest_u64

-- the line of `show` for the calls that the device had
abbrev pub device_answer : Counters → List ℕ
device_answer n =
    codes "device created " ++ decimal (shown n.created) ++ codes " destroyed " ++ decimal (shown n.destroyed) ++ codes " asked " ++ decimal (shown n.asked) ++ codes " released " ++ decimal (shown n.released) ++ codes "\n"

-- the line of `show` for the live sets, and the descriptors of those that are marked
abbrev pub held_answer : ℕ → ℕ → List ℕ
held_answer held marked = codes "held " ++ decimal held ++ codes " marked " ++ decimal marked ++ codes "\n"

-- the answer if an allocation to run a line failed
abbrev pub no_memory : List ℕ
no_memory = codes "refused: no memory\n"

-- the last line of a run that ended at a fault
abbrev pub fault_line : ℕ → Fault → List ℕ
fault_line number fault =
    codes "line " ++ decimal number ++ codes ": " ++ words_of_fault fault ++ codes "\n"
