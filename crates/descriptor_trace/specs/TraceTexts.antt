-- The lines of a trace (rust/line-program/LINES.md): what each says of its call, and of what the device returned.
use Rattle.std.specs.Prelude.{ℕ, List, [], ◌++◌, ◌==◌, Bool, if◌then◌else◌, codes, sum, bit_and, Result, Ok, Err}
use Rattle.std.specs.Fmt.{decimal}
use Rattle.gpu_descriptor_types.specs.declared.errors.CreatePoolError.{CreatePoolError}
use Rattle.gpu_descriptor_types.specs.declared.errors.DeviceAllocationError.{DeviceAllocationError}
use Rattle.gpu_descriptor_types.specs.declared.errors.CreatePoolError.TheVariants as create
use Rattle.gpu_descriptor_types.specs.declared.errors.DeviceAllocationError.TheVariants as alloc
use Rattle.descriptor_script.specs.Scripted.Raw.{pool_id}
use Rattle.descriptor_script.specs.declared.answer.Answer.{Answer}
use Rattle.descriptor_script.specs.declared.answer.Answer.TheVariants.{Device, Host, Frag, Pool}
use Rattle.descriptor_script.specs.declared.raw.RawPool.{RawPool}
use Rattle.descriptor_lines.specs.Answers.{kinds_answer}
use Rattle.descriptor_lines.specs.ScriptWords.{word_of_answer}

-- the answer of a script that refuses a create so
abbrev pub answer_of_create : CreatePoolError → Answer
answer_of_create create.OutOfDeviceMemory = Device
answer_of_create create.OutOfHostMemory = Host
answer_of_create create.Fragmentation = Frag

-- the answer of a script that refuses a call for sets so
abbrev pub answer_of_alloc : DeviceAllocationError → Answer
answer_of_alloc alloc.OutOfDeviceMemory = Device
answer_of_alloc alloc.OutOfHostMemory = Host
answer_of_alloc alloc.FragmentedPool = Frag
answer_of_alloc alloc.OutOfPoolMemory = Pool

-- the name of a new pool, and `-` if it was refused
abbrev pub new_name : Result RawPool CreatePoolError → List ℕ
new_name (Ok pool) = decimal (pool_id pool)
new_name (Err error) = codes "-"

-- `no release`, if a pool was asked for without the flag by which its sets may be released
abbrev pub release_part : ℕ → List ℕ
release_part flags = if bit_and flags 1 == 1 then [] else codes ", no release"

-- `mark`, if the layout is marked, or the pool is for sets of marked layouts
abbrev pub mark_part : Bool → List ℕ
mark_part mark = if mark then codes ", mark" else []

-- a comma and the counts that aren't 0, in the order of the fields, if there is one
abbrev pub counts_part : List ℕ → List ℕ
counts_part counts = if sum counts == 0 then [] else codes "," ++ kinds_answer counts

-- the end of a line: nothing more if the call was granted, and if not, the word of a script that refuses so
abbrev pub line_end : {R E : Type 0} → (E → Answer) → Result R E → List ℕ
line_end answer_of (Ok done) = codes "\n"
line_end answer_of (Err error) = codes ", refused: " ++ word_of_answer (answer_of error) ++ codes "\n"

-- a pool of this many sets was to be created, with these flags and these counts in all
abbrev pub create_line : ℕ → ℕ → List ℕ → Result RawPool CreatePoolError → List ℕ
create_line sets flags counts answer =
    codes "create " ++ new_name answer ++ codes ": " ++ decimal sets ++ codes " sets" ++ release_part flags ++ mark_part (bit_and flags 2 == 2) ++ counts_part counts ++ line_end answer_of_create answer

-- this many sets of one layout were asked of a pool, with this mark and these counts each
abbrev pub alloc_line : ℕ → ℕ → Bool → List ℕ → Result Unit DeviceAllocationError → List ℕ
alloc_line pool sets mark counts answer =
    codes "alloc " ++ decimal pool ++ codes ": " ++ decimal sets ++ mark_part mark ++ counts_part counts ++ line_end answer_of_alloc answer

-- this many sets of a pool were freed
abbrev pub release_line : ℕ → ℕ → List ℕ
release_line pool sets = codes "release " ++ decimal pool ++ codes ": " ++ decimal sets ++ codes "\n"

-- a pool was destroyed
abbrev pub destroy_line : ℕ → List ℕ
destroy_line pool = codes "destroy " ++ decimal pool ++ codes "\n"

-- no call: a line of the input, before its calls
abbrev pub input_line : List ℕ → List ℕ
input_line line = codes "# " ++ line ++ codes "\n"
