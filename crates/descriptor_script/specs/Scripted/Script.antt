-- What the words of a script mean.
use Rattle.std.specs.Prelude.{List, slice_index_or}
use Rattle.gpu_descriptor_types.specs.declared.errors.CreatePoolError.{CreatePoolError}
use Rattle.gpu_descriptor_types.specs.declared.errors.DeviceAllocationError.{DeviceAllocationError}
use Rattle.descriptor_script.specs.declared.answer.Answer.{Answer}
use Rattle.descriptor_script.specs.declared.answer.Answer.TheVariants.{Ok, Device, Host, Frag, Pool}
use Rattle.gpu_descriptor_types.specs.declared.errors.CreatePoolError.TheVariants as create
use Rattle.gpu_descriptor_types.specs.declared.errors.DeviceAllocationError.TheVariants as alloc

-- the word that is read next. After the end it is Ok
abbrev pub next_word : List Answer → Answer
next_word words = slice_index_or words 0 Ok

-- the error of a create that isn't granted at this word. At Ok names ran out or an allocation failed
abbrev pub create_error : Answer → CreatePoolError
create_error Ok = create.OutOfHostMemory
create_error Device = create.OutOfDeviceMemory
create_error Host = create.OutOfHostMemory
create_error Frag = create.Fragmentation
create_error Pool = create.Fragmentation

-- the error of an alloc that isn't granted at this word. At Ok names ran out or an allocation failed
abbrev pub alloc_error : Answer → DeviceAllocationError
alloc_error Ok = alloc.OutOfHostMemory
alloc_error Device = alloc.OutOfDeviceMemory
alloc_error Host = alloc.OutOfHostMemory
alloc_error Frag = alloc.FragmentedPool
alloc_error Pool = alloc.OutOfPoolMemory
