-- The texts of errors.
use Rattle.std.specs.Prelude.{ℕ, List, codes}
use Rattle.gpu_descriptor_types.specs.declared.errors.CreatePoolError.{CreatePoolError}
use Rattle.gpu_descriptor_types.specs.declared.errors.DeviceAllocationError.{DeviceAllocationError}
use Rattle.gpu_descriptor_types.specs.declared.errors.CreatePoolError.TheVariants as create
use Rattle.gpu_descriptor_types.specs.declared.errors.DeviceAllocationError.TheVariants as alloc

abbrev pub create_text : CreatePoolError → List ℕ
create_text create.OutOfDeviceMemory = codes "Device memory exhausted"
create_text create.OutOfHostMemory = codes "Host memory exhausted"
create_text create.Fragmentation = codes "Fragmentation"

abbrev pub alloc_text : DeviceAllocationError → List ℕ
alloc_text alloc.OutOfDeviceMemory = codes "Device memory exhausted"
alloc_text alloc.OutOfHostMemory = codes "Host memory exhausted"
alloc_text alloc.FragmentedPool = codes "Fragmented pool"
alloc_text alloc.OutOfPoolMemory = codes "Pool memory exhausted"
