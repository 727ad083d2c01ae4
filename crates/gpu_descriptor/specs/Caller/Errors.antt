-- The texts of errors.
use Rattle.std.specs.Prelude.{ℕ, List, codes}
use Rattle.gpu_descriptor.specs.declared.errors.AllocationError.{AllocationError}
use Rattle.gpu_descriptor.specs.declared.errors.AllocationError.TheVariants.{OutOfDeviceMemory, OutOfHostMemory, Fragmentation}

abbrev pub error_text : AllocationError → List ℕ
error_text OutOfDeviceMemory = codes "Device memory exhausted"
error_text OutOfHostMemory = codes "Host memory exhausted"
error_text Fragmentation = codes "Fragmentation"
