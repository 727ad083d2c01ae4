-- The texts of errors.
use Rattle.std.specs.Prelude.{ℕ, List, codes}
use Rattle.gpu_descriptor.specs.Caller.Errors.{error_text}
use Rattle.descriptor_manager.specs.declared.errors.BeginFrameError.{BeginFrameError}
use Rattle.descriptor_manager.specs.declared.errors.BeginFrameError.TheVariants.{FrameOpen, NoMoreFrames}
use Rattle.descriptor_manager.specs.declared.errors.FreeError.{FreeError}
use Rattle.descriptor_manager.specs.declared.errors.FreeError.TheVariants.{FrameAhead, NoSet}
use Rattle.descriptor_manager.specs.declared.errors.RequestError.{RequestError}
use Rattle.descriptor_manager.specs.declared.errors.RequestError.TheVariants.{Allocation, NoFrame, NoLayout}

abbrev pub begin_frame_text : BeginFrameError → List ℕ
begin_frame_text FrameOpen = codes "Frame already open"
begin_frame_text NoMoreFrames = codes "Frame numbers exhausted"

abbrev pub request_text : RequestError → List ℕ
request_text NoFrame = codes "No open frame"
request_text NoLayout = codes "Unknown layout"
request_text (Allocation error) = error_text error

abbrev pub free_text : FreeError → List ℕ
free_text NoSet = codes "Unknown set"
free_text FrameAhead = codes "Frame not opened yet"
