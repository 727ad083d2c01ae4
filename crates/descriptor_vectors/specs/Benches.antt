-- That a session is ready has one proof at most, so a struct can keep it as a ghost field.
use Rattle.std.proofs.Props.{props}
use Rattle.gpu_descriptor_types.specs.Meaning.{Meaning}
use Rattle.gpu_descriptor_types.specs.Side.{Side}
use Rattle.gpu_descriptor.proofs.callers.OneAgreement.{Agrees-prop}
use Rattle.descriptor_script.specs.Sessions.Session.{IsReady, SessionValue}

pub IsReady-prop : {L P S : Type 0} (means : Meaning L P S) (s : Side (SessionValue L P S)) → IsProp (IsReady means s)
IsReady-prop means s = Prim.hlevel (Agrees-prop, props)
