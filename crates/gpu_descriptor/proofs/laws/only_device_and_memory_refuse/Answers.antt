use Rattle.gpu_descriptor.proofs.request.Certain.{only_refused, room_of_places}
use Rattle.gpu_descriptor.proofs.laws.only_device_and_memory_refuse.Goals as goal

pub returns : goal.returns
returns c = record { allowed = λ c agree out load within free. room_of_places c.old c.key c.load c.pooled c.limit c.count agree out load within free; refused = only_refused }
