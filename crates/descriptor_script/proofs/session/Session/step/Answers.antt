use Rattle.descriptor_script.proofs.Given.{freed_stay}
use Rattle.descriptor_script.proofs.session.Session.step.Goals as goal

pub returns-in-Free-clause-freed : goal.returns-in-Free-clause-freed
returns-in-Free-clause-freed g c ticket lt none = freed_stay _ _ _ _ _ c.free.ensures.step ticket none

pub returns-in-Allocate-clause-step : goal.returns-in-Allocate-clause-step
returns-in-Allocate-clause-step g c = rw c.in-Allocate.is c.allocate.ensures.step

pub returns-in-Free-clause-step : goal.returns-in-Free-clause-step
returns-in-Free-clause-step g c = rw c.in-Free.is (rw c.deref.ensures.value at c.free.ensures.step)
