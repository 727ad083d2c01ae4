use Rattle.descriptor_manager.proofs.Common.{rules}
use Rattle.descriptor_manager.proofs.Given.{progress}
use Rattle.descriptor_manager.proofs.returning.ReturningIterator.next.Goals as goal

pub returns-clause-goes : goal.returns-clause-goes
returns-clause-goes g c = progress _ _ _ (search rules)
