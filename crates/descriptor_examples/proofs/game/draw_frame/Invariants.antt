use Rattle.std.proofs.Common.{◌≡◌}
use Rattle.descriptor_manager.specs.Managers.{pools_besides}
use Rattle.descriptor_examples.proofs.game.draw_frame.Given as goal

abbrev pub invariant-loop-layout : goal.invariant-loop-layout
invariant-loop-layout l = pools_besides l.manager ≡ pools_besides l.initial.manager
