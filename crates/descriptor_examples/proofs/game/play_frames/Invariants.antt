use Rattle.std.proofs.Common.{◌≡◌}
use Rattle.descriptor_manager.specs.Managers.{pools_besides}
use Rattle.descriptor_examples.proofs.game.play_frames.Given as goal

abbrev pub invariant-loop-frame : goal.invariant-loop-frame
invariant-loop-frame l = pools_besides l.manager ≡ pools_besides l.initial.manager
