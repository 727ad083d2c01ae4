-- What a device writes that writes down what passes through it.
use Rattle.std.specs.Prelude.{ℕ, List, Option, IsTrue, IsFalse}
use Rattle.std.specs.Io.KnownBytes.{Appends, Keeps}
use Rattle.descriptor_lines.specs.Outcomes.{AppendsPrefix}
use Rattle.descriptor_trace.specs.declared.traced.Traced.{Traced}

-- a text is put after what the output holds, unless something is lost, and nothing after a loss
pub record WritesDown {W : Type 0} (contents : W → Option (List ℕ)) (old new : Traced W) (text : List ℕ) : Type 0 where
  pub whole : IsFalse new.has_lost → Appends (contents old.output) (contents new.output) text
  pub still_lost : IsTrue old.has_lost → IsTrue new.has_lost
  pub silent : IsTrue old.has_lost → Keeps (contents old.output) (contents new.output)
  -- where the text is lost, a part at its front is put
  pub part : IsFalse old.has_lost → AppendsPrefix (contents old.output) (contents new.output) text
