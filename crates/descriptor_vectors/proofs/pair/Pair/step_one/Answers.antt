use Rattle.descriptor_vectors.specs.Logged.{ledger_logged}
use Rattle.descriptor_script.specs.Sessions.Session.{value_of}
use Rattle.descriptor_vectors.proofs.Beside.{stepped}
use Rattle.descriptor_vectors.proofs.pair.Pair.step_one.Goals as goal

pub invariant_of-self : goal.invariant_of-self
invariant_of-self c =
    let old = c.args.self.now in
    record {
      paired =
          stepped (value_of old.one) (value_of c.step.new.self) (value_of old.other) (ledger_logged old.device) (ledger_logged c.step.new.device) c.step.ensures.keeps.allocator.others old.paired
          c.step.ensures.keeps.ready;
    }
