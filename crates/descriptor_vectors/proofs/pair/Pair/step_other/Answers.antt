use Rattle.descriptor_vectors.specs.Logged.{ledger_logged}
use Rattle.descriptor_script.specs.Sessions.Session.{value_of}
use Rattle.descriptor_vectors.proofs.Beside.{stepped, turned}
use Rattle.descriptor_vectors.proofs.pair.Pair.step_other.Goals as goal

pub invariant_of-self : goal.invariant_of-self
invariant_of-self c =
    let old = c.args.self.now in
    record {
      paired =
          turned (value_of c.step.new.self) (value_of old.one) (ledger_logged c.step.new.device)
          (stepped (value_of old.other) (value_of c.step.new.self) (value_of old.one) (ledger_logged old.device) (ledger_logged c.step.new.device) c.step.ensures.keeps.allocator.others (turned (value_of old.one) (value_of old.other) (ledger_logged old.device) old.paired)
          c.step.ensures.keeps.ready);
    }
