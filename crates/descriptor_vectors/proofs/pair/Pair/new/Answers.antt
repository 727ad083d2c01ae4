use Rattle.descriptor_vectors.specs.Logged.{ledger_logged}
use Rattle.descriptor_script.specs.Sessions.Session.{value_of}
use Rattle.descriptor_vectors.proofs.Beside.{new_ready, none_shared}
use Rattle.descriptor_vectors.proofs.pair.Pair.new.Goals as goal

pub invariant_of-result : goal.invariant_of-result
invariant_of-result c =
    let one = value_of c.in_ok-one_layout.field-0 in
    let other = value_of c.in_ok-one_layout-2.field-0 in
    let ledger = ledger_logged c.new.result in
    let fresh = c.in_ok-one_layout.ensures in
    record {
      paired = record {
        one = new_ready one ledger fresh;
        other = new_ready other ledger c.in_ok-one_layout-2.ensures;
        apart = none_shared one other ledger fresh.limit fresh.allocator;
      };
    }
