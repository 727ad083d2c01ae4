use Rattle.std.proofs.Common.{◌≡◌, ◌∙◌, arith}
use Rattle.descriptor_script.specs.Scripted.Device.{ledger_of}
use Rattle.descriptor_script.specs.Scripted.Raw.{pool_id}
use Rattle.descriptor_vectors.proofs.refused_first.borrow_and_clean.Goals as goal

pub returns-in-Ok : goal.returns-in-Ok
returns-in-Ok c =
    let began = c.no_pool_is_lost.ensures.no_pools pool_id c.args.allocator.now (ledger_of c.args.device.now) c.requires.began in
    let none = c.requires.none in
    let came = c.in-Ok.ensures.hands_out.totals.0 in
    let back = c.free_all.ensures.returns.back.outstanding in
    let many = c.in-Ok.ensures.hands_out.many in
    record { pools = c.cleanup.ensures.cleans_up.emptied (omega arith) ∙ c.free_all.ensures.keeps.others ∙ c.allocate.ensures.keeps.others ∙ began }

pub returns-in-Err : goal.returns-in-Err
returns-in-Err c =
    let began = c.no_pool_is_lost.ensures.no_pools pool_id c.args.allocator.now (ledger_of c.args.device.now) c.requires.began in
    record { pools = c.cleanup-in-Err.ensures.cleans_up.emptied (c.in-Err.ensures.hands_out.totals_stay.0 ∙ c.requires.none) ∙ c.allocate.ensures.keeps.others ∙ began }
