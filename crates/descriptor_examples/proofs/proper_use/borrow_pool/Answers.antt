use Rattle.gpu_descriptor_types.specs.Counts.{kinds}
use Rattle.gpu_descriptor_types.specs.Flags.{bits}
use Rattle.descriptor_script.specs.Scripted.Device.{ledger_of}
use Rattle.descriptor_examples.proofs.Used.{came_and_went, empty_pool}
use Rattle.descriptor_examples.proofs.proper_use.borrow_pool.Goals as goal

pub destroy_descriptor_pool-requires : goal.destroy_descriptor_pool-requires
destroy_descriptor_pool-requires c = empty_pool (ledger_of c.args.device.now) (ledger_of c.create_descriptor_pool.new.self) (kinds c.args.counts.now) 1 (bits c.empty-flags.result) c.in-Ok.pool.id c.in-Ok.ensures.ok

pub returns-in-Ok : goal.returns-in-Ok
returns-in-Ok c = record {
  pools =
      came_and_went (ledger_of c.args.device.now) (ledger_of c.create_descriptor_pool.new.self)
      (ledger_of c.destroy_descriptor_pool.new.self) (kinds c.args.counts.now) 1 (bits c.empty-flags.result)
      c.in-Ok.pool.id c.in-Ok.ensures.new_name c.in-Ok.ensures.ok c.destroy_descriptor_pool.ensures.ledger;
}
