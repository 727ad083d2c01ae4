-- An allocator that owns its device: its live sets, and the pools of its device.
use Rattle.std.specs.Prelude.{ℕ, Option}
use Rattle.gpu_descriptor_types.specs.Ledger.{Pool}
use Rattle.gpu_descriptor_types.specs.Side.{Side, side}
use Rattle.gpu_descriptor_types.specs.declared.device.DescriptorDevice.{Ghosts}
use Rattle.gpu_descriptor.specs.Caller.Others.{others_of}
use Rattle.gpu_descriptor.specs.Caller.States.{state_of}
use Rattle.gpu_descriptor.specs.Caller.Values.{Allocations}
use Rattle.gpu_descriptor.specs.Model.Agreement.{State}
use Rattle.descriptor_examples.specs.declared.owned_allocator.OwnedAllocator.{OwnedAllocator}

module _ {L P S D : Type 0} {d : Ghosts D L P S} where
  -- the allocator, and the ledger of its device
  abbrev pub side_in : OwnedAllocator L P S D d → Side (Allocations P)
  side_in o = side o.allocator (d.ledger o.device)

  -- its books, and the pools of the ledger
  abbrev pub state_in : OwnedAllocator L P S D d → State
  state_in o = state_of d.meaning.pool_name o.allocator (d.ledger o.device)

  -- the limit on update-after-bind descriptors
  abbrev pub limit_of : OwnedAllocator L P S D d → ℕ
  limit_of o = o.allocator.limit

  -- the live pools of the device that are none of the allocator's
  abbrev pub pools_besides : OwnedAllocator L P S D d → ℕ → Option Pool
  pools_besides o = others_of d.meaning.pool_name o.allocator (d.ledger o.device)
