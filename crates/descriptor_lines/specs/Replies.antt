-- What the program knows of a reply of its session.
use Rattle.std.specs.Prelude.{ℕ, ◌+◌, ◌<◌, ◌^◌, List, Option}
use Rattle.std.specs.Option.{option_map_or}
use Rattle.gpu_descriptor.specs.declared.set.DescriptorSet.{DescriptorSet}
use Rattle.descriptor_script.specs.Scripted.Raw.{set_pool}
use Rattle.descriptor_script.specs.Sessions.Session.{SessionValue}
use Rattle.descriptor_script.specs.Sessions.Tickets.{set_at}
use Rattle.descriptor_script.specs.declared.command.Reply.{Reply}
use Rattle.descriptor_script.specs.declared.command.Reply.TheVariants.{Sets}
use Rattle.descriptor_script.specs.declared.raw.RawPool.{RawPool}
use Rattle.descriptor_script.specs.declared.raw.RawSet.{RawSet}
use Rattle.descriptor_script.specs.declared.raw.ScriptLayout.{ScriptLayout}

-- a session on the scripted device
abbrev pub LineSession : Type 0
LineSession = SessionValue ScriptLayout RawPool RawSet

-- the device pool of the set that the ticket has, or 0
abbrev pub pool_at : List (Option (DescriptorSet RawSet)) → ℕ → ℕ
pool_at slots ticket = option_map_or (λ set. set_pool set.raw) (set_at slots ticket) 0

-- the tickets that a reply gives are numbers of 64 bits
abbrev pub TicketsFit : Reply → Type 0
TicketsFit (Sets first count) = first + count < 2 ^ 64
TicketsFit _ = Unit {0}
