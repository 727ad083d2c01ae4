use Rattle.std.proofs.Common.{◌≡◌, ◌≤◌, All, length, take, vec_len, vec_capacity}
use Rattle.descriptor_script.specs.Sessions.Session.{KeepsSession, value_of}
use Rattle.descriptor_script.specs.Sessions.SessionRun.{IsStep, Runs}
use Rattle.descriptor_script.specs.Sessions.Steps.{IsTurnedAway}
use Rattle.descriptor_script.proofs.session.Session.run.Given as goal
use Rattle.gpu_descriptor_types.specs.Side.{side}

-- the commands so far were done, with the device left alone where all were turned away, and memory for the other replies is reserved
abbrev pub invariant-loop-command : goal.invariant-loop-command
invariant-loop-command g l = record {
  runs : Runs (IsStep g.D.DescriptorDevice.meaning) (take l.command-index l.commands) l.replies.items (side (value_of l.fn.self) (g.D.DescriptorDevice.ledger l.fn.device)) (side (value_of l.self) (g.D.DescriptorDevice.ledger l.device));
  keeps : KeepsSession g.D.DescriptorDevice.meaning (side (value_of l.fn.self) (g.D.DescriptorDevice.ledger l.fn.device)) (side (value_of l.self) (g.D.DescriptorDevice.ledger l.device));
  filled : vec_len l.replies ≡ l.command-index;
  reserve : length l.commands ≤ vec_capacity l.replies;
  turned_away : All IsTurnedAway l.replies.items → l.device ≡ l.fn.device;
}
