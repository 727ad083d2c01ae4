use Rattle.std.proofs.Common.{◌≡◌, ◌+◌, [], ◌∷◌, ◌++◌, Some, take, sym, ap, ◌∙◌, arith}
use Rattle.std.proofs.lemmas.List.{take_more}
use Rattle.std.proofs.lemmas.List.Elements.{All-pop}
use Rattle.descriptor_script.specs.Sessions.Steps.{IsTurnedAway}
use Rattle.descriptor_script.specs.declared.command.Command.{Command}
use Rattle.descriptor_script.proofs.Running.{runs_more, session_through}
use Rattle.descriptor_script.proofs.session.Session.run.Goals as goal

pub loop-command-preserved : goal.loop-command-preserved
loop-command-preserved g c =
    let inv = c.loop-command.invariant in
    let command : Command = c.command-item.result in
    let commands : take (c.loop-command.command-index + 1) c.args.commands.now ≡ take c.loop-command.command-index c.args.commands.now ++ command ∷ [] =
    take_more c.args.commands.now c.loop-command.command-index command c.loop-command-test.true ∙ ap (λ x. take c.loop-command.command-index c.args.commands.now ++ x ∷ []) (sym c.command-item.is) in
    let p = c.step-reply.ensures in
    let more = runs_more g.D.DescriptorDevice.meaning (take c.loop-command.command-index c.args.commands.now) c.loop-command.replies.items command c.step-reply.result _ _ _ inv.runs (p.step, p.keeps) in
    record {
      runs = rw (commands, c.push_reserved.ensures.items) more;
      keeps = session_through _ inv.keeps p.keeps;
      filled = (let f = inv.filled in let l = c.push_reserved.ensures.len in omega arith);
      turned_away = λ all. (let (before, last) = All-pop IsTurnedAway _ c.loop-command.replies.items (Some c.step-reply.result) c.push_reserved.ensures.items all in p.device last ∙ inv.turned_away before);
      reserve = (let r = inv.reserve in let cap = c.push_reserved.ensures.capacity in omega arith);
    }
