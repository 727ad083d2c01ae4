use Rattle.std.proofs.Common.{All, [], ◌++◌, map, ap, subst, sym, refl, ◌∙◌}
use Rattle.std.proofs.lemmas.List.Elements.{All-cons, All-nil}
use Rattle.descriptor_script.specs.Sessions.SessionRun.{IsStep}
use Rattle.descriptor_script.specs.Sessions.Steps.{IsTurnedAway}
use Rattle.descriptor_lines.specs.ReplyTexts.{text_of_reply}
use Rattle.descriptor_lines.proofs.OneCommand.{one_reply, one_step, same_step}
use Rattle.descriptor_lines.proofs.program.Program.ask.Goals as goal

pub returns-in-Some : goal.returns-in-Some
returns-in-Some g c =
    let reply = c.in-Some.reply in
    let run = c.in_ok-run.ensures in
    let old = c.requires.can in
    let one = one_reply (IsStep g.D.DescriptorDevice.meaning) c.args.command _ _ reply _ _ run.runs c.in-Some.ensures.items in
    let step = same_step c.args.command reply g.met.D.ScriptedMeaning.scripted (one_step (IsStep g.D.DescriptorDevice.meaning) c.args.command _ reply _ _ run.runs one) in
    record {
      runs = record {
        done = record {
          reply = reply;
          said = c.reply_answer.ensures.text ∙ ap (λ before. before ++ text_of_reply c.run.new.self.slots.sets.items reply) (c.in_ok-reserve.ensures.bytes ∙ old.empty);
          step = step.0;
          turned_away = λ turned. ap g.D.LineDevice.script (run.turned_away (subst (All IsTurnedAway) (sym one) (All-cons IsTurnedAway reply [] turned (All-nil IsTurnedAway))));
          keeps = step.1;
          layouts = refl;
        };
        err = tt;
        ready = record { ready = step.1.ready; layouts = ap (map (λ k. k.layout)) step.1.layouts ∙ old.ready.layouts; fresh = old.ready.fresh };
        begun = λ is. is;
      };
    }
