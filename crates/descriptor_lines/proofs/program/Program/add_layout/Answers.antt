use Rattle.std.proofs.Common.{append_assoc, ◌∷◌, ◌++◌, [], ap, refl, sym, ◌∙◌, rules}
use Rattle.std.proofs.lemmas.List.{map-append}
use Rattle.std.proofs.lemmas.List.Elements.{All-push}
use Rattle.gpu_descriptor.specs.Caller.SetLayouts.{IsMeant}
use Rattle.descriptor_script.specs.Scripted.Raw.{script_meaning}
use Rattle.descriptor_script.specs.Sessions.Session.{value_of}
use Rattle.descriptor_lines.specs.LayoutTables.{layouts_in}
use Rattle.descriptor_lines.proofs.SessionLemmas.{same_is_ready}
use Rattle.descriptor_lines.proofs.program.Program.add_layout.Goals as goal

pub returns-in-Ok : goal.returns-in-Ok
returns-in-Ok g c =
    let old = c.requires.can.ready in
    record {
      runs = record {
        done = (c.args.layout, refl, search rules, search (rules, append_assoc));
        err = tt;
        ready = record {
          ready = rw c.in-Ok.ensures.last (same_is_ready (value_of c.args.self.now.session) _ _ old.ready (All-push (IsMeant script_meaning) (value_of c.args.self.now.session).layouts _ old.ready.meant (record { counted = refl; marked = c.flags.ensures })));
          layouts = rw (ap (λ s. s.layouts) c.in-Ok.ensures.last, c.push.ensures.layouts, c.reserve.ensures.same) (map-append (λ k. k.layout) (value_of c.args.self.now.session).layouts _ ∙ ap (λ ls. ls ++ record { counts = c.args.layout.counts; mark = c.args.layout.mark } ∷ []) old.layouts ∙ sym (map-append (λ l. record { counts = l.1.counts; mark = l.1.mark }) (layouts_in c.args.self.now.layouts) _));
          fresh = λ unbegun. (let begun = c.requires.begun in cc);
        };
        begun = λ is. is;
      };
    }
