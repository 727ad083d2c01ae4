use Rattle.std.proofs.Common.{◌++◌, OnErr, Result, Ok, Err, ap, refl, ◌∙◌}
use Rattle.std.proofs.lemmas.Result.{IfOk-weaker}
use Rattle.gpu_descriptor_types.specs.Counts.{kinds}
use Rattle.descriptor_lines.specs.Answers.{size_answer}
use Rattle.descriptor_lines.proofs.program.Program.run.Goals as goal

on_err : {T E : Type 0} (r : Result T E) (P : Type 0) → P → OnErr r P
on_err (Ok x) P holds = tt
on_err (Err e) P holds = holds

pub returns-in-Size : goal.returns-in-Size
returns-in-Size g c =
    let size = c.new_pool_size-sets in
    rw c.in-Size.is (record {
      runs = record {
        done = IfOk-weaker c.size_answer.result _ _ (λ _ written. (refl, size.result.1, size.ensures.sets, written ∙ ap (λ old. old ++ size_answer size.result.1 (kinds size.result.0)) c.requires.can.empty ∙ ap (λ counts. size_answer size.result.1 counts) size.ensures.counts)) c.size_answer.ensures;
        err = on_err c.size_answer.result _ (record { layouts = refl; session = refl; script = refl });
        ready = c.requires.can.ready;
        begun = λ is. is;
      };
    })
