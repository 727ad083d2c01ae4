use Rattle.std.proofs.Common.{◌≡◌, ◌++◌, ℕ, List, ◌∷◌, [], codes, OnOk, ap, ◌∙◌, append_assoc, rules}
use Rattle.std.proofs.lemmas.Result.{IfOk-weaker}
use Rattle.std.specs.String.{string_bytes}
use Rattle.std.specs.Fmt.{decimal}
use Rattle.gpu_descriptor_types.specs.Counts.{kinds}
use Rattle.descriptor_lines.specs.Answers.{kinds_answer}
use Rattle.descriptor_lines.proofs.answer.size_answer.Goals as goal

joined : (old head kinds end : List ℕ) → ((old ++ head) ++ kinds) ++ end ≡ old ++ ((head ++ kinds) ++ end)
joined old head kinds end = simp append_assoc

pub returns : goal.returns
returns c =
    let head : string_bytes c.write.new.self ≡ string_bytes c.args.answer.now ++ (codes "size " ++ decimal c.args.sets) = search rules in
    let answered : string_bytes c.kinds_answer.new.answer ≡ string_bytes c.write.new.self ++ kinds_answer (kinds c.args.counts.now) = c.in_ok-kinds_answer.ensures ∙ ap (λ counts. string_bytes c.write.new.self ++ kinds_answer counts) c.to_array.ensures in
    let ended : OnOk c.push.result (string_bytes c.push.new.self ≡ string_bytes c.kinds_answer.new.answer ++ 10 ∷ []) = search rules in
    IfOk-weaker c.push.result _ _ (λ _ is. is ∙ ap (λ bytes. bytes ++ 10 ∷ []) (answered ∙ ap (λ bytes. bytes ++ kinds_answer (kinds c.args.counts.now)) head) ∙ joined (string_bytes c.args.answer.now) (codes "size " ++ decimal c.args.sets) (kinds_answer (kinds c.args.counts.now)) (10 ∷ [])) ended
