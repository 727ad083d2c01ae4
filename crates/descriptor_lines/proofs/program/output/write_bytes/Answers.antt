use Rattle.std.proofs.Common.{◌≡◌, ℕ, ◌-◌, List, ◌++◌, length, take, drop, sym, ap, ◌∙◌, append_assoc, take-append-drop}
use Rattle.std.proofs.lemmas.List.{take_rest}
use Rattle.std.proofs.KnownBytes.{Appends-trans}
use Rattle.descriptor_lines.proofs.program.output.write_bytes.Goals as goal

moves_front : (all written rest : List ℕ) (n : ℕ) → all ≡ written ++ rest → all ≡ (written ++ take n rest) ++ take (length rest - n) (drop n rest)
moves_front all written rest n split =
    split ∙ ap (λ l. written ++ l) (sym (take-append-drop n rest)) ∙ sym (append_assoc written (take n rest) (drop n rest)) ∙ ap (λ l. (written ++ take n rest) ++ l) (sym (take_rest rest n))

pub loop-rest-preserved : goal.loop-rest-preserved
loop-rest-preserved g c =
    let (written, split, appended) = c.loop-rest.invariant in
    let rest = c.loop-rest.rest.now in
    let n = c.in-Ok.count in
    (written ++ take n rest, moves_front _ written rest n split, Appends-trans _ _ _ _ _ appended c.in-Ok.ensures.bytes)
