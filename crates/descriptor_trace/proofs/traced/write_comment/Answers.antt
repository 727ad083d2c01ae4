use Rattle.std.proofs.Common.{List, [], ◌∷◌, ◌++◌, Ok, Err, OnErr, Result, ℕ}
use Rattle.descriptor_trace.proofs.Written.{part_of_first, part_of_second}
use Rattle.descriptor_trace.proofs.traced.write_comment.Goals as goal

on_err : {T E P Q : Type 0} (r : Result T E) → (P → Q) → OnErr r P → OnErr r Q
on_err (Ok x) f p = tt
on_err (Err e) f p = f p

at_err : {T E P : Type 0} (r : Result T E) → P → OnErr r P
at_err (Ok x) p = tt
at_err (Err e) p = p

pub returns-in_err-write_bytes-clause-part : goal.returns-in_err-write_bytes-clause-part
returns-in_err-write_bytes-clause-part g c = at_err c.from_residual.result (part_of_first _ _ (35 ∷ 32 ∷ []) (c.args.line.now ++ 10 ∷ []) c.in_err-write_bytes.ensures.prefix)

pub returns-in_err-write_bytes-2-clause-part : goal.returns-in_err-write_bytes-2-clause-part
returns-in_err-write_bytes-2-clause-part g c = at_err c.from_residual-in_err-write_bytes-2.result (part_of_second _ _ _ (35 ∷ 32 ∷ []) (c.args.line.now ++ 10 ∷ []) c.in_ok-write_bytes.ensures.written (part_of_first _ _ c.args.line.now (10 ∷ []) c.in_err-write_bytes-2.ensures.prefix))

pub returns-clause-part : goal.returns-clause-part
returns-clause-part g c = on_err c.write_bytes-3.result (λ part. part_of_second _ _ _ (35 ∷ 32 ∷ []) (c.args.line.now ++ 10 ∷ []) c.in_ok-write_bytes.ensures.written (part_of_second _ _ _ c.args.line.now (10 ∷ []) c.in_ok-write_bytes-2.ensures.written part)) c.write_bytes-3.ensures.prefix
