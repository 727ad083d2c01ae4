-- What `?` hands on.
use Rattle.std.proofs.Common.{◌≡◌, Result, Ok, Err}
use Rattle.std.specs.Result.{IsErrAnd}

-- the error is handed on as it is
pub passed : {T E : Type 0} (r : Result T E) (e : E) → IsErrAnd r (λ f. f ≡ e) → r ≡ Err e
passed (Ok x) e is = absurd is
passed (Err f) e is = (let same : f ≡ e = is in cc)
