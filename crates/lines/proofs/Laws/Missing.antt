-- A `?` behind `ok_or`. Assumes nothing.
use mathlib.Core.Path.{◌≡◌, ap, ◌∙◌}
use Rattle.std.specs.Option.{ok_or}
use Rattle.std.specs.Prelude.{Option, None, Result, Err, IsErrAnd}
use Rattle.std.proofs.lemmas.Result.{err_from_is_err_and}

-- where there is nothing, it returns the error
pub missing : {T U E : Type 0} → (o : Option T) (e f : E) (r : Result U E) → Err f ≡ ok_or o e → o ≡ None → IsErrAnd r (λ y. y ≡ f) → r ≡ Err e
missing {T} {U} {E} o e f r given none exit =
    let (y, is, same) = err_from_is_err_and r exit in
    let told : Err f ≡ Err e = given ∙ ap (λ (p : Option T). ok_or p e) none in
    let error : f ≡ e = cc in
    is ∙ ap {B = Result U E} Err (same ∙ error)
