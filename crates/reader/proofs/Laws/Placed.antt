-- A `?` behind `map_err`, which gives an error its place. Assumes nothing.
use mathlib.Core.Path.{◌≡◌, ap, ◌∙◌, sym, subst}
use Rattle.std.specs.Prelude.{Result, Ok, Err, IsErrAnd, MatchResult}
use Rattle.std.proofs.lemmas.Result.{err_from_is_err_and}

-- what went well is as it was
pub well : {T E F : Type 0} → (P : E → F → Type 0) (r : Result T E) (s : Result T F) (t : T) → s ≡ Ok t
    → MatchResult r (λ x. s ≡ Ok x) (λ e. IsErrAnd s (P e)) → r ≡ Ok t
well {T} {E} {F} P (Ok x) s t e m =
    let told : Ok t ≡ Ok x = sym e ∙ m in
    let same : x ≡ t = cc in
    ap {B = Result T E} Ok same
well {T} {E} {F} P (Err x) s t e m = absurd (subst (λ (o : Result T F). IsErrAnd o (P x)) e m)

-- what is returned where it did not, if the closure makes it so
pub badly : {T U E F : Type 0} → (P : E → F → Type 0) (made : E → F) (r : Result T E) (s : Result T F) (y : F) (out : Result U F) → s ≡ Err y
    → MatchResult r (λ x. s ≡ Ok x) (λ e. IsErrAnd s (P e)) → IsErrAnd out (λ z. z ≡ y) → ((e : E) → P e y → y ≡ made e)
    → (e : E) × (r ≡ Err e) × (out ≡ Err (made e))
badly {T} {U} {E} {F} P made (Ok x) s y out e m exit so = absurd (let told : Err y ≡ Ok x = sym e ∙ m in cc)
badly {T} {U} {E} {F} P made (Err x) s y out e m exit so =
    let (z, is, same) = err_from_is_err_and out exit in
    (x, (λ k. Err x), is ∙ ap {B = Result U F} Err (same ∙ so x (subst (λ (o : Result T F). IsErrAnd o (P x)) e m)))
