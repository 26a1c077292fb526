-- What a `?` gives back, where the error that it meets needs no conversion.
use mathlib.Core.Path.{◌≡◌, ap, sym, ◌∙◌}
use Rattle.std.specs.Prelude.{Result, Err}
use Rattle.std.specs.Result.{IsErrAnd}
use Rattle.std.proofs.lemmas.Result.{err_from_is_err_and}

-- it is that error
pub raised : {T E : Type 0} {e : E} (r : Result T E) → IsErrAnd r (λ y. y ≡ e) → r ≡ Err e
raised r h = let p = err_from_is_err_and r h in p.1 ∙ ap Err p.2

-- and so, where a call of the same type was to blame, what that gave
pub handed_on : {T E : Type 0} {e : E} {met r : Result T E} → met ≡ Err e → IsErrAnd r (λ y. y ≡ e) → r ≡ met
handed_on {r = r} was h = raised r h ∙ sym was
