-- What the reading of an input answers: a position of a buffer, not before where it began.
use Rattle.std.specs.Prelude.{ℕ, ◌≤◌, Result, Ok, Err}

abbrev pub Within : {E : Type 0} → ℕ → ℕ → Result ℕ E → Type 0
Within done size (Ok n) = (done ≤ n) × (n ≤ size)
Within done size (Err e) = Unit {0}
