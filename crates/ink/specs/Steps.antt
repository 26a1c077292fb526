-- What the functions inside answer of a file, or a part of it, at a thickness of t micrometres.
use Rattle.std.specs.Prelude.{ℕ, List, Result, Ok, Err}
use Rattle.file_formats.specs.Formats.{Decoded, holds, broken, sequence}
use Rattle.file_formats.specs.LayerFile.{Layer, layer_format, height_of, lowest}
use Rattle.file_formats.specs.Positions.{breaks_at}
use Rattle.file_formats.specs.declared.Broken.{Broken}
use Rattle.file_check.specs.Answers.{end_at}
use Rattle.ink.specs.Charges.{job_charge}

-- the first n layers of a file, and the position after them
abbrev pub charges_at : ℕ → ℕ → List ℕ → ℕ → Result (ℕ × ℕ) Broken
charges_at t n = end_at (λ ls next. (job_charge t ls, next)) (sequence layer_format height_of n lowest)

-- what a file holds
abbrev pub charge_of : ℕ → Decoded (List Layer) → Result ℕ Broken
charge_of t (holds ls) = Ok (job_charge t ls)
charge_of t (broken place) = Err (breaks_at place)
